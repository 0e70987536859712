-- RULES 19.3, the third demand: what is drawn for a job is all cheapest trees over the kept types, laid over each other.
use mathlib.Core.Path.{◌≡◌}
use mathlib.Core.Logic.Iff
use mathlib.Core.Logic.{◌↔◌, ◌≢◌}
use mathlib.Core.Bool.{true}
use mathlib.Core.List.{List}
use Prim.Native.Nat.{ℕ, ◌<◌}
use lib.ListN.{length, length-map}
use Rattle.graph.specs.Walk.{Walk}
use Rattle.graph.specs.Tree.{InCheapest}
use Rattle.graph.proofs.Below.{in_at, in_place}
use Rattle.graph.proofs.Walks.{relax}
use Rattle.graph.proofs.Theorems.{links-join, spanned}
use Rattle.rules.specs.Job.{Row}
use Rattle.rules.specs.Types.{Node, rows_of}
use Rattle.rules.specs.Distance.{apart}
use Rattle.rules.specs.Links.{FeasibleLink, links_at, link_at, linked}
use Rattle.rules.specs.Purge.{Run, purge}
use Rattle.rules.specs.Run.{phase_two}
use Rattle.rules.specs.declared.Link.{Link}
use Rattle.rules.proofs.Distance.{apart_sym}
use Rattle.rules.proofs.Links.{linked_in, linked-is}
use Rattle.claims.specs.Drawing.{Listed, JoinsAll}

-- ── The links of any types ──

listed-linked : (ls : List Link) (u v : ℕ) → u ≢ v → Listed ls u v ↔ (linked ls u v ≡ true)
listed-linked ls u v ne = Iff.trans (
  λ s. (link_at ls s.0, in_at ls s.0 _ s.1, s.2),
  λ s. let p = in_place s.0 ls s.1 in (p.0, p.1, rw p.2 s.2),
) (Iff.symm (linked_in ls u v ne))

module _ (ws : List ℕ) (ts : List Node) where
  abbrev rs : List Row
  rs = rows_of ts

  -- A type's number is below the number of types, which is that of their rows.
  listed-feasible : (e u v : ℕ) → u < length ts → v < length ts → u ≢ v → Listed (links_at ws e rs) u v ↔ FeasibleLink ws e rs u v
  listed-feasible e u v hu hv ne =
      Iff.trans (listed-linked (links_at ws e rs) u v ne) (Iff.trans (linked-is ws e rs u v ne) (λ s. s.2, λ f. (rw length-map hu, rw length-map hv, f)))

  pub listed-cheapest : (u v : ℕ) → u < length ts → v < length ts → u ≢ v →
      Listed (links_at ws 0 rs) u v ↔ InCheapest (length ts) (apart ws rs) u v
  listed-cheapest u v hu hv ne =
      Iff.trans (listed-feasible 0 u v hu hv ne)
      (rw (length-map ts (λ t. t.row)) (spanned (length ts) (apart ws rs) (apart_sym ws rs) u v hu hv ne))

  listed-join : (e u v : ℕ) → u < length ts → v < length ts → Walk (Listed (links_at ws e rs)) u v
  listed-join e u v hu hv =
      relax (λ a b s. (listed-linked (links_at ws e rs) a b s.differ).1 ((linked-is ws e rs a b s.differ).1 (s.from, s.to, s.feasible)))
      (links-join (length rs) (apart ws rs) (apart_sym ws rs) e u v (rw length-map hu) (rw length-map hv))

-- ── The network that Phase II leaves ──

pub network-joined : (ws : List ℕ) (run : Run) → JoinsAll (phase_two ws run)
unfolding phase_two
network-joined ws run = listed-join ws (purge ws 0 run).current 0
