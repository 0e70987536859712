-- The network read back from memory that holds a run and tells its links at epsilon 0 is the rules' own.
use mathlib.Core.Path.{◌≡◌, refl}
use mathlib.Core.Bool.{Bool, true, false, ◌&&◌}
use mathlib.Core.List.{List}
use Prim.Native.Nat.{ℕ, ◌≤◌, ◌<◌, min, max}
use native.Mathlib.Omega.{arith}
use lib.Dec.{ltb, eqb}
use lib.ListN.{length}
use borrow.Author.Tests.{ltb-true, eqb-true, eq-eqb, ne_eqb}
use Rattle.graph.specs.Below.{only}
use Rattle.graph.specs.Spans.{spans, feasible}
use Rattle.graph.proofs.Below.{gather_ext, same_tests}
use Rattle.graph.proofs.Spans.{feasible-is}
use Rattle.rules.specs.Job.{Bytes, Row}
use Rattle.rules.specs.Types.{rows_of}
use Rattle.rules.specs.Distance.{apart}
use Rattle.rules.specs.Links.{links_at}
use Rattle.rules.specs.Purge.{Run, purge}
use Rattle.rules.specs.Run.{phase_two}
use Rattle.rules.specs.declared.Link.{Link}
use Rattle.distances.specs.Area.{cell_at, Measures}
use Rattle.links.specs.Marks.{marked, TellsLinks}
use Rattle.purge.specs.Holds.{Holds}
use Rattle.purge.specs.Network.{links_in, network_in}
use Rattle.purge.specs.declared.state.Held.{Held}
use Rattle.purge.proofs.Back.{current-back}
use Rattle.purge.proofs.Told.{rows-count}

module _ (ws : List ℕ) (e : ℕ) (rs : List Row) {area : List ℕ} (measures : Measures ws rs area) (tells : TellsLinks ws e rs area) where
  -- A pair is marked exactly if the rules' test finds it feasible.
  marked-feasible : (i j : ℕ) → i < j → j < length rs → marked area i j ≡ feasible (apart ws rs) (spans (length rs) (apart ws rs)) e i j
  marked-feasible i j h l =
      let lo : min i j ≡ i = omega arith in
      let up : max i j ≡ j = omega arith in
      let is = feasible-is (length rs) (apart ws rs) e i j (omega arith) l (omega arith) in
      let at = tells.linked i j h l in
      rw (ne_eqb i j (omega arith), lo, up) (same_tests (eqb (cell_at area j i) 1) _ (λ t. is.1 (at.0 (eqb-true _ 1 t))) (λ t. eq-eqb _ 1 (at.1 (is.0 t))))

  -- The links that the area tells are the rules' list of them.
  pub links-told : links_in (length rs) area ≡ links_at ws e rs
  unfolding links_in links_at
  links-told = gather_ext n _ _ (λ i hi. gather_ext n _ _ (λ j hj. pair i j hj (ltb i j) refl))
    where
      n : ℕ
      n = length rs

      test : ℕ → ℕ → Bool
      test = feasible (apart ws rs) (spans (length rs) (apart ws rs)) e

      pair : (i j : ℕ) → j < length rs → (t : Bool) → ltb i j ≡ t →
          only {A = Link} (t && marked area i j) (record { low = i; high = j; length = cell_at area i j })
          ≡ only (t && test i j) (record { low = i; high = j; length = apart ws rs i j })
      pair i j hj false f = refl
      pair i j hj true t = let h = ltb-true i j t in rw (marked-feasible i j h hj, measures i j h hj)

-- The network of a settled run, purged at epsilon 0.
module _ {m : ℕ} {ws : List ℕ} (end : Run) {states : Bytes} {area : List ℕ} {held : Held}
    (holds : Holds m ws (purge ws 0 end) states area held) (tells : TellsLinks ws 0 (rows_of (purge ws 0 end).current) area)
    (few : held.state.types ≤ 128) where
  pub network-told : network_in m states area held ≡ phase_two ws end
  unfolding network_in phase_two
  network-told =
      let types = current-back holds few in
      let links = rw (rows-count holds few) at (links-told ws 0 (rows_of (purge ws 0 end).current) holds.distances_are tells) in
      let rounds = holds.rounds_are in
      λ i. record { types = types i; links = links i; rounds = rounds i }
