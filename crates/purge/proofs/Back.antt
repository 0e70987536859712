-- What memory holds, read back: it is the run, and memory that holds a run and tells its links can be no other.
-- So what the contract of `purge` leaves is the purge of what was there, and nothing else.
use mathlib.Core.Path.{◌≡◌, sym, ap, ap₂, ◌∙◌}
use mathlib.Core.Logic.{◌≢◌, ⊎_elim}
use mathlib.Core.List.{List, []}
use Prim.Native.Nat.{ℕ, ◌+◌, ◌*◌, ◌-◌, ◌≤◌, ◌<◌}
use native.Mathlib.Omega.{arith}
use native.Mathlib.Decide.{dec_lt}
use lib.ListN.{length, get_or, replicate, length-map, get_or-append}
use lib.Seq.{get_or-append-add, ext_get_or}
use Rattle.graph.specs.Below.{table}
use Rattle.graph.proofs.Below.{table_ext, table-get_or}
use Rattle.rules.specs.Job.{Bytes, Row}
use Rattle.rules.specs.Types.{Node, row_at, rows_of, node_at}
use Rattle.rules.specs.Purge.{Run, purge}
use Rattle.rules.specs.Round.{made}
use Rattle.rules.specs.Call.{padded}
use Rattle.rules.specs.declared.Kind.{Kind}
use Rattle.rules.proofs.Keeps.{made-count, made-purges}
use Rattle.rules.proofs.Ends.{purges}
use Rattle.memory.proofs.Placed.{placed-padded}
use Rattle.types.specs.State.{laid, row_in, nodes_in}
use Rattle.types.proofs.State.{row_back, row_of, kinds-at}
use Rattle.distances.proofs.Area.{cell-or-not}
use Rattle.links.specs.Marks.{TellsLinks}
use Rattle.links.proofs.Marks.{same-mark}
use Rattle.purge.specs.State.{epsilon_of}
use Rattle.purge.specs.Holds.{Holds, Purged, run_in}
use Rattle.purge.specs.declared.state.Held.{Held}
use Rattle.purge.proofs.Told.{rows-count}
use Rattle.purge.proofs.Once.{current-few}

-- The run is read back as memory holds it.
module _ {m : ℕ} {ws : List ℕ} {run : Run} {states : Bytes} {area : List ℕ} {held : Held}
    (holds : Holds m ws run states area held) (few : held.state.types ≤ 128) where
  row-held : (i : ℕ) → i < length (made run) → row_in m states i ≡ row_at (made run) i
  row-held i h =
      let e = holds.states_are ∙ sym (placed-padded (length states) (laid (made run))) in
      rw e (row_back m (made run) holds.narrow holds.wide (replicate (length states) 0) i h)

  pub current-back : nodes_in m held.state.types states held.kinds ≡ run.current
  unfolding nodes_in
  current-back =
      let ts = run.current in
      let node : Row → Kind → Node = λ r k. record { row = r; origin = k.origin } in
      rw (holds.types_are, holds.kinds_are)
      (table_ext (length ts) _ (node_at ts) (λ i h. ap₂ node
      (row-held i (omega (arith, made-count run)) ∙ get_or-append (rows_of ts) run.retired [] i (rw length-map h) ∙ row_of ts i)
      (kinds-at ts i (omega (arith, holds.types_are))))
      ∙ table-get_or ts _)

  pub run-back : run_in m states held ≡ run
  unfolding run_in
  run-back = let c = current-back in let r = retired-back in let n = holds.rounds_are in
      λ i. record { current = c i; retired = r i; rounds = n i }
    where
      retired-back : table (held.state.made - held.state.types) (λ k. row_in m states (held.state.types + k)) ≡ run.retired
      retired-back =
          let all = made-count run in
          let n : held.state.made - held.state.types ≡ length run.retired = omega (arith, holds.made_are, holds.types_are) in
          let behind = get_or-append-add (rows_of run.current) run.retired in
          rw n (table_ext (length run.retired) _ (row_at run.retired)
          (λ k h. row-held _ (omega (arith, holds.types_are)) ∙ rw (← rows-count holds few) (behind k []))
          ∙ table-get_or run.retired [])

-- Memory that holds a run and tells its links, of one size and phase, is one.
module _ {m : ℕ} {ws : List ℕ} {run : Run} {e : ℕ} {states states' : Bytes} {area area' : List ℕ} {held held' : Held}
    (a : Holds m ws run states area held) (tells : TellsLinks ws e (rows_of run.current) area)
    (b : Holds m ws run states' area' held') (tells' : TellsLinks ws e (rows_of run.current) area')
    (few : length run.current ≤ 128) where
  same-cell : (p : ℕ) → get_or area p 0 ≡ get_or area' p 0
  same-cell p = ⊎_elim (λ s. let (i, j, h, l, at) = s in rw at (pair i j h l))
      (λ none. a.rest_zero p (λ i j h l ne. none i j h l) ∙ sym (b.rest_zero p (λ i j h l ne. none i j h l)))
      (cell-or-not (length run.current) p few)
    where
      pair : (i j : ℕ) → i < length run.current → j < length run.current → get_or area (128 * i + j) 0 ≡ get_or area' (128 * i + j) 0
      pair i j h l = elim (dec_lt i j) [
        | yes r ↦ a.distances_are i j r (rw length-map l) ∙ sym (b.distances_are i j r (rw length-map l))
        | no f ↦ elim (dec_lt j i) [
          | yes r ↦ let k : i < length (rows_of run.current) = rw length-map h in
              same-mark (tells.linked j i r k) (tells'.linked j i r k) (tells.or_not j i r k) (tells'.or_not j i r k)
          | no g ↦ let other : (x y : ℕ) → x < length run.current → y < length run.current → x ≢ y → 128 * i + j ≢ 128 * x + y =
              λ x y hx hy ne z. omega arith in
              a.rest_zero _ other ∙ sym (b.rest_zero _ other)
        ]
      ]

  pub holds-one : length states ≡ length states' → length area ≡ length area' → held.state.phase ≡ held'.state.phase →
      (states ≡ states') × (area ≡ area') × (held ≡ held')
  holds-one s n phase = (
    a.states_are ∙ ap (λ (k : ℕ). padded k (laid (made run))) s ∙ sym b.states_are,
    ext_get_or 0 area area' n (λ p h. same-cell p),
    same-held,
  )
    where
      same-held : held ≡ held'
      same-held =
          let types = a.types_are ∙ sym b.types_are in
          let all = a.made_are ∙ sym b.made_are in
          let rounds = a.rounds_are ∙ sym b.rounds_are in
          let kinds = a.kinds_are ∙ sym b.kinds_are in
          λ i. record { state = record { types = types i; made = all i; rounds = rounds i; phase = phase i }; kinds = kinds i }

module _ {m : ℕ} {ws : List ℕ} {run : Run} {states : Bytes} {area : List ℕ} {held : Held}
    (holds : Holds m ws run states area held) (full : held.state.made ≤ 128) where
  abbrev purged : Run
  purged = purge ws (epsilon_of held.state.phase) run

  purged-few : length purged.current ≤ 128
  purged-few = omega (arith, made-purges (purges ws (epsilon_of held.state.phase) run), made-count purged, holds.made_are)

  module _ {states' : Bytes} {area' : List ℕ} {held' : Held} (p : Purged states area held states' area' held') where
    -- What is read back after a purge is the purge of what was read back before it.
    pub purged-back : run_in m states' held' ≡ purge ws (epsilon_of held.state.phase) (run_in m states held)
    purged-back =
        let after = p.holds m ws run holds in
        rw (run-back holds (omega (arith, current-few holds))) (run-back after (rw after.types_are purged-few))

    -- The contract leaves no choice.
    pub purged-one : {states'' : Bytes} {area'' : List ℕ} {held'' : Held} → Purged states area held states'' area'' held'' →
        (states' ≡ states'') × (area' ≡ area'') × (held' ≡ held'')
    purged-one q = holds-one (p.holds m ws run holds) (p.tells m ws run holds) (q.holds m ws run holds) (q.tells m ws run holds)
        purged-few (p.states_size ∙ sym q.states_size) (p.area_size ∙ sym q.area_size) (p.phase_stays ∙ sym q.phase_stays)
