-- One purge: memory that holds a run and tells its links holds the run after all obsolete types went together.
use mathlib.Core.Path.{◌≡◌, sym, ap, ap₂, ◌∙◌}
use mathlib.Core.Logic.{◌≢◌, ⊎_elim}
use mathlib.Core.Bool.{Bool, not, not-not}
use mathlib.Core.List.{List, [], ◌++◌}
use Prim.Native.Nat.{ℕ, ◌+◌, ◌*◌, ◌≤◌, ◌<◌}
use native.Mathlib.Omega.{arith}
use native.Mathlib.Decide.{dec_lt}
use lib.ListN.{length, get_or, drop, length-append, length-map, length-replicate, get_or-append, get_or-eq_default}
use lib.Seq.{drop_at}
use Rattle.graph.specs.Below.{table, gather, only}
use Rattle.graph.proofs.Below.{gather_ext, length-table, get_or-table, map-kept}
use Rattle.rules.specs.Job.{Bytes, Row}
use Rattle.rules.specs.Distance.{distance}
use Rattle.rules.specs.Types.{Node, row_at, rows_of, node_at}
use Rattle.rules.specs.Purge.{Run, links_of, obsolete, purge_once}
use Rattle.rules.specs.Round.{made}
use Rattle.rules.specs.Call.{padded}
use Rattle.rules.specs.declared.Link.{Link}
use Rattle.rules.proofs.Keeps.{made-count, made-once}
use Rattle.types.specs.State.{laid, blank, kind_of}
use Rattle.types.proofs.State.{OfWidth, length-laid, row_of, kinds-at, kinds-is}
use Rattle.distances.specs.Area.{Measures}
use Rattle.distances.proofs.Area.{cell-or-not}
use Rattle.purge.specs.Left.{Chosen, is_kept}
use Rattle.purge.proofs.retire.Kept.{kept-gather}
use Rattle.purge.proofs.retire.Squeezed.{squeezed-stays, squeezed-none}
use Rattle.purge.proofs.retire.Laid.{parted_rows, parted-wide, parted-laid}
use Rattle.links.specs.Marks.{TellsLinks}
use Rattle.purge.specs.Stay.{staying, Stays}
use Rattle.purge.specs.Once.{Once}
use Rattle.purge.specs.Holds.{Holds}
use Rattle.purge.specs.declared.state.Held.{Held}
use Rattle.purge.specs.declared.stay.Stay.{Stay}
use Rattle.purge.proofs.stay.Places.{stays-chosen, stays-kept}
use Rattle.purge.proofs.Told.{staying-is}

pub current-few : {m : ℕ} {ws : List ℕ} {run : Run} {states : Bytes} {area : List ℕ} {held : Held} → Holds m ws run states area held →
    held.state.types ≤ held.state.made
current-few {run} holds = omega (arith, holds.types_are, holds.made_are, made-count run)

module _ {m : ℕ} {ws : List ℕ} {run : Run} {states : Bytes} {area : List ℕ} {held : Held}
    (holds : Holds m ws run states area held) (full : held.state.made ≤ 128) (room : 8192 ≤ length states)
    {e : ℕ} (tells : TellsLinks ws e (rows_of run.current) area)
    {stay : Stay} (stays : Stays (staying area held.kinds held.state.types) stay) where
  abbrev ts : List Node
  ts = run.current

  abbrev ls : List Link
  ls = links_of ws e run

  abbrev next : Run
  next = purge_once ls run

  few : held.state.types ≤ 128
  few = omega (arith, current-few holds)

  abbrev keeps : ℕ → Bool
  keeps i = is_kept stay.kept stay.count i

  by_rules : Stays (gather (length ts) (λ i. only (not (obsolete ts ls i)) i)) stay
  by_rules = rw (staying-is holds few tells) at stays

  chosen : Chosen stay.kept stay.count (length ts)
  chosen = stays-chosen (length ts) (λ i. not (obsolete ts ls i)) by_rules

  -- Those kept are not obsolete.
  kept_is : (i : ℕ) → i < length ts → keeps i ≡ not (obsolete ts ls i)
  kept_is = stays-kept (length ts) (λ i. not (obsolete ts ls i)) by_rules

  current-is : next.current ≡ gather (length ts) (λ i. only (keeps i) (node_at ts i))
  unfolding purge_once
  current-is = gather_ext (length ts) _ _ (λ i h. rw (kept_is i h))

  as_table : next.current ≡ table stay.count (λ a. node_at ts (get_or stay.kept a 0))
  as_table = current-is ∙ kept-gather chosen (node_at ts)

  count_is : length next.current ≡ stay.count
  count_is = ap length as_table ∙ length-table stay.count _

  node-is : (a : ℕ) → a < stay.count → node_at next.current a ≡ node_at ts (get_or stay.kept a 0)
  node-is a h = rw as_table (get_or-table stay.count _ a _ h)

  row_is : (a : ℕ) → a < stay.count → row_at (rows_of next.current) a ≡ row_at (rows_of ts) (get_or stay.kept a 0)
  row_is a h = row_of next.current a ∙ ap (λ (t : Node). t.row) (node-is a h) ∙ sym (row_of ts _)

  -- The rows made, in the order of memory.
  abbrev rs : List Row
  rs = made run

  made_row : (i : ℕ) → i < length ts → (node_at ts i).row ≡ row_at rs i
  made_row i h = sym (row_of ts i) ∙ sym (get_or-append (rows_of ts) run.retired [] i (rw length-map h))

  retired-is : drop (length ts) rs ≡ run.retired
  retired-is = drop_at (rows_of ts) run.retired (length ts) (length-map ts _)

  made-is : made next ≡ parted_rows stay.kept stay.count (length ts) rs
  unfolding purge_once
  made-is =
      let stayed = map-kept (λ (t : Node). t.row) (length ts) keeps (node_at ts) in
      ap₂ ◌++◌ (ap rows_of current-is ∙ stayed ∙ gather_ext (length ts) _ _ (λ i h. rw (made_row i h)))
      (ap₂ ◌++◌ (sym retired-is) (gather_ext (length ts) _ _ (λ i h. rw (kept_is i h, not-not, made_row i h))))

  within : length ts ≤ length rs
  within = omega (arith, made-count run)

  widths : OfWidth m (made next)
  widths = rw made-is (parted-wide stay.kept stay.count (length ts) rs within m holds.wide)

  module _ {states' : Bytes} {area' : List ℕ} {held' : Held} (once : Once states area held stay states' area' held') where
    rows_left : states' ≡ padded (length states) (laid (made next))
    rows_left =
        let all = length states in
        let parted-is = parted-laid m rs holds.narrow holds.wide stay.kept stay.count (length ts) all within in
        once.rows_are ∙ rw (holds.types_are, holds.made_are) (parted-is (omega (arith, holds.made_are)) states holds.states_are)
        ∙ ap (λ (xs : List Row). padded (length states) (laid xs)) (sym made-is)

    same_size : length states' ≡ length states
    same_size =
        let n = length-laid m (made next) holds.narrow widths in
        rw rows_left (simp (length-append, length-replicate) (omega (arith, n, made-once ls run, holds.made_are)))

    kinds_left : (a : ℕ) → a < 128 → get_or held'.kinds a blank ≡ kind_of (node_at next.current a)
    kinds_left a h = elim (dec_lt a stay.count) [
      | yes l ↦ let k : get_or stay.kept a 0 < 128 = omega (arith, chosen.within a l, holds.types_are, few) in
          once.kinds_are.stay a l ∙ rw (holds.kinds_are, kinds-at ts (get_or stay.kept a 0) k, node-is a l)
      | no f ↦ once.kinds_are.none a (omega arith) h ∙ ap kind_of (sym (get_or-eq_default next.current _ (omega (arith, count_is))))
    ]

    -- Two rows that stay have the distance that they had.
    distances_left : Measures ws (rows_of next.current) area'
    distances_left i j h l =
        let n : j < stay.count = omega (arith, count_is, length-map next.current (λ t. t.row)) in
        let lies = chosen.within j n in
        let rise = chosen.rising i j h n in
        let c = chosen.few in
        once.distances_are.holds i j (omega (arith, holds.types_are), omega (arith, holds.types_are))
        ∙ squeezed-stays stay.kept stay.count area i j h n ∙ holds.distances_are _ _ rise (rw length-map lies)
        ∙ ap₂ (distance ws) (sym (row_is i (omega arith))) (sym (row_is j n))

    -- The cells of the types that were are written, and behind them all was zero.
    zero_left : (p : ℕ) → ((i j : ℕ) → i < length next.current → j < length next.current → i ≢ j → p ≢ 128 * i + j) →
        get_or area' p 0 ≡ 0
    zero_left p other = ⊎_elim
        (λ s. let (i, j, h, l, e) = s in rw e (once.distances_are.holds i j (h, l)
        ∙ squeezed-none stay.kept stay.count area i j
        (λ g k. other i j (omega (arith, count_is)) (omega (arith, count_is)) (omega arith) e)))
        (λ none. once.distances_are.kept p (λ i j a. none i j a.0 a.1)
        ∙ holds.rest_zero p (λ i j h l ne. none i j (rw holds.types_are h) (rw holds.types_are l)))
        (cell-or-not held.state.types p few)

    pub once-holds : Holds m ws next states' area' held'
    unfolding purge_once
    once-holds = record {
      narrow = holds.narrow;
      wide = widths;
      types_are = rw once.state_is (sym count_is);
      made_are = rw once.state_is (holds.made_are ∙ sym (made-once ls run));
      rounds_are = rw once.state_is holds.rounds_are;
      kinds_are = kinds-is held'.kinds next.current once.kinds_are.size kinds_left;
      states_are = rw same_size rows_left;
      distances_are = distances_left;
      rest_zero = zero_left;
    }
