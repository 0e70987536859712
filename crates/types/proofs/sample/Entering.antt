-- Rows enter one at a time: what memory holds after k rows, and what one row more makes of it.
use Rattle.std.specs.Prelude.{Result, Ok, Err}
use mathlib.Core.Path.{◌≡◌, sym, ap, ◌∙◌}
use mathlib.Core.Bool.{Bool, false≢true}
use mathlib.Core.List.{List, []}
use Prim.Native.Nat.{ℕ, ◌+◌, ◌*◌, ◌≤◌, ◌<◌}
use native.Mathlib.Omega.{arith}
use lib.ListN.{length, get_or, take, set, replicate, length-append, length-map, length-set, length-take}
use lib.Seq.{get_or-take}
use Rattle.graph.specs.Below.{first}
use Rattle.graph.proofs.Below.{first-before, first-hits}
use Rattle.rules.specs.Answers.{number}
use Rattle.rules.specs.Job.{Bytes, rows, width, checked, job_row, job_rows}
use Rattle.rules.specs.Types.{Node, row_count, row_at, node_at, rows_of, is_same_row, sampled}
use Rattle.rules.specs.declared.Kind.{Kind}
use Rattle.rules.proofs.Job.{passed_is, length-rows, row-at, row-widths}
use Rattle.rules.proofs.Rows.{same_row}
use Rattle.rules.proofs.Sound.{rows-sampled}
use Rattle.memory.specs.Placed.{placed}
use Rattle.memory.proofs.Placed.{length-placed}
use Rattle.types.specs.State.{stored, stored_at, laid, blank, kinds_of, single, more, one_more}
use Rattle.types.specs.Collapse.{entered, collapsed_to, Collapsed}
use Rattle.types.specs.declared.sample.Sample.{Sample}
use Rattle.types.specs.declared.sample.TooMany.{TooMany}
use Rattle.types.proofs.State.{OfWidth, length-stored, length-laid, laid_none, laid_more, laid-first, kinds-none, kinds-at, kinds-more, kinds-set, row_of, rows_more, rows-set, read_back}
use Rattle.types.proofs.sample.Prefix.{known, New, known-none, known-all, known-count, new_row, known-row, new_129th, few_types}

-- The types of the first k rows, in the state area and in the kinds.
abbrev types_of : Bytes → ℕ → List Node
types_of job k = known (job_rows job) k

pub record Holds (job before area : Bytes) (kinds : List Kind) (types k : ℕ) : Type 0 where
  pub ok : number (checked job) ≡ 0
  pub room : 8192 ≤ length before
  pub read : k ≤ rows job
  pub few : types ≤ 128
  pub types_are : types ≡ length (types_of job k)
  pub kinds_are : kinds ≡ kinds_of (types_of job k)
  pub states_are : area ≡ placed before 0 (laid (rows_of (types_of job k)))

-- The same, by other names for what is equal.
pub holds_as : {job before area area' : Bytes} {kinds kinds' : List Kind} {types types' k : ℕ} → Holds job before area kinds types k →
    area' ≡ area → kinds' ≡ kinds → types' ≡ types → Holds job before area' kinds' types' k
holds_as held a b c = rw (a, b, c) held

pub none_read : {job before : Bytes} {kinds : List Kind} → number (checked job) ≡ 0 → 8192 ≤ length before → kinds ≡ replicate 128 blank →
    Holds job before before kinds 0 0
none_read {job} {before} p room e = record {
  ok = p;
  room = room;
  read = omega arith;
  few = omega arith;
  types_are = rw known-none;
  kinds_are = rw known-none (e ∙ kinds-none);
  states_are = rw known-none (laid_none before);
}

-- Rows and types of a job that passed have its width.
module _ (job : Bytes) (ok : number (checked job) ≡ 0) where
  narrow : width job ≤ 64
  narrow = (passed_is job ok).width-within.at_most

  pub row-size : (k : ℕ) → k < rows job → length (stored (job_row job k)) ≡ 64
  row-size k h =
      rw (← row-at job k h) (length-stored (row_at (job_rows job) k) (omega (arith, narrow, row-widths job k (rw length-rows h))))

  wide : (k : ℕ) → OfWidth (width job) (rows_of (types_of job k))
  wide k =
      let rs = job_rows job in
      let n = length-take k rs in
      rows-sampled (λ r. length r ≡ width job) (take k rs) (λ q l. rw (get_or-take k rs q [] (omega arith)) (row-widths job q (omega arith)))

module _ {job before area : Bytes} {kinds : List Kind} {types k : ℕ} (held : Holds job before area kinds types k) where
  abbrev ts : List Node
  ts = types_of job k

  pub same_size : length area ≡ length before
  same_size =
      let n = length-laid (width job) (rows_of ts) (narrow job held.ok) (wide job held.ok k) in
      rw held.states_are (length-placed before (laid (rows_of ts)) 0 (omega (arith, n, length-map ts (λ t. t.row))))

  -- No type counts 256 rows while a row is left.
  pub countable : (i : ℕ) → i < types → k < rows job → row_count (get_or kinds i blank).origin < 256
  countable i l h =
      rw (held.kinds_are, kinds-at ts i (omega arith))
      (omega (arith, known-count (job_rows job) k i, (passed_is job held.ok).rows-within.at_most))

  -- The end: the types held are those of the rows entered.
  ended : {r : Result Sample TooMany} → entered (job_rows job) ≡ take k (job_rows job) → r ≡ collapsed_to (job_rows job) →
      Collapsed job before area r
  ended e is = record {
    answered = is;
    read_back = rw (e, held.states_are)
        (read_back (width job) ts (narrow job held.ok) (wide job held.ok k) before (omega arith));
    states_left = rw e held.states_are;
  }

  pub all_read : rows job ≤ k → Collapsed job before area (Ok (record { types = types; kinds = kinds }))
  unfolding entered
  all_read l =
      let rs = job_rows job in
      let e : k ≡ length rs = omega (arith, length-rows job) in
      let all = ap (known rs) e ∙ known-all rs in
      let few : length (sampled rs) ≤ 128 = rw (← all, ← held.types_are) held.few in
      let t = few_types rs few in
      ended (rw (t, e)) (rw (t, held.types_are, held.kinds_are, all))

  -- One row more: i is the first type that has it, or their number where none has.
  module _ {i : ℕ} (h : k < rows job) (found : i ≡ first types (λ j. is_same_row (stored_at area j) (stored (job_row job k)))) where
    within : k < length (job_rows job)
    within = rw length-rows h

    abbrev has : ℕ → Bool
    has j = is_same_row (row_at (rows_of ts) j) (row_at (job_rows job) k)

    -- Comparing what is stored finds what the rows say.
    found-is : i ≡ first types has
    found-is =
        let n : length (rows_of ts) ≡ types = rw (length-map, held.types_are) in
        let r = row_at (job_rows job) k in
        let e = laid-first (width job) (rows_of ts) (narrow job held.ok) (wide job held.ok k) before r (row-widths job k within) in
        found ∙ rw (held.states_are, ← row-at job k h, ← n) e

    hit : i < types → row_at (rows_of ts) i ≡ row_at (job_rows job) k
    hit l = (same_row _ _).0 (rw (← found-is) at (first-hits types has (rw found-is at l)))

    miss : types ≤ i → New (job_rows job) k
    miss l j b e = false≢true (sym (first-before types has j (omega (arith, found-is))) ∙ (same_row _ _).1 e)

    pub one-row-more : i < types → Holds job before area (set kinds i (one_more (get_or kinds i blank))) types (k + 1)
    one-row-more l =
        let b : i < length ts = omega arith in
        let t : Node = record { row = row_at (job_rows job) k; origin = more (node_at ts i).origin } in
        let e = known-row (job_rows job) k within i b (hit l) in
        record {
          ok = held.ok;
          room = held.room;
          read = omega arith;
          few = held.few;
          types_are = rw (e, length-set) held.types_are;
          kinds_are = rw (e, held.kinds_are, kinds-at ts i (omega arith)) (kinds-set ts i t b);
          states_are = rw (e, rows-set ts i t (sym (hit l) ∙ row_of ts i)) held.states_are;
        }

    pub one-type-more : types ≤ i → types < 128 →
        Holds job before (placed area (64 * types) (stored (job_row job k))) (set kinds types (single k)) (types + 1) (k + 1)
    one-type-more l few =
        let n : 64 * length (rows_of ts) ≡ 64 * types = rw (length-map, held.types_are) in
        let e = new_row (job_rows job) k within (miss l) in
        record {
          ok = held.ok;
          room = held.room;
          read = omega arith;
          few = omega arith;
          types_are = rw (e, length-append, held.types_are);
          kinds_are = rw (e, held.kinds_are, held.types_are) (kinds-more ts _);
          states_are = rw (e, rows_more, ← n, held.states_are, ← row-at job k h)
              (laid_more (width job) (rows_of ts) (narrow job held.ok) (wide job held.ok k) before (row_at (job_rows job) k));
        }

    -- The 129th type.
    pub refused : types ≤ i → types ≡ 128 → Collapsed job before area (Err (record { place = k; before = record { types = types; kinds = kinds } }))
    unfolding entered
    refused l e =
        let (t, r) = new_129th (job_rows job) k within (miss l) (sym held.types_are ∙ e) in
        ended (rw (t, r)) (rw (t, r, held.types_are, held.kinds_are))
