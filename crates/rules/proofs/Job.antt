-- The rows, weights and states of a job, and what is known of a job that passes the refusals 2 to 7: every test's negation, by name.
use Rattle.std.specs.Prelude.{Err}
use mathlib.Core.Path.{◌≡◌, refl, sym, ◌∙◌}
use mathlib.Core.Logic.{◌≢◌, inl, inr}
use mathlib.Core.Bool.{Bool, true, false, not, true≢false}
use mathlib.Core.List.{[]}
use Prim.Native.Nat.{ℕ, suc, ◌+◌, ◌*◌, ◌≤◌, ◌<◌}
use native.Mathlib.Nat.{suc-mul, add_assoc, mul-le-mul_right}
use lib.ListN.{length, get_or, take, drop, length-drop}
use lib.Seq.{ext_get_or, get_or-take, get_or-drop, length-take-le}
use lib.Dec.{ltb, eqb}
use native.Mathlib.Omega.{arith}
use borrow.Author.Tests.{le-ltb, ltb-false, eqb-true, not-false}
use Rattle.graph.specs.Below.{table, first}
use Rattle.graph.proofs.Below.{is_false, or_true, first-before, length-table, get_or-table}
use Rattle.rules.specs.Answers.{number, when◌refuse◌else◌, Answer}
use Rattle.rules.specs.Job.{Bytes, word, rows, width, weights_offset, states_offset, whole_length, weight_at, weights, state_at, outside, bad_weight, bad_state, checked, job_row, job_rows}
use Rattle.rules.specs.Types.{row_at}
use Rattle.rules.specs.declared.Refusal.TheVariants.{Head, Rows, Width, Layout, Weight, State}

pub record Within (low high x : ℕ) : Type 0 where
  pub at_least : low ≤ x
  pub at_most : x ≤ high

pub record Passed (job : Bytes) : Type 0 where
  pub head : 12 ≤ length job
  pub rows-within : Within 1 256 (rows job)
  pub width-within : Within 1 64 (width job)
  pub weights_field : word job 6 ≡ weights_offset
  pub states_field : word job 8 ≡ states_offset job
  pub whole_field : word job 10 ≡ whole_length job
  pub whole : length job ≡ whole_length job
  pub weights-within : (c : ℕ) → c < width job → Within 1 1000 (weight_at job c)
  pub states-within : (i : ℕ) → i < rows job * width job → Within 33 126 (state_at job i)

-- Where no refusal is given the test did not refuse, nor does what is tried next.
not-refused : (t : Bool) (a next : Answer) → number (when t refuse a else next) ≡ 0 → number a ≢ 0 → (t ≡ false) × (number next ≡ 0)
not-refused true a next e h = absurd (h e)
not-refused false a next e h = (refl, e)

-- A number that is not outside the bounds is within them.
pub within : (low high x : ℕ) → outside low high x ≡ false → Within low high x
within low high x e = record {
  at_least = ltb-false x low (is_false _ (λ l. true≢false (sym ((or_true (ltb x low) (ltb high x)).1 (inl l)) ∙ e)));
  at_most = ltb-false high x (is_false _ (λ r. true≢false (sym ((or_true (ltb x low) (ltb high x)).1 (inr r)) ∙ e)));
}

-- And the other way round.
pub inside : (low high x : ℕ) → low ≤ x → x ≤ high → outside low high x ≡ false
inside low high x l h = rw (le-ltb x low l, le-ltb high x h)

-- Where the first of n that fails the bounds is not below n, all are within them.
all-within : (n low high : ℕ) (f : ℕ → ℕ) → ltb (first n (λ i. outside low high (f i))) n ≡ false → (i : ℕ) → i < n → Within low high (f i)
all-within n low high f e i h =
    let bad : ℕ → Bool = λ j. outside low high (f j) in
    within low high (f i) (first-before n bad i (omega (arith, ltb-false (first n bad) n e)))

pub passed_is : (job : Bytes) → number (checked job) ≡ 0 → Passed job
unfolding checked bad_weight bad_state
passed_is job e =
    let s1 = not-refused (ltb (length job) 12) (Err Head) _ e (omega arith) in
    let s2 = not-refused (outside 1 256 (rows job)) (Err Rows) _ s1.1 (omega arith) in
    let s3 = not-refused (outside 1 64 (width job)) (Err Width) _ s2.1 (omega arith) in
    let s4 = not-refused (not (eqb (word job 6) weights_offset)) (Err (Layout 6)) _ s3.1 (omega arith) in
    let s5 = not-refused (not (eqb (word job 8) (states_offset job))) (Err (Layout 8)) _ s4.1 (omega arith) in
    let s6 = not-refused (not (eqb (word job 10) (whole_length job))) (Err (Layout 10)) _ s5.1 (omega arith) in
    let s7 = not-refused (not (eqb (length job) (whole_length job))) (Err (Layout 12)) _ s6.1 (omega arith) in
    let s8 = not-refused (ltb (bad_weight job) (width job)) (Err (Weight (bad_weight job))) _ s7.1 (omega arith) in
    let s9 = not-refused (ltb (bad_state job) (rows job * width job)) (Err (State (bad_state job))) _ s8.1 (omega arith) in
    record {
      head = ltb-false _ _ s1.0;
      rows-within = within 1 256 _ s2.0;
      width-within = within 1 64 _ s3.0;
      weights_field = eqb-true _ _ (not-false _ s4.0);
      states_field = eqb-true _ _ (not-false _ s5.0);
      whole_field = eqb-true _ _ (not-false _ s6.0);
      whole = eqb-true _ _ (not-false _ s7.0);
      weights-within = all-within (width job) 1 1000 (weight_at job) s8.0;
      states-within = all-within (rows job * width job) 33 126 (state_at job) s9.0;
    }

-- ── Rows ──

pub length-rows : (job : Bytes) → length (job_rows job) ≡ rows job
unfolding job_rows
length-rows job = length-table _ _

pub row-at : (job : Bytes) (k : ℕ) → k < rows job → row_at (job_rows job) k ≡ job_row job k
unfolding job_rows
row-at job k h = get_or-table (rows job) (job_row job) k [] h

pub row-widths : (job : Bytes) (k : ℕ) → k < length (job_rows job) → length (row_at (job_rows job) k) ≡ width job
unfolding job_row
row-widths job k h = rw (row-at job k (rw length-rows at h)) (length-table _ _)

-- A part of a list, by its elements.
pub part-table : (b : Bytes) (place m : ℕ) → place + m ≤ length b → take m (drop place b) ≡ table m (λ c. get_or b (place + c) 0)
part-table b place m h =
    let e : length (take m (drop place b)) ≡ m = length-take-le m (drop place b) (simp length-drop (omega arith)) in
    ext_get_or 0 _ _ (e ∙ sym (length-table m _))
    (λ i l. let g : i < m = omega arith in get_or-take m (drop place b) i 0 g ∙ get_or-drop place b i 0 ∙ sym (get_or-table m _ i 0 g))

-- A row of the job as a part of it.
pub row-part : (job : Bytes) (k : ℕ) → Passed job → k < rows job → take (width job) (drop (states_offset job + k * width job) job) ≡ job_row job k
unfolding job_row
row-part job k p h =
    let e : suc k * width job ≤ rows job * width job = mul-le-mul_right (width job) h in
    part-table job (states_offset job + k * width job) (width job) (omega (arith, p.whole, suc-mul k (width job))) ∙ simp add_assoc

-- ── Weights and states ──

pub length-weights : (job : Bytes) → length (weights job) ≡ width job
unfolding weights
length-weights job = length-table _ _

pub weight-within : (job : Bytes) → Passed job → (c : ℕ) → c < width job → Within 1 1000 (get_or (weights job) c 0)
unfolding weights
weight-within job p c h = rw (get_or-table (width job) (weight_at job) c 0 h) (p.weights-within c h)

-- Every state of every row.
pub state-within : (job : Bytes) → Passed job → (k c : ℕ) → k < length (job_rows job) → c < width job → Within 33 126 (get_or (row_at (job_rows job) k) c 0)
unfolding job_row
state-within job p k c h l =
    let b : k < rows job = rw length-rows at h in
    let e : suc k * width job ≤ rows job * width job = mul-le-mul_right (width job) b in
    rw (row-at job k b, get_or-table (width job) (λ c. state_at job (k * width job + c)) c 0 l)
    (p.states-within (k * width job + c) (omega (arith, suc-mul k (width job))))
