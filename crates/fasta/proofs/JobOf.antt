-- The job made of a readable text: it passes the refusals 2 to 7, its rows are the text's sequences, and its weights are all 1.
use mathlib.Core.Path.{◌≡◌, refl, sym, ◌∙◌}
use mathlib.Core.Bool.{Bool, false}
use mathlib.Core.List.{List, ◌++◌}
use Prim.Native.Nat.{ℕ, ◌+◌, ◌*◌, ◌≤◌, ◌<◌}
use native.Mathlib.Nat.{mul-le-mul, zero-add}
use native.Mathlib.Omega.{arith}
use lib.Dec.{ltb}
use lib.ListN.{length, get_or, replicate, length-append, length-replicate, get_or-replicate}
use lib.Seq.{ext_get_or}
use borrow.Author.Tests.{le-ltb, eq-eqb}
use Rattle.graph.specs.Below.{table, gather, first}
use Rattle.graph.proofs.Below.{in_at, in_gather, first-is, table_ext, length-table, get_or-table}
use Rattle.rules.specs.Answers.{passed}
use Rattle.rules.specs.Job.{Bytes, word, rows, width, epsilon, weights_offset, states_offset, whole_length, weight_at, weights, state_at, outside, checked, bad_weight, bad_state, job_row, job_rows}
use Rattle.rules.specs.Result.{words}
use Rattle.rules.proofs.Job.{Within, Passed, inside, row-part}
use Rattle.rules.proofs.Block.{Stands, stands_front, stands_rear, stands_in, stands_part, stands_get_or, stands_gather, stands_word, length-parts, length-words}
use Rattle.fasta.specs.Sequences.{sequences, sequence}
use Rattle.fasta.proofs.alignment.Faults.{states-within}
use Rattle.fasta.proofs.alignment.Readable.{Readable}
use Rattle.fasta.specs.Block.{job_header, weights_of, job_of}

-- ── A job that no test refuses ──

not-outside : {low high x : ℕ} → Within low high x → outside low high x ≡ false
not-outside {low} {high} {x} w = inside low high x w.at_least w.at_most

-- Where none of n passes, the first that does is not below n.
none_first : (n : ℕ) (p : ℕ → Bool) → ((i : ℕ) → i < n → p i ≡ false) → ltb (first n p) n ≡ false
none_first n p f = le-ltb (first n p) n (omega (arith, first-is n p n (omega arith) f (λ h. absurd (omega arith))))

-- The other way round than passed-is: where every test's negation is known, none refuses.
none-refuses : (job : Bytes) → Passed job → checked job ≡ passed
unfolding checked bad_weight bad_state
none-refuses job p =
    rw (
      le-ltb (length job) 12 p.head,
      not-outside p.rows-within,
      not-outside p.width-within,
      eq-eqb (word job 6) weights_offset p.weights_field,
      eq-eqb (word job 8) (states_offset job) p.states_field,
      eq-eqb (word job 10) (whole_length job) p.whole_field,
      eq-eqb (length job) (whole_length job) p.whole,
      none_first (width job) (λ c. outside 1 1000 (weight_at job c)) (λ c h. not-outside (p.weights-within c h)),
      none_first (rows job * width job) (λ i. outside 33 126 (state_at job i)) (λ i h. not-outside (p.states-within i h)),
    )

-- ── The parts of the job ──

-- Its width, its six numbers, and its states, row by row.
abbrev pub width_of : Bytes → ℕ
width_of text = length (sequence text 0)

abbrev numbers_of : ℕ → Bytes → List ℕ
numbers_of e text = job_header (sequences text) (width_of text) e

abbrev states_of : Bytes → Bytes
states_of text = gather (sequences text) (sequence text)

module _ (e : ℕ) (text : Bytes) where
  abbrev front : Bytes
  front = words (numbers_of e text) ++ weights_of (width_of text)

  length-head : length (words (numbers_of e text)) ≡ 12
  length-head = length-words (numbers_of e text)

  length_front : length front ≡ 12 + 2 * width_of text
  unfolding weights_of
  length_front = rw (length-append, length-head, length-words, length-replicate)

  front_stands : Stands (job_of e text) 0 front
  unfolding job_of
  front_stands = stands_front front (states_of text)

  -- What is read of the header, and of the weights.
  head-word : (k : ℕ) → k < 6 → word (job_of e text) (2 * k) ≡ get_or (numbers_of e text) k 0
  head-word k h =
      let s = stands_in front_stands (stands_front (words (numbers_of e text)) (weights_of (width_of text))) refl in
      rw (zero-add (2 * k)) at (stands_word (numbers_of e text) s k h)

  rows_is : rows (job_of e text) ≡ sequences text
  rows_is = head-word 0 (omega arith)

  width_is : width (job_of e text) ≡ width_of text
  width_is = head-word 1 (omega arith)

  pub epsilon_is : epsilon (job_of e text) ≡ e
  epsilon_is = head-word 2 (omega arith)

  weight_is : (c : ℕ) → c < width_of text → weight_at (job_of e text) c ≡ 1
  unfolding weights_of
  weight_is c h =
      let s = stands_in front_stands (stands_rear (words (numbers_of e text)) (weights_of (width_of text)) length-head) refl in
      stands_word (replicate (width_of text) 1) s c (rw length-replicate h) ∙ get_or-replicate (width_of text) c 1 0 h

  states_stand : Stands (job_of e text) (12 + 2 * width_of text) (states_of text)
  unfolding job_of
  states_stand = stands_rear front (states_of text) length_front

-- ── The job ──

module _ (e : ℕ) (text : Bytes) (r : Readable text) where
  length-states : length (states_of text) ≡ sequences text * width_of text
  length-states = length-parts (width_of text) (sequences text) (sequence text) r.even

  pub length-job : length (job_of e text) ≡ 12 + 2 * width_of text + sequences text * width_of text
  unfolding job_of
  length-job = rw (length-append, length_front, length-states)

  pub job-fits : length (job_of e text) ≤ 16524
  job-fits =
      let h : sequences text * width_of text ≤ 256 * 64 = mul-le-mul r.few r.narrow in
      omega (arith, length-job, r.narrow)

  -- Every state is one of some sequence, and so within the bounds of RULES 1.4.
  state-within : (i : ℕ) → i < sequences text * width_of text → Within 33 126 (get_or (job_of e text) (12 + 2 * width_of text + i) 0)
  state-within i h =
      let l : i < length (states_of text) = rw length-states h in
      let x = get_or (states_of text) i 0 in
      let (k, b, g) = (in_gather x (sequences text) (sequence text)).0 (in_at (states_of text) i 0 l) in
      rw (stands_get_or (states_stand e text) i 0 l) (states-within text (length text) k x r.clear g)

  -- Each of checks 2 to 7 lets the job pass.
  conversion : Passed (job_of e text)
  conversion = record {
    head = omega (arith, length-job);
    rows-within = rw (rows_is e text) (record { at_least = r.some; at_most = r.few });
    width-within = rw (width_is e text) (record { at_least = r.some_width; at_most = r.narrow });
    weights_field = head-word e text 3 (omega arith);
    states_field = head-word e text 4 (omega arith) ∙ rw (width_is e text);
    whole_field = head-word e text 5 (omega arith) ∙ rw (width_is e text, rows_is e text);
    whole = length-job ∙ rw (width_is e text, rows_is e text);
    weights-within = λ c h. rw (weight_is e text c (rw (width_is e text) at h)) (record { at_least = omega arith; at_most = omega arith });
    states-within = λ i h. rw (width_is e text) (state-within i (rw (width_is e text, rows_is e text) at h));
  }

  pub passes : checked (job_of e text) ≡ passed
  passes = none-refuses (job_of e text) conversion

  row_is : (k : ℕ) → k < sequences text → job_row (job_of e text) k ≡ sequence text k
  row_is k h =
      let s = stands_in (states_stand e text) (stands_gather (width_of text) (sequences text) (sequence text) r.even k h) refl in
      sym (row-part (job_of e text) k conversion (rw (rows_is e text) h)) ∙ rw (width_is e text) (rw (r.even k h) at (stands_part s))

  pub rows_are : job_rows (job_of e text) ≡ table (sequences text) (sequence text)
  unfolding job_rows
  rows_are = rw (rows_is e text) (table_ext (sequences text) (job_row (job_of e text)) (sequence text) row_is)

  pub weights_are : weights (job_of e text) ≡ replicate (width_of text) 1
  unfolding weights
  weights_are = rw (width_is e text) (ext_get_or 0 ws _ (length-table _ _ ∙ sym (length-replicate (width_of text) 1)) each)
    where
      ws : List ℕ
      ws = table (width_of text) (weight_at (job_of e text))

      each : (c : ℕ) → c < length ws → get_or ws c 0 ≡ get_or (replicate (width_of text) 1) c 0
      each c h =
          let l : c < width_of text = rw length-table at h in
          get_or-table (width_of text) _ c 0 l ∙ weight_is e text c l ∙ sym (get_or-replicate (width_of text) c 1 0 l)
