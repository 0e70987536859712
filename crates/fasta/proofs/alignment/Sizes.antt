-- The size of a text's job, or its refusal, from the lengths that were counted.
use mathlib.Core.Path.{◌≡◌, refl, sym, ap, ◌∙◌}
use mathlib.Core.Logic.{◌≢◌}
use mathlib.Core.Bool.{Bool, true, false, cond, not, false≢true}
use Rattle.std.proofs.Common.{List, Some, None, Ok, Err, length-take-le}
use Rattle.std.proofs.lemmas.List.{get_or-take}
use Rattle.std.proofs.lemmas.List.Quantifiers.{position-Some}
use Rattle.std.proofs.lemmas.List.Sums.{fails_before_first}
use Rattle.std.specs.List.{position, position_or_len}
use Prim.Native.Nat.{ℕ, zero, suc, ◌≤◌, ◌<◌}
use native.Mathlib.Omega.{arith}
use native.Mathlib.Decide.{ℕ_discrete, dec_le}
use lib.Dec.{ltb, eqb}
use lib.ListN.{length, get_or, take}
use borrow.Author.Tests.{lt-ltb, le-ltb, eq-eqb, ne_eqb, ltb-true, ltb-false}
use Rattle.graph.specs.Below.{first}
use Rattle.graph.proofs.Below.{first_le, first-before, first-hits, first-is}
use Rattle.rules.specs.Job.{Bytes, outside}
use Rattle.fasta.specs.Answers.{refuses, no_fault}
use Rattle.fasta.specs.declared.conversion.Fault.{Fault}
use Rattle.fasta.specs.declared.conversion.Fault.TheVariants.{Empty, Uneven}
use Rattle.fasta.proofs.conversion.Answers.{fault-refuses, not_no_size}
use Rattle.fasta.specs.Sequences.{sequences, sequence}
use Rattle.fasta.specs.Refusals.{fault_at, first_fault, first_empty, first_uneven, checked_text}
use Rattle.fasta.specs.Read.{ReadAll, JobSizeOf}
use Rattle.fasta.specs.declared.alignment.JobSize.{JobSize}
use Rattle.fasta.proofs.alignment.Faults.{Clear, fault-there, all-clear, few-states}
use Rattle.fasta.proofs.alignment.Counted.{lengths-length, lengths-at}
use Rattle.fasta.proofs.alignment.Answered.{no_first-fault}

-- ── Bounds ──

-- A length of at most 64 is outside 1 to 64 where it is 0; it is outside m to m where it is another.
outside-empty : (x : ℕ) → x ≤ 64 → outside 1 64 x ≡ eqb x 0
outside-empty zero h = refl
outside-empty (suc x) h = rw (le-ltb (suc x) 1 (omega arith), le-ltb 64 (suc x) h, ne_eqb (suc x) 0 (omega arith))

outside-other : (m x : ℕ) → outside m m x ≡ not (eqb x m)
outside-other m x = elim (ℕ_discrete x m) [
  | yes e ↦ rw (eq-eqb x m e, le-ltb x m (omega arith), le-ltb m x (omega arith))
  | no ne ↦ rw (ne_eqb x m ne) (elim (dec_le m x) [
    | yes h ↦ rw (le-ltb x m h, lt-ltb m x (omega arith))
    | no h ↦ rw (lt-ltb x m (omega arith))
  ])
]

-- The first that passes is the same by tests that agree.
first_ext : (n : ℕ) (p q : ℕ → Bool) → ((i : ℕ) → i < n → p i ≡ q i) → first n p ≡ first n q
first_ext n p q e =
    first-is n p (first n q) (first_le n q) (λ i h. e i (omega (arith, first_le n q)) ∙ first-before n q i h)
    (λ h. e (first n q) h ∙ first-hits n q h)

-- Where `position` finds something, it is the first that passes; where it finds nothing, nothing does.
module _ (p : ℕ → Bool) (xs : List ℕ) (n : ℕ) (room : n ≤ length xs) where
  abbrev front : List ℕ
  front = take n xs

  abbrev passes : ℕ → Bool
  passes j = p (get_or xs j 0)

  pub first-found : {k : ℕ} → Some k ≡ position p (take n xs) → (k ≡ first n (λ j. p (get_or xs j 0))) × (k < n)
  first-found {k} e =
      let (within, here, before) = position-Some p front k 0 (sym e) in
      let h : k < n = omega (arith, length-take-le n xs room) in
      (sym (first-is n passes k (omega arith) (λ i l. ap p (sym (get_or-take n xs i 0 (omega arith))) ∙ before i l) (λ l. ap p (sym (get_or-take n xs k 0 h)) ∙ here)), h)

  pub first-none : None ≡ position p (take n xs) → n ≡ first n (λ j. p (get_or xs j 0))
  first-none e = go (ltb (position_or_len p front) (length front)) refl e
    where
      go : (b : Bool) → ltb (position_or_len p front) (length front) ≡ b → None ≡ cond b (Some (position_or_len p front)) None → n ≡ first n passes
      go true t f = absurd (cc)
      go false t f =
          let none : n ≤ position_or_len p front = omega (arith, ltb-false (position_or_len p front) (length front) t, length-take-le n xs room) in
          sym (first-is n passes n (omega arith) (λ i l. ap p (sym (get_or-take n xs i 0 l)) ∙ fails_before_first p front i 0 (omega arith)) (λ l. absurd (omega arith)))

-- ── A text that was read to its end ──

module _ (text : Bytes) {lengths : Bytes} where
  pub fault-measured : {fault : Fault} → ReadAll text lengths (Err fault) → checked_text text ≡ Err fault
  unfolding checked_text
  fault-measured {fault} read = go (ltb (first_fault text) (length text)) refl
    where
      go : (b : Bool) → ltb (first_fault text) (length text) ≡ b → checked_text text ≡ Err fault
      go true e = rw e (rw e at (sym read.answer_is))
      go false e = absurd (false≢true (sym (ap refuses read.answer_is ∙ rw e) ∙ fault-refuses fault))

  module _ {begun : ℕ} (read : ReadAll text lengths (Ok begun)) where
    faultless : ltb (first_fault text) (length text) ≡ false
    faultless =
        let at = first_fault text in
        (not_no_size (ltb at (length text)) (fault_at text at) no_fault (sym (ap refuses read.answer_is)) (λ t. fault-there text (ltb-true at (length text) t))).0

    clear : Clear text (length text)
    clear = all-clear text faultless

    to_end : first_fault text ≡ length text
    to_end = no_first-fault text clear

    pub rows_are : begun ≡ sequences text
    rows_are = read.begun_is ∙ rw to_end

    pub rows-within : begun ≤ length lengths
    rows-within = omega (arith, read.few, ap length read.lengths_are ∙ lengths-length text (first_fault text))

    pub length_at : (k : ℕ) → k < 256 → get_or lengths k 0 ≡ length (sequence text k)
    length_at k h = rw (read.lengths_are, to_end) (lengths-at text (length text) k h)

    -- A test of the lengths in memory is one of the sequences.
    first-same : (p q : ℕ → Bool) → ((x : ℕ) → x ≤ 64 → p x ≡ q x) →
        first begun (λ k. p (get_or lengths k 0)) ≡ first (sequences text) (λ k. q (length (sequence text k)))
    first-same p q f =
        rw rows_are
        (first_ext (sequences text) _ _ (λ k h.
        rw (length_at k (omega (arith, rows_are, read.few))) (f (length (sequence text k)) (few-states text (length text) k clear))))

    pub none-measured : begun ≡ 0 → checked_text text ≡ Err (Empty 0)
    unfolding checked_text
    none-measured z = rw (faultless, eq-eqb (sequences text) 0 (sym rows_are ∙ z))

    module _ (some : begun ≢ 0) (k : ℕ) (is : k ≡ first begun (λ j. outside 1 64 (get_or lengths j 0))) where
      begins : eqb (sequences text) 0 ≡ false
      begins = ne_eqb (sequences text) 0 (λ z. some (rows_are ∙ z))

      empty-is : k ≡ first_empty text
      unfolding first_empty
      empty-is = is ∙ first-same (outside 1 64) (λ x. eqb x 0) outside-empty

      pub empty-measured : k < begun → checked_text text ≡ Err (Empty k)
      unfolding checked_text
      empty-measured h = rw (faultless, begins, ← empty-is, lt-ltb k (sequences text) (omega (arith, rows_are)))

      module _ (filled : begun ≤ k) (u : ℕ) (is' : u ≡ first begun (λ j. outside (get_or lengths 0 0) (get_or lengths 0 0) (get_or lengths j 0))) where
        uneven_is : u ≡ first_uneven text
        unfolding first_uneven
        uneven_is =
            let m = length (sequence text 0) in
            is' ∙ rw (length_at 0 (omega arith)) (first-same (outside m m) (λ x. not (eqb x m)) (λ x h. outside-other m x))

        full : ltb (first_empty text) (sequences text) ≡ false
        full = le-ltb (first_empty text) (sequences text) (omega (arith, rows_are, empty-is))

        pub uneven_measured : u < begun → checked_text text ≡ Err (Uneven u)
        unfolding checked_text
        uneven_measured h = rw (faultless, begins, full, ← uneven_is, lt-ltb u (sequences text) (omega (arith, rows_are)))

        pub even-measured : begun ≤ u → checked_text text ≡ no_fault
        unfolding checked_text
        even-measured h = rw (faultless, begins, full, le-ltb (first_uneven text) (sequences text) (omega (arith, rows_are, uneven_is)))

-- ── What is handed back ──

module _ (text : Bytes) where
  pub refused_as : {fault : Fault} → checked_text text ≡ Err fault → JobSizeOf text (Err fault)
  refused_as m = record { answer_is = sym m; rows_are = tt; width_is = tt }

  pub sized_as : {size : JobSize} → checked_text text ≡ no_fault → size.rows ≡ sequences text → size.width ≡ length (sequence text 0) → JobSizeOf text (Ok size)
  sized_as m n w = record { answer_is = sym m; rows_are = n; width_is = w }
