-- Which fault a byte is, and what is known of a text up to a byte where there is none.
use mathlib.Core.Path.{◌≡◌, refl, sym}
use mathlib.Core.Bool.{Bool, true, false, cond, ◌&&◌, and-eq-true_iff, true≢false}
use mathlib.Core.List.{◌++◌}
use Prim.Native.Nat.{ℕ, zero, suc, ◌+◌, ◌-◌, ◌≤◌, ◌<◌}
use native.Mathlib.Omega.{arith}
use Rattle.std.proofs.Common.{Err}
use lib.Dec.{ltb, eqb}
use lib.ListN.{length, length-append}
use borrow.Author.Tests.{lt-ltb, le-ltb, eq-eqb, ne_eqb, ltb-false, eqb-true}
use Rattle.graph.specs.Below.{gather, only, sum}
use Rattle.graph.proofs.Below.{In, in_gather, in_only, sum_more, first-before, first-hits}
use Rattle.rules.specs.Job.{Bytes, outside}
use Rattle.rules.proofs.Job.{Within, within}
use Rattle.fasta.specs.Lines.{byte_at, opens, is_state}
use Rattle.fasta.proofs.lines.Lines.{no_opener}
use Rattle.fasta.specs.Answers.{refuses, no_fault}
use Rattle.fasta.specs.declared.conversion.Fault.TheVariants.{Before, Byte, Wide, Many}
use Rattle.fasta.proofs.conversion.Answers.{not_no_size}
use Rattle.fasta.specs.Sequences.{opened, in_sequence, joined}
use Rattle.fasta.specs.Refusals.{before_first, in_some, bad_byte, held, one_too_wide, one_too_many, fault_at, first_fault}

-- ── Of a state ──

module _ (text : Bytes) (i : ℕ) (s : is_state text i ≡ true) where
  pub before-is : opened text i ≡ 0 → fault_at text i ≡ Err (Before i)
  before-is e = rw (s, eq-eqb (opened text i) 0 e)

  module _ (some : 1 ≤ opened text i) where
    pub byte_is : outside 33 126 (byte_at text i) ≡ true → fault_at text i ≡ Err (Byte i)
    byte_is o = rw (s, ne_eqb (opened text i) 0 (omega arith), lt-ltb 0 (opened text i) some, o)

    module _ (good : outside 33 126 (byte_at text i) ≡ false) where
      pub wide_is : 64 ≤ held text i → fault_at text i ≡ Err (Wide i)
      wide_is h =
          rw (s, ne_eqb (opened text i) 0 (omega arith), lt-ltb 0 (opened text i) some, good, lt-ltb 64 (suc (held text i)) (omega arith))

      pub state-passes : held text i < 64 → fault_at text i ≡ no_fault
      state-passes h =
          rw (
            s,
            ne_eqb (opened text i) 0 (omega arith),
            lt-ltb 0 (opened text i) some,
            good,
            le-ltb 64 (suc (held text i)) (omega arith),
            no_opener text i s,
          )

-- ── Of any other byte ──

module _ (text : Bytes) (i : ℕ) (s : is_state text i ≡ false) where
  pub skipped-passes : opens text i ≡ false → fault_at text i ≡ no_fault
  skipped-passes o = rw (s, o)

  module _ (o : opens text i ≡ true) where
    pub many_is : 256 ≤ opened text i → fault_at text i ≡ Err (Many i)
    many_is h = rw (s, o, lt-ltb 256 (suc (opened text i)) (omega arith))

    pub opener-passes : opened text i < 256 → fault_at text i ≡ no_fault
    opener-passes h = rw (s, o, le-ltb 256 (suc (opened text i)) (omega arith))

-- ── No fault ──

-- A byte that is no fault is none of the four.
pub record NoFault (text : Bytes) (i : ℕ) : Type 0 where
  pub not-before : before_first text i ≡ false
  pub not_bad : bad_byte text i ≡ false
  pub not_wide : one_too_wide text i ≡ false
  pub not-many : one_too_many text i ≡ false

pub no_fault_lem : (text : Bytes) (i : ℕ) → refuses (fault_at text i) ≡ false → NoFault text i
no_fault_lem text i e =
    let s1 = not_no_size (before_first text i) (Err (Before i)) _ e (λ t. refl) in
    let s2 = not_no_size (bad_byte text i) (Err (Byte i)) _ s1.1 (λ t. refl) in
    let s3 = not_no_size (one_too_wide text i) (Err (Wide i)) _ s2.1 (λ t. refl) in
    let s4 = not_no_size (one_too_many text i) (Err (Many i)) no_fault s3.1 (λ t. refl) in
    record { not-before = s1.0; not_bad = s2.0; not_wide = s3.0; not-many = s4.0 }

-- No fault before a byte.
abbrev pub Clear : Bytes → ℕ → Type 0
Clear text i = (j : ℕ) → j < i → refuses (fault_at text j) ≡ false

-- The first fault is one, and where there is none every byte is clear.
pub fault-there : (text : Bytes) → first_fault text < length text → refuses (fault_at text (first_fault text)) ≡ true
unfolding first_fault
fault-there text = first-hits (length text) (λ i. refuses (fault_at text i))

pub all-clear : (text : Bytes) → ltb (first_fault text) (length text) ≡ false → Clear text (length text)
unfolding first_fault
all-clear text e i h = first-before (length text) (λ i. refuses (fault_at text i)) i (omega (arith, ltb-false (first_fault text) (length text) e))

pub opened-more : (text : Bytes) (i : ℕ) → opened text (i + 1) ≡ opened text i + cond (opens text i) 1 0
opened-more text i = sum_more i (λ j. cond (opens text j) 1 0)

pub joined-more : (text : Bytes) (i k : ℕ) → joined text (suc i) k ≡ joined text i k ++ only (in_sequence text k i) (byte_at text i)
unfolding joined gather
joined-more text i k = refl

-- The second of two tests fails where both together fail and the first passes.
pub second_false : (a b : Bool) → a && b ≡ false → a ≡ true → b ≡ false
second_false true b e h = e
second_false false b e h = absurd (true≢false (sym h))

-- A state of sequence k is one of some sequence, the one opened last.
pub in_some_lem : (text : Bytes) (k i : ℕ) → in_sequence text k i ≡ true → (in_some text i ≡ true) × (opened text i ≡ suc k)
in_some_lem text k i t =
    let (s, o) = (and-eq-true_iff (is_state text i) (eqb (opened text i) (suc k))).0 t in
    let e = eqb-true (opened text i) (suc k) o in
    ((and-eq-true_iff (is_state text i) _).1 (s, lt-ltb 0 (opened text i) (omega arith)), e)

-- Then at most 256 sequences are opened before it,
pub few-opened : (text : Bytes) (i : ℕ) → Clear text i → opened text i ≤ 256
unfolding sum
few-opened text zero clear = omega arith
few-opened text (suc i) clear = go (opens text i) refl (few-opened text i (λ j h. clear j (omega arith)))
  where
    go : (t : Bool) → opens text i ≡ t → opened text i ≤ 256 → opened text i + cond t 1 0 ≤ 256
    go true o h =
        let f = no_fault_lem text i (clear i (omega arith)) in
        omega (arith, ltb-false 256 (suc (opened text i)) (second_false (opens text i) _ f.not-many o))
    go false o h = omega arith

-- none has more than 64 states,
pub few-states : (text : Bytes) (i k : ℕ) → Clear text i → length (joined text i k) ≤ 64
unfolding joined gather
few-states text zero k clear = omega arith
few-states text (suc i) k clear = rw length-append (go (in_sequence text k i) refl (few-states text i k (λ j h. clear j (omega arith))))
  where
    go : (t : Bool) → in_sequence text k i ≡ t → length (joined text i k) ≤ 64 → length (joined text i k) + length (only t (byte_at text i)) ≤ 64
    go true t h =
        let (s, e) = in_some_lem text k i t in
        let last : opened text i - 1 ≡ k = omega arith in
        let f = no_fault_lem text i (clear i (omega arith)) in
        omega (arith, rw last at (ltb-false 64 (suc (held text i)) (second_false (in_some text i) _ f.not_wide s)))
    go false t h = omega arith

-- and each state is one of RULES 1.4.
pub states-within : (text : Bytes) (i k x : ℕ) → Clear text i → In x (joined text i k) → Within 33 126 x
unfolding joined
states-within text i k x clear h =
    let (j, l, g) = (in_gather x i (λ j. only (in_sequence text k j) (byte_at text j))).0 h in
    let (t, e) = (in_only x (in_sequence text k j) (byte_at text j)).0 g in
    rw e (within 33 126 (byte_at text j) (second_false (in_some text j) _ (no_fault_lem text j (clear j l)).not_bad (in_some_lem text k j t).0))
