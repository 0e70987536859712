-- The states of a text with no fault, in order, are its sequences one behind the other.
use mathlib.Core.Path.{◌≡◌, refl, sym, ◌∙◌}
use mathlib.Core.Logic.{◌≢◌}
use mathlib.Core.Bool.{Bool, true, false}
use mathlib.Core.List.{[], ◌∷◌, ◌++◌, append_assoc, append-nil}
use Prim.Native.Nat.{ℕ, zero, suc, ◌-◌, ◌≤◌}
use native.Mathlib.Nat.{add-zero}
use native.Mathlib.Numerals.{add-one}
use native.Mathlib.Omega.{arith}
use lib.ListN.{length}
use borrow.Author.Tests.{eq-eqb, eqb-false}
use Rattle.graph.specs.Below.{gather, only, sum}
use Rattle.graph.proofs.Below.{is_false, gather_ext}
use Rattle.rules.specs.Job.{Bytes, Row}
use Rattle.fasta.specs.Lines.{byte_at, opens, is_state}
use Rattle.fasta.proofs.lines.Lines.{no_opener}
use Rattle.fasta.specs.Sequences.{opened, in_sequence, joined, sequences, sequence, states}
use Rattle.fasta.proofs.alignment.Faults.{Clear, NoFault, no_fault_lem, joined-more, in_some_lem, second_false}

-- ── One byte more ──

module _ (text : Bytes) (i k : ℕ) where
  -- A state of sequence k is joined to it; any other byte leaves it as it is, be it no state or one of another sequence.
  pub joined-state : is_state text i ≡ true → opened text i ≡ suc k → joined text (suc i) k ≡ joined text i k ++ (byte_at text i ∷ [])
  joined-state s o = rw (joined-more, s, eq-eqb (opened text i) (suc k) o)

  pub joined-skipped : is_state text i ≡ false → joined text (suc i) k ≡ joined text i k
  joined-skipped s = rw (joined-more, s, append-nil)

  pub joined-other : opened text i ≢ suc k → joined text (suc i) k ≡ joined text i k
  joined-other o = rw (joined-more, is_false (in_sequence text k i) (λ t. o (in_some_lem text k i t).1), append-nil)

-- A sequence that is not opened yet has no state.
not_opened : (text : Bytes) (i k : ℕ) → opened text i ≤ k → joined text i k ≡ []
unfolding sum joined gather
not_opened text zero k h = refl
not_opened text (suc i) k h = joined-other text i k (omega arith) ∙ not_opened text i k (omega arith)

-- ── All sequences, up to a byte ──

abbrev states_to : Bytes → ℕ → Row
states_to text i = gather i (λ j. only (is_state text j) (byte_at text j))

abbrev joined_to : Bytes → ℕ → Row
joined_to text i = gather (opened text i) (joined text i)

module _ (text : Bytes) (i : ℕ) where
  -- A state goes behind the sequence opened last, and so behind them all.
  by_state : (n : ℕ) → is_state text i ≡ true → opened text i ≡ suc n → joined_to text (suc i) ≡ joined_to text i ++ (byte_at text i ∷ [])
  unfolding gather sum
  by_state n s o =
      let before = gather_ext n (joined text (suc i)) (joined text i) (λ k h. joined-other text i k (omega arith)) in
      rw (no_opener text i s, add-zero, o, gather, before, joined-state text i n s o, append_assoc)

  -- Any other byte leaves them as they are.
  module _ (s : is_state text i ≡ false) where
    skipped : (n : ℕ) → gather n (joined text (suc i)) ≡ gather n (joined text i)
    skipped n = gather_ext n (joined text (suc i)) (joined text i) (λ k h. joined-skipped text i k s)

    -- A sequence opened here has no state yet.
    by-other : (o : Bool) → opens text i ≡ o → joined_to text (suc i) ≡ joined_to text i
    unfolding gather sum
    by-other true o = rw (o, add-one, skipped, not_opened text i (opened text i) (omega arith), append-nil)
    by-other false o = rw (o, add-zero) (skipped (opened text i))

  by_byte : NoFault text i → (t : Bool) → is_state text i ≡ t → joined_to text (suc i) ≡ joined_to text i ++ only t (byte_at text i)
  by_byte f true s =
      let some = eqb-false (opened text i) 0 (second_false (is_state text i) _ f.not-before s) in
      by_state (opened text i - 1) s (omega arith)
  by_byte f false s = by-other s (opens text i) refl ∙ rw append-nil

joined-all : (text : Bytes) (i : ℕ) → Clear text i → states_to text i ≡ joined_to text i
unfolding gather sum
joined-all text zero clear = refl
joined-all text (suc i) clear =
    rw (joined-all text i (λ j h. clear j (omega arith))) (sym (by_byte text i (no_fault_lem text i (clear i (omega arith))) (is_state text i) refl))

pub states-joined : (text : Bytes) → Clear text (length text) → states text ≡ gather (sequences text) (sequence text)
unfolding states
states-joined text clear = joined-all text (length text) clear
