-- Laws of what is written: weights and states, each behind the one before.
use mathlib.Core.Path.{◌≡◌, refl}
use mathlib.Core.List.{[], ◌∷◌, ◌++◌}
use Prim.Native.Nat.{ℕ, zero, suc, ◌+◌, ◌*◌, ◌≤◌}
use native.Mathlib.Numerals.{add-one}
use native.Mathlib.Omega.{arith}
use lib.ListN.{length, length-replicate}
use Rattle.graph.specs.Below.{only}
use Rattle.rules.specs.Job.{Bytes}
use Rattle.rules.specs.Result.{words}
use Rattle.rules.proofs.Block.{length-words}
use Rattle.memory.specs.Placed.{placed, Follows}
use Rattle.memory.proofs.Placed.{placed-none}
use Rattle.memory.proofs.Follows.{follows-once, follows_on}
use Rattle.fasta.specs.Lines.{byte_at, is_state}
use Rattle.fasta.specs.Block.{weights_of}

-- ── Weights ──

pub length-weights : (m : ℕ) → length (weights_of m) ≡ 2 * m
unfolding weights_of
length-weights m = rw (length-words, length-replicate)

one_more : (m : ℕ) → weights_of (suc m) ≡ weights_of m ++ words (1 ∷ [])
unfolding weights_of words
one_more zero = refl
one_more (suc m) = rw (one_more m)

module _ (b : Bytes) where
  pub weights-none : b ≡ placed b 12 (weights_of 0)
  unfolding weights_of words
  weights-none = placed-none b 12

  pub weights-more : (c : ℕ) {now after : Bytes} → 12 ≤ length b → now ≡ placed b 12 (weights_of c) →
      after ≡ placed now (12 + 2 * c) (words (1 ∷ [])) → after ≡ placed b 12 (weights_of (c + 1))
  weights-more c {now} room e f =
      let before : Follows b 12 (weights_of c) now (12 + 2 * c) = record { is = e; behind = omega (arith, length-weights c) } in
      rw (add-one, one_more) (follows_on before room (follows-once f)).is

-- ── States ──

-- What a byte of the text adds to the states.
abbrev pub state_at : Bytes → ℕ → Bytes
state_at text i = only (is_state text i) (byte_at text i)
