-- Laws of Cached and PairTable: nothing is known at first, mismatches that are kept are right, and more are kept.
use mathlib.Core.Path.{◌≡◌, refl, ◌∙◌}
use mathlib.Core.Logic.{inl, inr}
use mathlib.Core.Bool.{false}
use mathlib.Core.List.{List}
use Prim.Native.Nat.{ℕ, zero, suc, ◌+◌, ◌*◌, ◌<◌}
use native.Mathlib.Decide.{ℕ_discrete}
use native.Mathlib.Omega.{arith}
use lib.ListN.{get_or, set, replicate, length-set}
use lib.Seq.{get_or-set_same, get_or-set_other}
use borrow.Author.Tests.{eq-eqb}
use Rattle.rules.specs.Job.{Bytes}
use Rattle.rules.proofs.Distance.{eqb_sym}
use Rattle.triplets.specs.Mismatches.{differ, mismatches_in, unknown, Cached, PairTable}
use Rattle.triplets.proofs.mismatches.Mismatches.{bits_none, bits_ext}

all_none : (k n : ℕ) → get_or (replicate k unknown) n unknown ≡ unknown
all_none zero n = refl
all_none (suc k) zero = refl
all_none (suc k) (suc n) = all_none k n

-- A list of mismatches that are not known, of any length, holds no wrong one.
pub none-cached : (states : Bytes) (m made k : ℕ) → Cached states m made (replicate k unknown)
none-cached states m made k = record { each = λ i j hi hj. inl (all_none k (128 * i + j)) }

-- The order of two rows does not matter.
pub apart_sym : (states : Bytes) (m i j : ℕ) → mismatches_in states m i j ≡ mismatches_in states m j i
apart_sym states m i j = bits_ext (differ states i j) (differ states j i) (λ c. rw (eqb_sym (get_or states (64 * i + c) 0) (get_or states (64 * j + c) 0))) m 0

-- A row does not differ from itself.
pub apart_self : (states : Bytes) (m i : ℕ) → mismatches_in states m i i ≡ 0
apart_self states m i =
    bits_ext (differ states i i) (λ c. false) (λ c. rw (eq-eqb (get_or states (64 * i + c) 0) (get_or states (64 * i + c) 0) refl)) m 0 ∙ bits_none m 0

module _ (states : Bytes) (m made : ℕ) (mismatches : List ℕ) (i j : ℕ) (hi : i < made) (hj : j < made) where
  -- The mismatches of two rows are kept.
  room-one : (r : ℕ) → r ≡ mismatches_in states m i j → PairTable states m made mismatches → PairTable states m made (set mismatches (128 * i + j) r)
  room-one r e room = record {
    narrow = room.narrow;
    few = room.few;
    rows = room.rows;
    space = rw length-set room.space;
    cached = record {
      each = λ a b ha hb. elim (ℕ_discrete (128 * a + b) (128 * i + j)) [
        | yes f ↦
            let at : a ≡ i = omega (arith, room.few) in
            let to : b ≡ j = omega (arith, room.few) in
            inr (rw (at, to) (get_or-set_same mismatches (128 * i + j) r unknown (omega (arith, room.few, room.space)) ∙ e))
        | no f ↦ rw (get_or-set_other mismatches (128 * i + j) (128 * a + b) r unknown f) (room.cached.each a b ha hb)
      ];
    };
  }

-- It is kept for both orders.
pub room-both : (states : Bytes) (m made : ℕ) (mismatches : List ℕ) (i j r : ℕ) → i < made → j < made → r ≡ mismatches_in states m i j →
    PairTable states m made mismatches → PairTable states m made (set (set mismatches (128 * i + j) r) (128 * j + i) r)
room-both states m made mismatches i j r hi hj e room =
    room-one states m made (set mismatches (128 * i + j) r) j i hj hi r (e ∙ apart_sym states m i j) (room-one states m made mismatches i j hi hj r e room)
