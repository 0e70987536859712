-- Three numbers of 16 bits.
use mathlib.Core.Path.{◌≡◌}
use mathlib.Core.List.{[], ◌∷◌}
use Prim.Native.Nat.{ℕ, ◌+◌, ◌≤◌}
use native.Mathlib.Omega.{arith}
use lib.ListN.{length}
use Rattle.rules.specs.Job.{Bytes}
use Rattle.rules.specs.Result.{words}
use Rattle.memory.specs.Placed.{placed}
use Rattle.memory.proofs.Placed.{placed-twice}

-- Three numbers written one behind the other are written as one.
pub three-written : (b : Bytes) (at x y z : ℕ) {b₁ b₂ b₃ : Bytes} → at + 6 ≤ length b → b₁ ≡ placed b at (words (x ∷ [])) →
    b₂ ≡ placed b₁ (at + 2) (words (y ∷ [])) → b₃ ≡ placed b₂ (at + 4) (words (z ∷ [])) → b₃ ≡ placed b at (words (x ∷ y ∷ z ∷ []))
unfolding words
three-written b at x y z room e f g =
    rw (g, f, e, placed-twice b (words (x ∷ [])) at (omega arith) (at + 2) (words (y ∷ [])) (omega arith))
    (placed-twice b (words (x ∷ y ∷ [])) at (omega arith) (at + 4) (words (z ∷ [])) (omega arith))
