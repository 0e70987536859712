-- `memory::eight_at` meets its contract.
use native.Mathlib.Omega.{arith}
use lib.Seq.{get_or-take, get_or-drop}
use Prim.Native.Nat.{ℕ}
use Rattle.memory.specs.Digits.{from_digits}
use Rattle.memory.proofs.eight_at.Goals as goal

pub returns : goal.returns
unfolding from_digits
returns c =
    let whole = rw c.unwrap.ensures at c.try_from.ensures.1 in
    record { is = rw (c.from_le_bytes.ensures, whole.same) (grind (arith, get_or-take {A = ℕ}, get_or-drop {A = ℕ})); bytes = λ p. omega (arith, c.type_inv.b p) }
