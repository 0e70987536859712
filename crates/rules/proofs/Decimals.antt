-- Numbers in decimals: the digits never run out, and reading them gives the number back.
use mathlib.Core.Path.{◌≡◌}
use mathlib.Core.Logic.{⊎_elim}
use mathlib.Core.List.{[], ◌∷◌, ◌++◌, foldl, foldl-append}
use Prim.Native.Nat.{ℕ, zero, suc, ◌+◌, ◌*◌, ◌-◌, ◌/◌, ◌%◌, ◌≤◌, ◌<◌}
use native.Mathlib.Nat.{not-suc-le-zero}
use native.Mathlib.Omega.{arith}
use native.Mathlib.Decide.{dec_lt}
use borrow.Author.Tests.{lt-ltb, le-ltb}
use Rattle.graph.proofs.Below.{In, in_append}
use Rattle.rules.specs.Job.{Bytes}
use Rattle.rules.specs.Text.{digits, decimal}
use Rattle.rules.proofs.Job.{Within}

-- A number below 10 is one digit; another has the digits of its tenth, and one more.
pub short : (most n : ℕ) → n < 10 → digits (suc most) n ≡ (48 + n) ∷ []
unfolding digits
short most n h = rw (lt-ltb n 10 h)

pub longer : (most n : ℕ) → 10 ≤ n → digits (suc most) n ≡ digits most (n / 10) ++ ((48 + n % 10) ∷ [])
unfolding digits
longer most n h = rw (le-ltb n 10 h)

digits_same : (a b n : ℕ) → n < a → n < b → digits a n ≡ digits b n
digits_same zero b n h g = absurd (not-suc-le-zero h)
digits_same (suc a) zero n h g = absurd (not-suc-le-zero g)
digits_same (suc a) (suc b) n h g = elim (dec_lt n 10) [
  | yes l ↦ rw (short a n l, short b n l)
  | no f ↦
      let l : 10 ≤ n = omega arith in rw (longer a n l, longer b n l, digits_same a b (n / 10) (omega arith) (omega arith))
]

pub digits_more : (most n : ℕ) → n < most → digits most n ≡ decimal n
digits_more most n h = digits_same most (suc n) n h (omega arith)

-- The number that digits stand for.
unfoldable pub value : Bytes → ℕ
value ds = foldl (λ v d. 10 * v + (d - 48)) 0 ds

value-digits : (most n : ℕ) → n < most → value (digits most n) ≡ n
unfolding value
value-digits zero n h = absurd (not-suc-le-zero h)
value-digits (suc most) n h = elim (dec_lt n 10) [
  | yes l ↦ rw (short most n l) (omega arith)
  | no f ↦ rw (longer most n (omega arith), foldl-append) (omega (arith, value-digits most (n / 10) (omega arith)))
]

pub value-decimal : (n : ℕ) → value (decimal n) ≡ n
value-decimal n = value-digits (suc n) n (omega arith)

one-within : (r d : ℕ) → r < 10 → In d ((48 + r) ∷ []) → Within 48 57 d
one-within r d h = ⊎_elim (λ e. record { at_least = omega arith; at_most = omega arith }) absurd

-- Every digit is one of the characters 0 to 9.
pub digits-within : (most n d : ℕ) → In d (digits most n) → Within 48 57 d
unfolding digits
digits-within zero n d h = absurd h
digits-within (suc most) n d h = elim (dec_lt n 10) [
  | yes l ↦ one-within n d l (rw (short most n l) at h)
  | no f ↦
      ⊎_elim (digits-within most (n / 10) d) (one-within (n % 10) d (omega arith))
      ((in_append d (digits most (n / 10)) ((48 + n % 10) ∷ [])).0 (rw (longer most n (omega arith)) at h))
]
