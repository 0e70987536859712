-- Laws of the longest step behind one place of the order, up to another.
use mathlib.Core.Path.{◌≡◌, refl}
use Prim.Native.Nat.{ℕ, zero, suc, ◌+◌, ◌≤◌, max}
use native.Mathlib.Numerals.{add-one}
use native.Mathlib.Omega.{arith}
use native.Mathlib.Decide.{dec_le}
use borrow.Author.Tests.{le-leb, lt-leb}
use Rattle.spans.specs.Growth.{longest}

module _ (w : ℕ → ℕ) where
  pub longest-none : (a b : ℕ) → b ≤ a → longest w a b ≡ 0
  unfolding longest
  longest-none a zero h = refl
  longest-none a (suc b) h = rw (lt-leb a b (omega arith), longest-none a b (omega arith))

  one_more : (a b : ℕ) → a ≤ b → longest w a (suc b) ≡ max (longest w a b) (w (suc b))
  unfolding longest
  one_more a b h = rw (le-leb a b h)

  pub longest-more : (a b : ℕ) → a ≤ b → longest w a (b + 1) ≡ max (longest w a b) (w (b + 1))
  longest-more a b h = rw add-one (one_more a b h)

  pub longest-by : (a b c : ℕ) → a ≤ b → b ≤ c → longest w a c ≡ max (longest w a b) (longest w b c)
  longest-by a b zero h l = omega (arith, longest-none a 0 (omega arith), longest-none b 0 (omega arith), longest-none a b (omega arith))
  longest-by a b (suc c) h l = elim (dec_le b c) [
    | yes m ↦ omega (arith, one_more a c (omega arith), one_more b c m, longest-by a b c h m)
    | no f ↦ let e : b ≡ suc c = omega arith in rw e (omega (arith, longest-none (suc c) (suc c) (omega arith)))
  ]

  pub longest-within : (m a b : ℕ) → ((k : ℕ) → w k ≤ m) → longest w a b ≤ m
  unfolding longest
  longest-within m a zero l = omega arith
  longest-within m a (suc b) l = elim (dec_le a b) [
    | yes h ↦ omega (arith, one_more a b h, longest-within m a b l, l (suc b))
    | no f ↦ omega (arith, longest-none a (suc b) (omega arith))
  ]

pub longest-same : (v w : ℕ → ℕ) (a b : ℕ) → ((k : ℕ) → k ≤ b → v k ≡ w k) → longest v a b ≡ longest w a b
unfolding longest
longest-same v w a zero e = refl
longest-same v w a (suc b) e = rw (longest-same v w a b (λ k h. e k (omega arith)), e (suc b) (omega arith))
