-- Laws of Digits.antt: how large a number is, that it says its digits, and how it is made from the last digit down.
use mathlib.Core.Path.{◌≡◌, refl, sym, ap, ◌∙◌}
use Prim.Native.Nat.{ℕ, zero, suc, ◌+◌, ◌*◌, ◌-◌, ◌/◌, ◌%◌, ◌^◌, ◌≤◌, ◌<◌}
use native.Mathlib.Nat.{pow-zero, pow-suc, pow-le-pow_right}
use native.Mathlib.Decide.{ℕ_discrete}
use native.Mathlib.Omega.{arith}
use lib.Arith.{digits_lt, digits_div, digits_mod}
use Rattle.memory.specs.Digits.{from_digits}

-- The lowest digit and the others.
module _ {base : ℕ} {f : ℕ → ℕ} (small : (c : ℕ) → f c < base) where
  pub lowest : (n c : ℕ) → from_digits base f (suc n) c % base ≡ f c
  unfolding from_digits
  lowest n c = digits_mod (from_digits base f n (suc c)) (small c)

  pub others : (n c : ℕ) → from_digits base f (suc n) c / base ≡ from_digits base f n (suc c)
  unfolding from_digits
  others n c = digits_div (from_digits base f n (suc c)) (small c)

  pub digits-small : (n c : ℕ) → from_digits base f n c < base ^ n
  unfolding from_digits
  digits-small zero c = rw pow-zero (omega arith)
  digits-small (suc n) c = rw pow-suc (digits_lt (digits-small n (suc c)) (small c))

-- Equal digits make equal numbers, and equal numbers have equal digits.
pub digits_ext : (base : ℕ) (f g : ℕ → ℕ) (n c : ℕ) → ((i : ℕ) → c ≤ i → i < c + n → f i ≡ g i) → from_digits base f n c ≡ from_digits base g n c
unfolding from_digits
digits_ext base f g zero c e = refl
digits_ext base f g (suc n) c e =
    rw (digits_ext base f g n (suc c) (λ i l h. e i (omega arith) (omega arith)), e c (omega arith) (omega arith))

module _ {base : ℕ} {f g : ℕ → ℕ} (small : (c : ℕ) → f c < base) (small' : (c : ℕ) → g c < base) where
  pub digits_same : (n c : ℕ) → from_digits base f n c ≡ from_digits base g n c → (i : ℕ) → c ≤ i → i < c + n → f i ≡ g i
  digits_same zero c e i l h = absurd (omega arith)
  digits_same (suc n) c e i l h = elim (ℕ_discrete i c) [
    | yes s ↦ rw s (sym (lowest small n c) ∙ ap (λ (x : ℕ). x % base) e ∙ lowest small' n c)
    | no other ↦
        digits_same n (suc c) (sym (others small n c) ∙ ap (λ (x : ℕ). x / base) e ∙ others small' n c) i (omega arith) (omega arith)
  ]

-- A number of m digits as it is made, from the last digit down: those from c on are in it.
pub record Spelt (base : ℕ) (f : ℕ → ℕ) (m c w : ℕ) : Type 0 where
  pub passed : c ≤ m
  pub so_far : w ≡ from_digits base f (m - c) c

module _ (base : ℕ) (f : ℕ → ℕ) (m : ℕ) where
  pub none_spelt : Spelt base f m m 0
  unfolding from_digits
  none_spelt =
      let nothing : m - m ≡ 0 = omega arith in
      record { passed = omega arith; so_far = rw nothing }

  pub all_spelt : (c w : ℕ) → c ≤ 0 → Spelt base f m c w → w ≡ from_digits base f m 0
  all_spelt c w h s =
      let none : c ≡ 0 = omega arith in
      let whole : m - 0 ≡ m = omega arith in
      rw whole at (rw none at s.so_far)

  -- With one digit more, which still fits.
  module _ (c w d : ℕ) (h : 0 < c) (s : Spelt base f m c w) (e : d ≡ f (c - 1)) where
    pub one_spelt : Spelt base f m (c - 1) (w * base + d)
    unfolding from_digits
    one_spelt =
        let longer : m - (c - 1) ≡ suc (m - c) = omega (arith, s.passed) in
        let next : suc (c - 1) ≡ c = omega arith in
        record { passed = omega (arith, s.passed); so_far = rw (longer, next, s.so_far, e) }

    pub one-fits : ((i : ℕ) → f i < base) → w * base + d < base ^ m
    one-fits small =
        let shorter : m - (c - 1) ≤ m = omega arith in
        omega (arith, one_spelt.so_far, digits-small small (m - (c - 1)) (c - 1), pow-le-pow_right {n = base} (omega (arith, small 0)) shorter)
