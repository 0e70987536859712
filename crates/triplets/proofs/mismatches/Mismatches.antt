-- Laws of Mismatches.antt: numbers are read bit by bit.
use mathlib.Core.Path.{◌≡◌, refl, ap, ap₂, ◌∙◌}
use mathlib.Core.Bool.{Bool, true, false, not, ◌&&◌}
use Prim.Native.Nat.{ℕ, zero, suc, ◌+◌, ◌*◌, ◌-◌, ◌≤◌, ◌<◌, min}
use native.Mathlib.Omega.{arith}
use lib.Bits.{bit_and, and_step}
use lib.Pow.{pow_mono}
use Rattle.memory.specs.Digits.{from_digits}
use Rattle.memory.proofs.Digits.{lowest, others, digits_ext, digits_same, Spelt, one-fits}
use Rattle.triplets.specs.Mismatches.{bit, bits_of}

-- One bit.
bit-small : (t : Bool) → bit t < 2
bit-small true = omega arith
bit-small false = omega arith

bit-and : (s t : Bool) → min (bit s) (bit t) ≡ bit (s && t)
bit-and true true = refl
bit-and true false = refl
bit-and false true = refl
bit-and false false = refl

bit-parts : (s t : Bool) → bit (s && t) + bit (s && not t) ≡ bit s
bit-parts true true = refl
bit-parts true false = refl
bit-parts false t = refl

bit-same : (s t : Bool) → bit s ≡ bit t → s ≡ t
bit-same true true e = refl
bit-same true false e = absurd (omega arith)
bit-same false true e = absurd (omega arith)
bit-same false false e = refl

-- No bit is set.
pub bits_none : (n c : ℕ) → bits_of (λ i. false) n c ≡ 0
unfolding from_digits
bits_none zero c = refl
bits_none (suc n) c = rw (bits_none n (suc c))

-- Mismatches are equal if they are in every bit, and only then.
pub bits_ext : (p q : ℕ → Bool) → ((i : ℕ) → p i ≡ q i) → (n c : ℕ) → bits_of p n c ≡ bits_of q n c
bits_ext p q e n c = digits_ext 2 _ _ n c (λ i l h. ap bit (e i))

pub word_same : (p q : ℕ → Bool) (n c : ℕ) → bits_of p n c ≡ bits_of q n c → (i : ℕ) → c ≤ i → i < c + n → p i ≡ q i
word_same p q n c e i l h = bit-same (p i) (q i) (digits_same (λ k. bit-small (p k)) (λ k. bit-small (q k)) n c e i l h)

-- Both tests.
pub word_and : (p q : ℕ → Bool) (n c : ℕ) → bit_and (bits_of p n c) (bits_of q n c) ≡ bits_of (λ i. p i && q i) n c
unfolding from_digits
word_and p q zero c = refl
word_and p q (suc n) c =
    and_step (bits_of p (suc n) c) (bits_of q (suc n) c)
    ∙ ap₂ (λ (x y : ℕ). x * 2 + y)
    (ap₂ bit_and (others (λ k. bit-small (p k)) n c) (others (λ k. bit-small (q k)) n c) ∙ word_and p q n (suc c))
    (ap₂ min (lowest (λ k. bit-small (p k)) n c) (lowest (λ k. bit-small (q k)) n c) ∙ bit-and (p c) (q c))

-- One test and not the other.
pub word-parts : (p q : ℕ → Bool) (n c : ℕ) → bits_of (λ i. p i && q i) n c + bits_of (λ i. p i && not (q i)) n c ≡ bits_of p n c
unfolding from_digits
word-parts p q zero c = refl
word-parts p q (suc n) c = omega (arith, word-parts p q n (suc c), bit-parts (p c) (q c))

-- There is room for one bit more in a number of up to 64.
pub one-bit-fits : (p : ℕ → Bool) (m c w d : ℕ) → m ≤ 64 → 0 < c → Spelt 2 (λ k. bit (p k)) m c w → d ≡ bit (p (c - 1)) →
    w * 2 + d < 18446744073709551616
one-bit-fits p m c w d h l s e =
    omega (arith, one-fits 2 (λ k. bit (p k)) m c w d l s e (λ k. bit-small (p k)), pow_mono {i = m} {j = 64} h)
