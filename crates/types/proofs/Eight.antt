-- Rows compared eight bytes at once.
use mathlib.Core.Path.{◌≡◌, ap, ◌∙◌}
use Prim.Native.Nat.{ℕ, ◌+◌, ◌*◌, ◌-◌, ◌≤◌, ◌<◌}
use native.Mathlib.Decide.{dec_lt}
use native.Mathlib.Omega.{arith}
use lib.ListN.{get_or}
use Rattle.rules.specs.Job.{Bytes}
use Rattle.memory.specs.Word.{eight_at}
use Rattle.memory.proofs.Digits.{digits_ext, digits_same}

-- The bytes of a, from byte i on, are those of b, as far as n.
abbrev pub Alike : Bytes → ℕ → Bytes → ℕ → Type 0
Alike a i b n = (x : ℕ) → x < n → get_or a (i + x) 0 ≡ get_or b x 0

-- Bytes that are alike make equal numbers of eight, and equal numbers eight bytes more that are alike.
pub alike_eight : (a b : Bytes) (i k : ℕ) {n : ℕ} → 8 * k + 8 ≤ n → Alike a i b n → eight_at a (i + 8 * k) ≡ eight_at b (8 * k)
alike_eight a b i k h e =
    digits_ext 256 _ _ 8 0 (λ x l g. ap (λ p. get_or a p 0) (omega arith) ∙ e (8 * k + x) (omega arith))

pub eight_alike : (a b : Bytes) (i k : ℕ) → ((p : ℕ) → get_or a p 0 < 256) → ((p : ℕ) → get_or b p 0 < 256) →
    Alike a i b (8 * k) → eight_at a (i + 8 * k) ≡ eight_at b (8 * k) → Alike a i b (8 * (k + 1))
eight_alike a b i k small small' e same x h = elim (dec_lt x (8 * k)) [
  | yes l ↦ e x l
  | no other ↦
      let y = x - 8 * k in
      ap (λ p. get_or a p 0) (omega arith)
      ∙ digits_same (λ p. small (i + 8 * k + p)) (λ p. small' (8 * k + p)) 8 0 same y (omega arith) (omega arith)
      ∙ ap (λ p. get_or b p 0) (omega arith)
]
