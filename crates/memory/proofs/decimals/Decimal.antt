-- Laws of decimals: how many digits a number has, and how a loop writes them, from the last to the first.
use mathlib.Core.Path.{◌≡◌, sym, ap, ◌∙◌}
use mathlib.Core.List.{[], ◌∷◌, ◌++◌, append_assoc}
use Prim.Native.Nat.{ℕ, zero, suc, ◌+◌, ◌-◌, ◌/◌, ◌%◌, ◌^◌, ◌≤◌, ◌<◌}
use native.Mathlib.Nat.{pow-suc}
use native.Mathlib.Numerals.{add-one}
use native.Mathlib.Decide.{dec_lt}
use native.Mathlib.Omega.{arith}
use lib.ListN.{length, take, drop, set, length-append, length-drop, length-set}
use lib.Seq.{take_all, drop_at, set_split, length-take-le}
use Rattle.rules.specs.Job.{Bytes}
use Rattle.rules.specs.Text.{decimal}
use Rattle.rules.proofs.Decimals.{digits_more, short, longer}

-- A number from 10 on has the decimals of its tenth, and one digit behind them.
tenth : (n : ℕ) → 10 ≤ n → decimal n ≡ decimal (n / 10) ++ ((48 + n % 10) ∷ [])
tenth n h = longer n n h ∙ rw (digits_more n (n / 10) (omega arith))

-- A number below 10 ^ (k + 1) has at most k + 1 digits, and every number has one.
pub length-decimal : (k n : ℕ) → n < 10 ^ suc k → length (decimal n) ≤ suc k
length-decimal zero n h = rw (short n n h) (omega arith)
length-decimal (suc k) n h = elim (dec_lt n 10) [
  | yes l ↦ rw (short n n l) (omega arith)
  | no f ↦ rw (tenth n (omega arith), length-append) (omega (arith, length-decimal k (n / 10) (omega (arith, pow-suc 10 (suc k)))))
]

some_digit : (n : ℕ) → 1 ≤ length (decimal n)
some_digit n = elim (dec_lt n 10) [
  | yes l ↦ rw (short n n l) (omega arith)
  | no f ↦ rw (tenth n (omega arith), length-append) (omega arith)
]

from-set : (ds : Bytes) (i d : ℕ) → i < length ds → drop i (set ds i d) ≡ (d ∷ []) ++ drop (i + 1) ds
from-set ds i d h = rw (set_split ds i d h, add-one, drop_at (take i ds) _ i (length-take-le i ds (omega arith)))

-- The digits of x behind place i stand in ds, and those of left, before them, are still to be written.
pub record Written (x : ℕ) (ds : Bytes) (i left : ℕ) : Type 0 where
  pub twenty : length ds ≡ 20
  pub place : i ≤ 19
  pub is : decimal x ≡ decimal left ++ drop (i + 1) ds

module _ {x : ℕ} {ds : Bytes} {i left : ℕ} (w : Written x ds i left) where
  -- One digit more, and the last.
  pub written-more : 10 ≤ left → decimal x ≡ decimal (left / 10) ++ drop i (set ds i (48 + left % 10))
  written-more l =
      w.is ∙ rw (tenth left l, from-set ds i (48 + left % 10) (omega arith)) (append_assoc (decimal (left / 10)) _ _)

  pub written_all : left < 10 → take (20 - i) (drop i (set ds i (48 + left))) ≡ decimal x
  written_all l =
      take_all (20 - i) _ (simp (length-drop, length-set) (omega arith))
      ∙ rw (from-set ds i (48 + left) (omega arith)) (sym (w.is ∙ rw (short left left l)))

  -- 20 digits are enough for a number of 64 bits.
  pub written-room : x < 2 ^ 64 → 10 ≤ left → 1 ≤ i
  written-room f l =
      omega (
        arith,
        length-decimal 19 x (omega arith),
        some_digit (left / 10),
        simp (length-append, length-drop, length-set) at (ap length (written-more l)),
      )
