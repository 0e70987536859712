-- Which of two rows stands before the other: the first state in which they differ tells.
use mathlib.Core.Path.{◌≡◌, refl, sym, ap, ◌∙◌}
use mathlib.Core.Logic.{◌≢◌}
use mathlib.Core.Bool.{Bool, true, false, false≢true}
use mathlib.Core.List.{◌∷◌, []}
use Prim.Native.Nat.{ℕ, zero, suc, ◌<◌, Ordering, compare}
use native.Mathlib.Nat.{not-suc-le-zero}
use native.Mathlib.Omega.{arith}
use lib.Dec.{ltb, compare_is_eq}
use lib.ListN.{length, get_or}
use borrow.Author.Tests.{eqb-true, eq-eqb, leb-true, leb-false, lt-ltb, le-ltb}
use Rattle.rules.specs.Job.{Row}
use Rattle.rules.specs.Round.{compare_rows}
use Rattle.rules.proofs.Rows.{compare_rows_refl}
use Rattle.round.specs.Sorted.{before}

-- What `before` makes of a comparison.
abbrev less : Ordering → Bool
less c = elim c [ Ordering.lt ↦ true | Ordering.eq ↦ false | Ordering.gt ↦ false ]

-- A row does not stand before itself.
pub before_same : (x y : Row) → x ≡ y → before x y ≡ false
before_same x y e = ap (before x) (sym e) ∙ ap less (compare_rows_refl x)

-- Two rows with a first state each, and then the rest: the first states decide, or else the rest.
module _ (a b : ℕ) (x y : Row) where
  abbrev decided : Ordering → Bool
  decided c = less (elim c [ Ordering.lt ↦ Ordering.lt | Ordering.eq ↦ compare_rows x y | Ordering.gt ↦ Ordering.gt ])

  differ_now : a ≢ b → before (a ∷ x) (b ∷ y) ≡ ltb a b
  unfolding compare_rows
  differ_now ne = go (compare a b) refl
    where
      go : (c : Ordering) → compare a b ≡ c → decided c ≡ ltb a b
      go Ordering.lt e = sym (lt-ltb a b (omega (arith, leb-true a b (rw e))))
      go Ordering.eq e = absurd (ne (eqb-true a b (rw e)))
      go Ordering.gt e = sym (le-ltb a b (omega (arith, leb-false a b (rw e))))

  same_now : a ≡ b → before (a ∷ x) (b ∷ y) ≡ before x y
  unfolding compare_rows
  same_now same = go (compare a b) (eq-eqb a b same)
    where
      go : (c : Ordering) → compare_is_eq c ≡ true → decided c ≡ before x y
      go Ordering.lt e = absurd (false≢true e)
      go Ordering.eq e = refl
      go Ordering.gt e = absurd (false≢true e)

-- They differ at k, and before k they do not.
pub differ-at : (x y : Row) (k : ℕ) → k < length x → k < length y → ((j : ℕ) → j < k → get_or x j 0 ≡ get_or y j 0) → get_or x k 0 ≢ get_or y k 0 →
    before x y ≡ ltb (get_or x k 0) (get_or y k 0)
differ-at [] y k h l e ne = absurd (not-suc-le-zero h)
differ-at (a ∷ x) [] k h l e ne = absurd (not-suc-le-zero l)
differ-at (a ∷ x) (b ∷ y) zero h l e ne = differ_now a b x y ne
differ-at (a ∷ x) (b ∷ y) (suc k) h l e ne =
    same_now a b x y (e 0 (omega arith)) ∙ differ-at x y k (omega arith) (omega arith) (λ j g. e (suc j) (omega arith)) ne
