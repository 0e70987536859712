-- Lists whose elements come in an order: how they are put together, and what that says by index.
use mathlib.Core.Logic.{inl, inr, ⊎_elim}
use mathlib.Core.Path.{refl}
use mathlib.Core.Bool.{Bool, true, false}
use mathlib.Core.List.{List, [], ◌∷◌, ◌++◌}
use Prim.Native.Nat.{ℕ, zero, suc, ◌<◌}
use native.Mathlib.Nat.{not-suc-le-zero}
use native.Mathlib.Omega.{arith}
use lib.ListN.{length, get_or}
use Rattle.graph.specs.Below.{gather, only}
use Rattle.graph.proofs.Below.{In, in_append, in_gather, in_at}

module _ {A : Type 0} (R : A → A → Type 0) where
  -- Every element comes before all that stand behind it.
  abbrev pub Ascending : List A → Type 0
  Ascending [] = Unit {0}
  Ascending (x ∷ xs) = ((y : A) → In y xs → R x y) × Ascending xs

  pub ascending-only : (t : Bool) (x : A) → Ascending (only t x)
  ascending-only true x = (λ y. absurd, tt)
  ascending-only false x = tt

  -- Every element of the first list comes before every element of the second.
  pub ascending-append : (xs ys : List A) → Ascending xs → Ascending ys →
      ((x y : A) → In x xs → In y ys → R x y) → Ascending (xs ++ ys)
  ascending-append [] ys a b r = b
  ascending-append (x ∷ xs) ys a b r = (
    λ y h. ⊎_elim (a.0 y) (r x y (inl refl)) ((in_append y xs ys).0 h),
    ascending-append xs ys a.1 b (λ z y h. r z y (inr h)),
  )

  pub ascending-gather : (n : ℕ) (f : ℕ → List A) → ((i : ℕ) → i < n → Ascending (f i)) →
      ((i j : ℕ) → i < j → j < n → (x y : A) → In x (f i) → In y (f j) → R x y) → Ascending (gather n f)
  unfolding gather
  ascending-gather zero f a r = tt
  ascending-gather (suc n) f a r = ascending-append (gather n f) (f n)
      (ascending-gather n f (λ i h. a i (omega arith)) (λ i j h l. r i j h (omega arith)))
      (a n (omega arith))
      (λ x y h. let s = (in_gather x n f).0 h in r s.0 n s.1 (omega arith) x y s.2)

  pub ascending-at : (xs : List A) (d : A) → Ascending xs → (j k : ℕ) → j < k → k < length xs → R (get_or xs j d) (get_or xs k d)
  ascending-at [] d a j k h l = absurd (not-suc-le-zero l)
  ascending-at (x ∷ xs) d a j zero h l = absurd (not-suc-le-zero h)
  ascending-at (x ∷ xs) d a zero (suc k) h l = a.0 _ (in_at xs k d (omega arith))
  ascending-at (x ∷ xs) d a (suc j) (suc k) h l = ascending-at xs d a.1 j k (omega arith) (omega arith)
