-- Laws of Sorted.antt: what sorting keeps, and that rows that differ come out ascending.
use mathlib.Core.Path.{◌≡◌, refl, sym, ap, ◌∙◌}
use mathlib.Core.Logic.{◌↔◌, ◌⊎◌, inl, inr, ⊎_elim, ⊎_map, ◌≢◌}
use mathlib.Core.Bool.{Bool, true, false, cond}
use mathlib.Core.List.{List, [], ◌∷◌}
use Prim.Native.Nat.{ℕ, zero, suc, ◌<◌, Ordering}
use native.Mathlib.Nat.{not-suc-le-zero}
use native.Mathlib.Omega.{arith}
use lib.ListN.{length}
use Rattle.graph.proofs.Below.{In, last_or}
use Rattle.rules.specs.Job.{Row}
use Rattle.rules.specs.Round.{compare_rows}
use Rattle.rules.proofs.Rows.{mirrored, compare_rows_eq, compare_rows_trans, compare_rows-mirrored}
use Rattle.rules.proofs.Rounds.{AscendingRows}
use Rattle.round.specs.Sorted.{before, put, sorted}

-- Putting a row in adds it, and nothing else.
in_put : (x r : Row) (ys : List Row) → In x (put r ys) ↔ (x ≡ r) ⊎ In x ys
unfolding put
in_put x r [] = (λ h. h, λ h. h)
in_put x r (y ∷ ys) = go (before y r) (in_put x r ys)
  where
    go : (t : Bool) → In x (put r ys) ↔ (x ≡ r) ⊎ In x ys → In x (cond t (y ∷ put r ys) (r ∷ y ∷ ys)) ↔ (x ≡ r) ⊎ (x ≡ y) ⊎ In x ys
    go true s = (
      ⊎_elim (λ e. inr (inl e)) (λ h. ⊎_map (λ e. e) inr (s.0 h)),
      ⊎_elim (λ e. inr (s.1 (inl e))) (⊎_map (λ e. e) (λ h. s.1 (inr h))),
    )
    go false s = (λ h. h, λ h. h)

length-put : (r : Row) (ys : List Row) → length (put r ys) ≡ suc (length ys)
unfolding put
length-put r [] = refl
length-put r (y ∷ ys) = go (before y r) (length-put r ys)
  where
    go : (t : Bool) → length (put r ys) ≡ suc (length ys) → length (cond t (y ∷ put r ys) (r ∷ y ∷ ys)) ≡ suc (suc (length ys))
    go true e = ap suc e
    go false e = refl

-- A row that is not yet there comes between those below it and those above it.
put-ascends : (r : Row) (ys : List Row) → AscendingRows ys → ((y : Row) → In y ys → y ≢ r) → AscendingRows (put r ys)
unfolding put
put-ascends r [] a new = (λ y h. absurd h, tt)
put-ascends r (x ∷ xs) a new = go (compare_rows x r) refl (put-ascends r xs a.1 (λ y h. new y (inr h)))
  where
    go : (c : Ordering) → compare_rows x r ≡ c → AscendingRows (put r xs) →
        AscendingRows (cond (elim c [ Ordering.lt ↦ true | Ordering.eq ↦ false | Ordering.gt ↦ false ]) (x ∷ put r xs) (r ∷ x ∷ xs))
    go Ordering.lt e b = (λ y h. ⊎_elim (λ f. rw f e) (a.0 y) ((in_put y r xs).0 h), b)
    go Ordering.eq e b = absurd (new x (inl refl) (compare_rows_eq x r e))
    go Ordering.gt e b =
        let l = compare_rows-mirrored x r ∙ ap mirrored e in
        (λ y. ⊎_elim (λ f. rw f l) (λ h. compare_rows_trans r x y l (a.0 y h)), a)

-- The rows sorted are f 0, f 1, .. f (n - 1).
pub in_sorted : (n : ℕ) (f : ℕ → Row) (x : Row) → In x (sorted n f) ↔ ((i : ℕ) × (i < n) × (x ≡ f i))
unfolding sorted
in_sorted zero f x = (absurd, λ s. absurd (not-suc-le-zero s.1))
in_sorted (suc n) f x =
    let p = in_put x (f n) (sorted n f) in
    let r = in_sorted n f x in (
      λ h. ⊎_elim (λ e. (n, omega arith, e)) (λ g. let (i, l, e) = r.0 g in (i, omega arith, e)) (p.0 h),
      λ s. last_or (λ i. x ≡ f i → In x (sorted (suc n) f)) n s.0 s.1 (λ e. p.1 (inl e)) (λ l e. p.1 (inr (r.1 (s.0, l, e)))) s.2,
    )

pub length-sorted : (n : ℕ) (f : ℕ → Row) → length (sorted n f) ≡ n
unfolding sorted
length-sorted zero f = refl
length-sorted (suc n) f = length-put (f n) (sorted n f) ∙ ap suc (length-sorted n f)

-- They have the width that all of these have.
pub sorted-wide : (n : ℕ) (f : ℕ → Row) (m : ℕ) → ((i : ℕ) → i < n → length (f i) ≡ m) → (x : Row) → In x (sorted n f) → length x ≡ m
sorted-wide n f m wide x h = let (i, l, e) = (in_sorted n f x).0 h in rw e (wide i l)

-- If no two of these are equal, they ascend.
pub sorted-ascends : (n : ℕ) (f : ℕ → Row) → ((i j : ℕ) → i < j → j < n → f i ≢ f j) → AscendingRows (sorted n f)
unfolding sorted
sorted-ascends zero f differ = tt
sorted-ascends (suc n) f differ =
    put-ascends (f n) (sorted n f) (sorted-ascends n f (λ i j h l. differ i j h (omega arith)))
    (λ y h e. let (i, l, g) = (in_sorted n f y).0 h in differ i n l (omega arith) (sym g ∙ e))
