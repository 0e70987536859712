-- Laws of the tests on rows: sameRow and among of Types.antt, compareRows of Round.antt.
use mathlib.Core.Path.{◌≡◌, refl, sym, ap, ap₂, ◌∙◌}
use mathlib.Core.Logic.{◌↔◌, ◌⊎◌, inl, inr, ⊎_elim, ⊎_map, ◌≢◌}
use mathlib.Core.Bool.{true, and-eq-true_iff, false≢true}
use mathlib.Core.List.{List, [], ◌∷◌}
use Prim.Native.Nat.compare
use Prim.Native.Nat.{ℕ, zero, suc, ◌<◌, Ordering, compare}
use native.Mathlib.Omega.{arith}
use lib.Dec.{eqb}
use lib.ListN.{length}
use borrow.Author.Tests.{eqb-true, eqb-false, leb-true, leb-false, eq-eqb}
use Rattle.graph.proofs.Below.{In, in_at, in_place, some_true}
use Rattle.rules.specs.Job.{Row}
use Rattle.rules.specs.Types.{row_at, is_same_row, among}
use Rattle.rules.specs.Round.{compare_rows}

same_self : (x : Row) → is_same_row x x ≡ true
unfolding is_same_row
same_self [] = refl
same_self (a ∷ x) = rw (eq-eqb a a refl) (same_self x)

same_equal : (x y : Row) → is_same_row x y ≡ true → x ≡ y
unfolding is_same_row
same_equal [] [] e = refl
same_equal [] (b ∷ y) e = absurd (false≢true e)
same_equal (a ∷ x) [] e = absurd (false≢true e)
same_equal (a ∷ x) (b ∷ y) e =
    let s = (and-eq-true_iff (eqb a b) (is_same_row x y)).0 e in ap₂ ◌∷◌ (eqb-true a b s.0) (same_equal x y s.1)

pub same_row : (u v : Row) → (is_same_row u v ≡ true) ↔ (u ≡ v)
same_row u v = (same_equal u v, λ e. rw e (same_self v))

pub among-is : (xs : List Row) (x : Row) → (among xs x ≡ true) ↔ In x xs
among-is xs x =
    let s = some_true (length xs) (λ i. is_same_row (row_at xs i) x) in (
      λ e. let (i, h, t) = s.0 e in rw (← same_equal (row_at xs i) x t) (in_at xs i [] h),
      λ h. let (i, l, at) = in_place x xs h in s.1 (i, l, rw (at []) (same_self x)),
    )

-- Numbers first: equal, less and the other way round.
compare_refl : (a : ℕ) → compare a a ≡ Ordering.eq
compare_refl zero = compare.zero-zero
compare_refl (suc a) = compare.suc-suc a a ∙ compare_refl a

compare_eq : (a b : ℕ) → (compare a b ≡ Ordering.eq) ↔ (a ≡ b)
compare_eq a b = (λ e. eqb-true a b (rw e), λ e. rw e (compare_refl b))

compare_lt : (a b : ℕ) → (compare a b ≡ Ordering.lt) ↔ (a < b)
compare_lt a b = (λ e. let ne : a ≢ b = eqb-false a b (rw e) in omega (arith, leb-true a b (rw e)), go (compare a b) refl)
  where
    go : (c : Ordering) → compare a b ≡ c → a < b → compare a b ≡ Ordering.lt
    go Ordering.lt e h = e
    go Ordering.eq e h = absurd (omega (arith, (compare_eq a b).0 e))
    go Ordering.gt e h = absurd (omega (arith, leb-false a b (rw e)))

abbrev pub mirrored : Ordering → Ordering
mirrored c = elim c [ Ordering.lt ↦ Ordering.gt | Ordering.eq ↦ Ordering.eq | Ordering.gt ↦ Ordering.lt ]

compare_mirrored : (a b : ℕ) → compare b a ≡ mirrored (compare a b)
compare_mirrored zero zero = rw compare.zero-zero
compare_mirrored zero (suc b) = compare.suc-zero b ∙ ap mirrored (sym (compare.zero-suc b))
compare_mirrored (suc a) zero = compare.zero-suc a ∙ ap mirrored (sym (compare.suc-zero a))
compare_mirrored (suc a) (suc b) = compare.suc-suc b a ∙ compare_mirrored a b ∙ ap mirrored (sym (compare.suc-suc a b))

-- What decides two rows: their first states, and then the rest.
abbrev decided : Ordering → Ordering → Ordering
decided c o = elim c [ Ordering.lt ↦ Ordering.lt | Ordering.eq ↦ o | Ordering.gt ↦ Ordering.gt ]

decided_eq : (c o : Ordering) → decided c o ≡ Ordering.eq → (c ≡ Ordering.eq) × (o ≡ Ordering.eq)
decided_eq Ordering.lt o e = (e, cc)
decided_eq Ordering.eq o e = (refl, e)
decided_eq Ordering.gt o e = (e, cc)

decided_lt : (c o : Ordering) → decided c o ≡ Ordering.lt → (c ≡ Ordering.lt) ⊎ ((c ≡ Ordering.eq) × (o ≡ Ordering.lt))
decided_lt Ordering.lt o e = inl refl
decided_lt Ordering.eq o e = inr (refl, e)
decided_lt Ordering.gt o e = inl e

decided-mirrored : (c o : Ordering) → decided (mirrored c) (mirrored o) ≡ mirrored (decided c o)
decided-mirrored Ordering.lt o = refl
decided-mirrored Ordering.eq o = refl
decided-mirrored Ordering.gt o = refl

pub compare_rows_refl : (x : Row) → compare_rows x x ≡ Ordering.eq
unfolding compare_rows
compare_rows_refl [] = refl
compare_rows_refl (a ∷ x) = ap₂ decided (compare_refl a) (compare_rows_refl x)

pub compare_rows_eq : (x y : Row) → compare_rows x y ≡ Ordering.eq → x ≡ y
unfolding compare_rows
compare_rows_eq [] [] e = refl
compare_rows_eq [] (b ∷ y) e = cc
compare_rows_eq (a ∷ x) [] e = cc
compare_rows_eq (a ∷ x) (b ∷ y) e =
    let s = decided_eq (compare a b) (compare_rows x y) e in ap₂ ◌∷◌ ((compare_eq a b).0 s.0) (compare_rows_eq x y s.1)

-- The other way round, lt is gt.
pub compare_rows-mirrored : (x y : Row) → compare_rows y x ≡ mirrored (compare_rows x y)
unfolding compare_rows
compare_rows-mirrored [] [] = refl
compare_rows-mirrored [] (b ∷ y) = refl
compare_rows-mirrored (a ∷ x) [] = refl
compare_rows-mirrored (a ∷ x) (b ∷ y) =
    ap₂ decided (compare_mirrored a b) (compare_rows-mirrored x y) ∙ decided-mirrored (compare a b) (compare_rows x y)

less_cons : (a b : ℕ) (x y : Row) → (compare_rows (a ∷ x) (b ∷ y) ≡ Ordering.lt) ↔ (a < b) ⊎ ((a ≡ b) × (compare_rows x y ≡ Ordering.lt))
unfolding compare_rows
less_cons a b x y = (
  λ e. ⊎_map (compare_lt a b).0 (λ s. ((compare_eq a b).0 s.0, s.1)) (decided_lt (compare a b) (compare_rows x y) e),
  ⊎_elim (λ l. ap (λ (c : Ordering). decided c (compare_rows x y)) ((compare_lt a b).1 l)) (λ s. ap₂ decided ((compare_eq a b).1 s.0) s.1),
)

pub compare_rows_trans : (x y z : Row) → compare_rows x y ≡ Ordering.lt → compare_rows y z ≡ Ordering.lt → compare_rows x z ≡ Ordering.lt
unfolding compare_rows
compare_rows_trans [] [] z e f = cc
compare_rows_trans [] (b ∷ y) [] e f = cc
compare_rows_trans [] (b ∷ y) (c ∷ z) e f = refl
compare_rows_trans (a ∷ x) [] z e f = cc
compare_rows_trans (a ∷ x) (b ∷ y) [] e f = cc
compare_rows_trans (a ∷ x) (b ∷ y) (c ∷ z) e f =
    (less_cons a c x z).1
    (go ((less_cons a b x y).0 e) ((less_cons b c y z).0 f) (compare_rows_trans x y z))
  where
    go : (a < b) ⊎ ((a ≡ b) × (compare_rows x y ≡ Ordering.lt)) → (b < c) ⊎ ((b ≡ c) × (compare_rows y z ≡ Ordering.lt)) →
        (compare_rows x y ≡ Ordering.lt → compare_rows y z ≡ Ordering.lt → compare_rows x z ≡ Ordering.lt) →
        (a < c) ⊎ ((a ≡ c) × (compare_rows x z ≡ Ordering.lt))
    go (inl l) (inl k) rest = inl (omega arith)
    go (inl l) (inr s) rest = inl (omega (arith, s.0))
    go (inr r) (inl k) rest = inl (omega (arith, r.0))
    go (inr r) (inr s) rest = inr (r.0 ∙ s.0, rest r.1 s.1)

-- No row is below itself.
pub compare_rows_irrefl : (x y : Row) → compare_rows x y ≡ Ordering.lt → x ≢ y
compare_rows_irrefl x y e same = let c = rw same at e in let z : ◌≡◌ {A = ℕ} 0 1 = cc (compare_rows_refl y) in omega arith
