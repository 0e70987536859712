-- Laws of Below.antt's words. Other rooms cite them by name.
-- In order: tables and gathers; membership by index (`In`); `some` and `every`; sums; counts; `first`.
-- A name's end says what the law is of: -more, one more number, as a loop meets it; -add, the first k and then the rest;
-- -ext, that what is made of equal parts is equal.
use mathlib.Core.Path.{◌≡◌, refl, sym, ap, ◌∙◌}
use mathlib.Core.Logic.{◌↔◌, ◌⊎◌, inl, inr, ⊎_elim, ⊎_map, ◌≢◌}
use mathlib.Core.Bool.{Bool, true, false, cond, not, ◌&&◌, ◌||◌, and-eq-true_iff, false≢true}
use mathlib.Core.List.{List, [], ◌∷◌, ◌++◌, map, map-append, append_assoc, append-nil}
use Prim.Native.Nat.{ℕ, zero, suc, ◌+◌, ◌*◌, ◌≤◌, ◌<◌}
use native.Mathlib.Nat.{add-zero, add-suc, suc-mul, not-suc-le-zero}
use native.Mathlib.Numerals.{add-one}
use native.Mathlib.Omega.{arith}
use native.Mathlib.Decide.{ℕ_discrete, dec_le}
use lib.ListN.{length, get_or, replicate, length-append, get_or-append}
use lib.Seq.{get_or_at, get_or-append-add, ext_get_or}
use Rattle.graph.specs.Below.{table, gather, given, only, sum, count, some, every, first}

-- A number below n + 1 is n, or below n.
pub last_or : (P : ℕ → Type 0) (n i : ℕ) → i < suc n → P n → (i < n → P i) → P i
last_or P n i h p f = elim (ℕ_discrete i n) [ yes e ↦ rw e p | no ne ↦ f (omega arith) ]

-- A test that does not pass fails, and one that does not fail passes.
pub is_false : (t : Bool) → (t ≡ true → ⊥) → t ≡ false
is_false true h = absurd (h refl)
is_false false h = refl

pub is_true : (t : Bool) → (t ≡ false → ⊥) → t ≡ true
is_true true h = refl
is_true false h = absurd (h refl)

-- Two tests that pass together are one.
pub same_tests : (a b : Bool) → (a ≡ true → b ≡ true) → (b ≡ true → a ≡ true) → a ≡ b
same_tests true b f g = sym (f refl)
same_tests false b f g = sym (is_false b (λ t. false≢true (g t)))

pub or_true : (a b : Bool) → (a || b ≡ true) ↔ (a ≡ true) ⊎ (b ≡ true)
or_true true b = (λ e. inl refl, λ s. refl)
or_true false b = (inr, ⊎_elim (λ e. absurd (false≢true e)) (λ e. e))

module _ {A : Type 0} where
  pub table_more : (n : ℕ) (f : ℕ → A) → table (n + 1) f ≡ table n f ++ (f n ∷ [])
  unfolding table
  table_more n f = rw add-one

  pub gather-more : (n : ℕ) (f : ℕ → List A) → gather (n + 1) f ≡ gather n f ++ f n
  unfolding gather
  gather-more n f = rw add-one

  pub table_add : (k n : ℕ) (f : ℕ → A) → table (k + n) f ≡ table k f ++ table n (λ i. f (k + i))
  unfolding table
  table_add k zero f = rw (add-zero, append-nil)
  table_add k (suc n) f = rw (add-suc, table, table_add k n f, append_assoc)

  pub gather_add : (k n : ℕ) (f : ℕ → List A) → gather (k + n) f ≡ gather k f ++ gather n (λ i. f (k + i))
  unfolding gather
  gather_add k zero f = rw (add-zero, append-nil)
  gather_add k (suc n) f = rw (add-suc, gather, gather_add k n f, append_assoc)

  pub table_ext : (n : ℕ) (f g : ℕ → A) → ((i : ℕ) → i < n → f i ≡ g i) → table n f ≡ table n g
  unfolding table
  table_ext zero f g e = refl
  table_ext (suc n) f g e = rw (table_ext n f g (λ i h. e i (omega arith)), e n (omega arith))

  pub gather_ext : (n : ℕ) (f g : ℕ → List A) → ((i : ℕ) → i < n → f i ≡ g i) → gather n f ≡ gather n g
  unfolding gather
  gather_ext zero f g e = refl
  gather_ext (suc n) f g e = rw (gather_ext n f g (λ i h. e i (omega arith)), e n (omega arith))

  pub length-table : (n : ℕ) (f : ℕ → A) → length (table n f) ≡ n
  unfolding table
  length-table zero f = refl
  length-table (suc n) f = simp (length-append, length-table n f) (omega arith)

  pub length-gather : (n : ℕ) (f : ℕ → List A) → length (gather n f) ≡ sum n (λ i. length (f i))
  unfolding gather sum
  length-gather zero f = refl
  length-gather (suc n) f = rw (length-append, length-gather n f)

  pub get_or-table : (n : ℕ) (f : ℕ → A) (i : ℕ) (x : A) → i < n → get_or (table n f) i x ≡ f i
  unfolding table
  get_or-table zero f i x h = elim h [ ]
  get_or-table (suc n) f i x h =
      last_or (λ j. get_or (table (suc n) f) j x ≡ f j) n i h (get_or_at (table n f) (f n) [] x n (length-table n f))
      (λ l. get_or-append (table n f) _ x i (rw length-table l) ∙ get_or-table n f i x l)

  pub table-get_or : (xs : List A) (x : A) → table (length xs) (λ i. get_or xs i x) ≡ xs
  table-get_or xs x =
      ext_get_or x _ xs (length-table _ _) (λ i h. get_or-table (length xs) _ i x (rw length-table at h))

  -- x is one of the list's elements.
  abbrev pub In : A → List A → Type 0
  In x [] = ⊥
  In x (y ∷ ys) = (x ≡ y) ⊎ In x ys

  in_left : (x : A) (xs ys : List A) → In x xs → In x (xs ++ ys)
  in_left x [] ys x'' = elim x'' [ ]
  in_left x (y ∷ xs) ys (inl e) = inl e
  in_left x (y ∷ xs) ys (inr h) = inr (in_left x xs ys h)

  in_right : (x : A) (xs ys : List A) → In x ys → In x (xs ++ ys)
  in_right x [] ys h = h
  in_right x (y ∷ xs) ys h = inr (in_right x xs ys h)

  in_parts : (x : A) (xs ys : List A) → In x (xs ++ ys) → In x xs ⊎ In x ys
  in_parts x [] ys h = inr h
  in_parts x (y ∷ xs) ys (inl e) = inl (inl e)
  in_parts x (y ∷ xs) ys (inr h) = ⊎_map inr (λ g. g) (in_parts x xs ys h)

  pub in_append : (x : A) (xs ys : List A) → In x (xs ++ ys) ↔ In x xs ⊎ In x ys
  in_append x xs ys = (in_parts x xs ys, ⊎_elim (in_left x xs ys) (in_right x xs ys))

  -- An element of a gather, and the number whose list has it.
  pub in_gather : (x : A) (n : ℕ) (f : ℕ → List A) → In x (gather n f) ↔ ((i : ℕ) × (i < n) × In x (f i))
  unfolding gather
  in_gather x zero f = (absurd, λ s. absurd (not-suc-le-zero s.1))
  in_gather x (suc n) f = (
    λ h. ⊎_elim (λ l. let s = (in_gather x n f).0 l in (s.0, omega arith, s.2)) (λ r. (n, omega arith, r)) (in_parts x (gather n f) (f n) h),
    λ s. last_or (λ i. In x (f i) → In x (gather (suc n) f)) n s.0 s.1 (in_right x (gather n f) (f n))
        (λ l g. in_left x (gather n f) (f n) ((in_gather x n f).1 (s.0, l, g))) s.2,
  )

  pub in_given : (x : A) (t : Bool) (xs : List A) → In x (given t xs) ↔ ((t ≡ true) × In x xs)
  in_given x true xs = (λ h. (refl, h), λ s. s.1)
  in_given x false xs = (absurd, λ s. absurd (false≢true s.0))

  pub in_only : (x : A) (t : Bool) (y : A) → In x (only t y) ↔ ((t ≡ true) × (x ≡ y))
  in_only x t y =
      let g = in_given x t (y ∷ []) in
      (λ h. let s = g.0 h in (s.0, ⊎_elim (λ e. e) absurd s.1), λ s. g.1 (s.0, inl s.1))

  pub in_at : (xs : List A) (i : ℕ) (d : A) → i < length xs → In (get_or xs i d) xs
  in_at [] i d h = absurd (not-suc-le-zero h)
  in_at (x ∷ xs) zero d h = inl refl
  in_at (x ∷ xs) (suc i) d h = inr (in_at xs i d (omega arith))

  -- Where an element stands.
  pub in_place : (x : A) (xs : List A) → In x xs → (i : ℕ) × (i < length xs) × ((d : A) → get_or xs i d ≡ x)
  in_place x [] x'' = elim x'' [ ]
  in_place x (y ∷ xs) (inl e) = (0, omega arith, λ d. sym e)
  in_place x (y ∷ xs) (inr h) = let s = in_place x xs h in (suc s.0, omega arith, s.2)

  pub in_table : (x : A) (n : ℕ) (f : ℕ → A) → In x (table n f) ↔ ((i : ℕ) × (i < n) × (x ≡ f i))
  in_table x n f = (
    λ h. let s = in_place x (table n f) h in let l : s.0 < n = (rw length-table at s).1 in
        (s.0, l, sym (s.2 x) ∙ get_or-table n f s.0 x l),
    λ s. rw (s.2, ← get_or-table n f s.0 x s.1) (in_at (table n f) s.0 x (rw length-table s.1)),
  )

pub in_replicate : {A : Type 0} (x a : A) (n : ℕ) → In x (replicate n a) → x ≡ a
in_replicate {A = A} x a zero x'' = elim x'' [ ]
in_replicate x a (suc n) (inl e) = e
in_replicate x a (suc n) (inr h) = in_replicate x a n h

-- What holds of a list's element at each place holds of each that is in it, and the other way round.
pub each-place : {A : Type 0} (P : A → Type 0) (xs : List A) (d : A) → ((i : ℕ) → i < length xs → P (get_or xs i d)) ↔ ((x : A) → In x xs → P x)
each-place P xs d = (
  λ f x h. let (i, l, at) = in_place x xs h in rw (at d) at (f i l),
  λ f i l. f _ (in_at xs i d l),
)

-- What is kept of a list by a test on its elements.
pub in_kept : {A B : Type 0} (p : A → Bool) (g : A → B) (xs : List A) (d : A) (y : B) →
    In y (gather (length xs) (λ k. only (p (get_or xs k d)) (g (get_or xs k d)))) ↔ ((x : A) × In x xs × (p x ≡ true) × (y ≡ g x))
in_kept {A} {B} p g xs d y =
    let f : ℕ → List B = λ k. only (p (get_or xs k d)) (g (get_or xs k d)) in
    let s = in_gather y (length xs) f in (
      λ h. let (k, l, i) = s.0 h in let (t, e) = (in_only y (p (get_or xs k d)) (g (get_or xs k d))).0 i in (get_or xs k d, in_at xs k d l, t, e),
      λ r. let (k, l, at) = in_place r.0 xs r.1 in
          s.1 (k, l, (in_only y (p (get_or xs k d)) (g (get_or xs k d))).1 (rw (at d) r.2, r.3 ∙ ap g (sym (at d)))),
    )

-- A list of no length is empty.
pub empty : {A : Type 0} (xs : List A) → (length xs ≡ 0) ↔ (xs ≡ [])
empty [] = (λ e. refl, λ e. refl)
empty (x ∷ xs) = (λ e. absurd (omega arith), λ e. ap length e)

-- A gather of single elements is a table.
pub gather-table : {A : Type 0} (n : ℕ) (f : ℕ → A) → gather n (λ i. f i ∷ []) ≡ table n f
unfolding gather table
gather-table zero f = refl
gather-table (suc n) f = rw (gather-table n f)

pub in_map : {A B : Type 0} (y : B) (f : A → B) (xs : List A) → In y (map f xs) ↔ ((x : A) × In x xs × (y ≡ f x))
in_map y f [] = (absurd, λ s. s.1)
in_map y f (x ∷ xs) = (
  ⊎_elim (λ e. (x, inl refl, e)) (λ h. let s = (in_map y f xs).0 h in (s.0, inr s.1, s.2)),
  λ s. ⊎_map (λ e. s.2 ∙ ap f e) (λ h. (in_map y f xs).1 (s.0, h, s.2)) s.1,
)

pub some_more : (n : ℕ) (p : ℕ → Bool) → some (n + 1) p ≡ (some n p || p n)
unfolding some
some_more n p = rw add-one

pub every_more : (n : ℕ) (p : ℕ → Bool) → every (n + 1) p ≡ (every n p && p n)
unfolding every
every_more n p = rw add-one

pub some_ext : (n : ℕ) (p q : ℕ → Bool) → ((i : ℕ) → i < n → p i ≡ q i) → some n p ≡ some n q
unfolding some
some_ext zero p q e = refl
some_ext (suc n) p q e = rw (some_ext n p q (λ i h. e i (omega arith)), e n (omega arith))

pub every_ext : (n : ℕ) (p q : ℕ → Bool) → ((i : ℕ) → i < n → p i ≡ q i) → every n p ≡ every n q
unfolding every
every_ext zero p q e = refl
every_ext (suc n) p q e = rw (every_ext n p q (λ i h. e i (omega arith)), e n (omega arith))

pub some_true : (n : ℕ) (p : ℕ → Bool) → (some n p ≡ true) ↔ ((i : ℕ) × (i < n) × (p i ≡ true))
unfolding some
some_true zero p = (λ e. absurd (false≢true e), λ s. absurd (not-suc-le-zero s.1))
some_true (suc n) p =
    let o = or_true (some n p) (p n) in (
      λ e. ⊎_elim (λ l. let s = (some_true n p).0 l in (s.0, omega arith, s.2)) (λ r. (n, omega arith, r)) (o.0 e),
      λ s. last_or (λ i. p i ≡ true → some (suc n) p ≡ true) n s.0 s.1 (λ e. o.1 (inr e))
          (λ l e. o.1 (inl ((some_true n p).1 (s.0, l, e)))) s.2,
    )

pub some_false : (n : ℕ) (p : ℕ → Bool) → (some n p ≡ false) ↔ ((i : ℕ) → i < n → p i ≡ false)
some_false n p = (
  λ e i h. is_false (p i) (λ t. false≢true (sym e ∙ (some_true n p).1 (i, h, t))),
  λ f. is_false (some n p) (λ t. let s = (some_true n p).0 t in false≢true (sym (f s.0 s.1) ∙ s.2)),
)

pub every_true : (n : ℕ) (p : ℕ → Bool) → (every n p ≡ true) ↔ ((i : ℕ) → i < n → p i ≡ true)
unfolding every
every_true zero p = (λ e i h. absurd (not-suc-le-zero h), λ f. refl)
every_true (suc n) p =
    let a = and-eq-true_iff (every n p) (p n) in (
      λ e i h. last_or (λ j. p j ≡ true) n i h (a.0 e).1 (λ l. (every_true n p).0 (a.0 e).0 i l),
      λ f. a.1 ((every_true n p).1 (λ i h. f i (omega arith)), f n (omega arith)),
    )

pub sum_more : (n : ℕ) (f : ℕ → ℕ) → sum (n + 1) f ≡ sum n f + f n
unfolding sum
sum_more n f = rw add-one

pub sum_add : (k n : ℕ) (f : ℕ → ℕ) → sum (k + n) f ≡ sum k f + sum n (λ i. f (k + i))
unfolding sum
sum_add k zero f = rw (add-zero k, add-zero (sum k f))
sum_add k (suc n) f = rw (add-suc, sum, sum_add k n f) (omega arith)

pub sum_ext : (n : ℕ) (f g : ℕ → ℕ) → ((i : ℕ) → i < n → f i ≡ g i) → sum n f ≡ sum n g
unfolding sum
sum_ext zero f g e = refl
sum_ext (suc n) f g e = rw (sum_ext n f g (λ i h. e i (omega arith)), e n (omega arith))

pub sum_le : (n : ℕ) (f g : ℕ → ℕ) → ((i : ℕ) → i < n → f i ≤ g i) → sum n f ≤ sum n g
unfolding sum
sum_le zero f g l = omega arith
sum_le (suc n) f g l = omega (arith, sum_le n f g (λ i h. l i (omega arith)), l n (omega arith))

-- n terms of at most k.
pub sum_bound : (n k : ℕ) (f : ℕ → ℕ) → ((i : ℕ) → i < n → f i ≤ k) → sum n f ≤ n * k
unfolding sum
sum_bound zero k f l = omega arith
sum_bound (suc n) k f l = omega (arith, suc-mul n k, sum_bound n k f (λ i h. l i (omega arith)), l n (omega arith))

pub sum_zero : (n : ℕ) (f : ℕ → ℕ) → ((i : ℕ) → i < n → f i ≡ 0) → sum n f ≡ 0
unfolding sum
sum_zero zero f z = refl
sum_zero (suc n) f z = omega (arith, sum_zero n f (λ i h. z i (omega arith)), z n (omega arith))

-- A sum whose terms are all 0 but one is that term.
pub sum_one : (n : ℕ) (f : ℕ → ℕ) (k : ℕ) → k < n → ((i : ℕ) → i < n → i ≢ k → f i ≡ 0) → sum n f ≡ f k
unfolding sum
sum_one zero f k h z = elim h [ ]
sum_one (suc n) f k h z = elim (ℕ_discrete k n) [
  | yes e ↦ rw e (omega (arith, sum_zero n f (λ i l. z i (omega arith) (omega arith))))
  | no ne ↦ omega (arith, sum_one n f k (omega arith) (λ i l. z i (omega arith)), z n (omega arith) (omega arith))
]

-- Each term is within the sum.
pub sum_term : (n : ℕ) (f : ℕ → ℕ) (i : ℕ) → i < n → f i ≤ sum n f
unfolding sum
sum_term zero f i h = elim h [ ]
sum_term (suc n) f i h = last_or (λ j. f j ≤ sum (suc n) f) n i h (omega arith) (λ l. omega (arith, sum_term n f i l))

pub sum_plus : (n : ℕ) (f g : ℕ → ℕ) → sum n (λ i. f i + g i) ≡ sum n f + sum n g
unfolding sum
sum_plus zero f g = refl
sum_plus (suc n) f g = omega (arith, sum_plus n f g)

pub sum_swap : (n m : ℕ) (f : ℕ → ℕ → ℕ) → sum n (λ i. sum m (λ j. f i j)) ≡ sum m (λ j. sum n (λ i. f i j))
unfolding sum
sum_swap zero m f = sym (sum_zero m _ (λ i h. refl))
sum_swap (suc n) m f = rw (sum_plus m (λ j. sum n (λ i. f i j)) (f n), sum_swap n m f)

-- One for a test that passes, and one for its negation if it does not.
one_of : (t : Bool) → cond t 1 0 + cond (not t) 1 0 ≡ 1
one_of true = refl
one_of false = refl

pub count-not : (n : ℕ) (p : ℕ → Bool) → count n p + count n (λ i. not (p i)) ≡ n
unfolding sum
count-not zero p = refl
count-not (suc n) p = omega (arith, count-not n p, one_of (p n))

pub count_le : (n : ℕ) (p : ℕ → Bool) → count n p ≤ n
count_le n p = omega (arith, count-not n p)

pub count_ext : (n : ℕ) (p q : ℕ → Bool) → ((i : ℕ) → i < n → p i ≡ q i) → count n p ≡ count n q
count_ext n p q e = sum_ext n _ _ (λ i h. rw (e i h))

pub count_zero : (n : ℕ) (p : ℕ → Bool) → ((i : ℕ) → i < n → p i ≡ false) → count n p ≡ 0
count_zero n p z = sum_zero n _ (λ i h. rw (z i h))

-- Number k passes, and no other does.
pub count-one : (n : ℕ) (p : ℕ → Bool) (k : ℕ) → k < n → p k ≡ true → ((i : ℕ) → i < n → p i ≡ true → i ≡ k) → count n p ≡ 1
count-one n p k h e u = sum_one n (λ i. cond (p i) 1 0) k h (λ i l ne. rw (is_false (p i) (λ t. ne (u i l t)))) ∙ rw e

pub count-all : (n : ℕ) (p : ℕ → Bool) → ((i : ℕ) → i < n → p i ≡ true) → count n p ≡ n
count-all n p e = omega (arith, count-not n p, count_zero n (λ i. not (p i)) (λ i h. rw (e i h)))

pub count_pos : (n : ℕ) (p : ℕ → Bool) → (1 ≤ count n p) ↔ ((i : ℕ) × (i < n) × (p i ≡ true))
count_pos n p = (
  λ h. (some_true n p).0 (is_true (some n p) (λ e. omega (arith, count_zero n p ((some_false n p).0 e)))),
  λ s. rw s.2 at (sum_term n (λ i. cond (p i) 1 0) s.0 s.1),
)

length-only : {A : Type 0} (t : Bool) (x : A) → length (only t x) ≡ cond t 1 0
length-only true x = refl
length-only false x = refl

-- As many are kept as pass.
pub length-kept : {A : Type 0} (n : ℕ) (p : ℕ → Bool) (f : ℕ → A) → length (gather n (λ i. only (p i) (f i))) ≡ count n p
length-kept n p f = length-gather n _ ∙ sum_ext n _ _ (λ i h. length-only (p i) (f i))

-- What is made of those kept is made of them one by one.
pub map-kept : {A B : Type 0} (f : A → B) (n : ℕ) (p : ℕ → Bool) (g : ℕ → A) →
    map f (gather n (λ i. only (p i) (g i))) ≡ gather n (λ i. only (p i) (f (g i)))
unfolding gather
map-kept f zero p g = refl
map-kept f (suc n) p g = map-append f (gather n (λ i. only (p i) (g i))) (only (p n) (g n)) ∙ rw (map-kept f n p g, one (p n) (g n))
  where
    one : (t : Bool) (x : _) → map f (only t x) ≡ only t (f x)
    one true x = refl
    one false x = refl

-- How many of a list's elements pass, by their places: of two lists one behind the other, of a gather, and of what is kept.
module _ {A : Type 0} (p : A → Bool) (d : A) where
  abbrev passing : List A → ℕ
  passing xs = count (length xs) (λ k. p (get_or xs k d))

  passing-append : (xs ys : List A) → passing (xs ++ ys) ≡ passing xs + passing ys
  passing-append xs ys =
      let tests : ℕ → ℕ = λ k. cond (p (get_or (xs ++ ys) k d)) 1 0 in
      rw (
        length-append,
        sum_add (length xs) (length ys) tests,
        sum_ext (length xs) tests (λ k. cond (p (get_or xs k d)) 1 0) (λ k h. rw (get_or-append xs ys d k h)),
        sum_ext (length ys) (λ k. tests (length xs + k)) (λ k. cond (p (get_or ys k d)) 1 0) (λ k h. rw (get_or-append-add xs ys k d)),
      )

  pub passing-gather : (n : ℕ) (f : ℕ → List A) → passing (gather n f) ≡ sum n (λ i. passing (f i))
  unfolding gather sum
  passing-gather zero f = refl
  passing-gather (suc n) f = passing-append (gather n f) (f n) ∙ rw (passing-gather n f)

  passing-only : (t : Bool) (x : A) → passing (only t x) ≡ cond (t && p x) 1 0
  unfolding sum
  passing-only true x = omega arith
  passing-only false x = refl

  pub passing_kept : (n : ℕ) (t : ℕ → Bool) (f : ℕ → A) → passing (gather n (λ i. only (t i) (f i))) ≡ count n (λ i. t i && p (f i))
  passing_kept n t f = passing-gather n _ ∙ sum_ext n _ _ (λ i h. passing-only (t i) (f i))

-- k is the first that passes, or n where none does.
record First (n : ℕ) (p : ℕ → Bool) (k : ℕ) : Type 0 where
  within : k ≤ n
  before : (i : ℕ) → i < k → p i ≡ false
  hits : k < n → p k ≡ true

first-first : (n : ℕ) (p : ℕ → Bool) → First n p (first n p)
unfolding first
first-first zero p = record { within = omega arith; before = λ i h. absurd (not-suc-le-zero h); hits = λ h. absurd (not-suc-le-zero h) }
first-first (suc n) p = go (p 0) refl (first-first n (λ i. p (suc i)))
  where
    go : (t : Bool) → p 0 ≡ t → {k : ℕ} → First n (λ i. p (suc i)) k → First (suc n) p (cond t 0 (suc k))
    go true e r = record { within = omega arith; before = λ i h. absurd (not-suc-le-zero h); hits = λ h. e }
    go false e r = record {
      within = omega (arith, r.within);
      before = elim [ zero ↦ λ h. e | suc i ↦ λ h. r.before i (omega arith) ];
      hits = λ h. r.hits (omega arith);
    }

first_no_later : (n : ℕ) (p : ℕ → Bool) (k l : ℕ) → First n p k → First n p l → k ≤ l
first_no_later n p k l a b = elim (dec_le k l) [
  | yes h ↦ h
  | no f ↦ absurd (false≢true (sym (a.before l (omega arith)) ∙ b.hits (omega (arith, a.within))))
]

pub first_le : (n : ℕ) (p : ℕ → Bool) → first n p ≤ n
first_le n p = (first-first n p).within

pub first-before : (n : ℕ) (p : ℕ → Bool) (i : ℕ) → i < first n p → p i ≡ false
first-before n p = (first-first n p).before

pub first-hits : (n : ℕ) (p : ℕ → Bool) → first n p < n → p (first n p) ≡ true
first-hits n p = (first-first n p).hits

pub first-is : (n : ℕ) (p : ℕ → Bool) (k : ℕ) → k ≤ n → ((i : ℕ) → i < k → p i ≡ false) → (k < n → p k ≡ true) → first n p ≡ k
first-is n p k w b h =
    let f = first-first n p in
    let g : First n p k = record { within = w; before = b; hits = h } in
    omega (arith, first_no_later n p _ k f g, first_no_later n p k _ g f)
