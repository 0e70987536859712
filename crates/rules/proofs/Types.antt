-- Types: rows as tests compare them; first rows, their order and their number; sampled types, whose row counts sum to the rows.
-- A list kept by a test (`kept`) has each number that passes at the place that says how many pass before it, and nothing else:
-- so first rows are counted off.
use mathlib.Core.Path.{◌≡◌, refl, sym, ap, ◌∙◌}
use mathlib.Core.Logic.{◌↔◌, ◌≢◌}
use mathlib.Core.Bool.{Bool, true, false, cond, not, false≢true}
use mathlib.Core.List.{List, [], ◌∷◌, map}
use Prim.Native.Nat.{ℕ, zero, suc, ◌≤◌, ◌<◌}
use native.Mathlib.Nat.{not-suc-le-zero}
use native.Mathlib.Omega.{arith}
use native.Mathlib.Decide.{dec_lt}
use lib.ListN.{length, get_or, take, length-append, length-map, get_or-append}
use lib.Seq.{length-take-le, get_or-take, get_or_at}
use borrow.Author.Tests.{ltb-true, ltb-false, lt-ltb, not-true}
use Rattle.graph.specs.Below.{gather, only, sum, count, first}
use Rattle.graph.proofs.Below.{last_or, is_false, In, in_gather, in_only, in_at, in_map, some_false, some_ext, sum_ext, sum_swap, count_le, count_ext, count-one, count_pos, length-kept, first-before, first-hits}
use Rattle.rules.specs.Job.{Row}
use Rattle.rules.specs.Types.{Node, inferred, row_count, row_at, node_at, is_same_row, is_first, firsts, sampled_at, sampled, has_too_many, row129}
use Rattle.rules.proofs.Rows.{same_row}
use Rattle.rules.proofs.Ascending.{Ascending, ascending-only, ascending-gather, ascending-at}

pub is-first : (rs : List Row) (k : ℕ) → (is_first rs k ≡ true) ↔ ((i : ℕ) → i < k → row_at rs i ≢ row_at rs k)
is-first rs k = (
  λ e i h q. false≢true (sym ((some_false k _).0 (not-true _ e) i h) ∙ (same_row _ _).1 q),
  λ f. ap not ((some_false k _).1 (λ i h. is_false _ (λ e. f i h ((same_row _ _).0 e)))),
)

-- Two first rows that are equal are one.
pub first-same : (rs : List Row) (j k : ℕ) → is_first rs j ≡ true → is_first rs k ≡ true → row_at rs j ≡ row_at rs k → j ≡ k
first-same rs j k p q e = elim (dec_lt j k) [
  | yes h ↦ absurd ((is-first rs k).0 q j h e)
  | no f ↦ elim (dec_lt k j) [ yes h ↦ absurd ((is-first rs j).0 p k h (sym e)) | no g ↦ omega arith ]
]

-- The numbers below n that pass a test.
module _ (t : ℕ → Bool) where
  abbrev kept : ℕ → List ℕ
  kept n = gather n (λ k. only (t k) k)

  in_kept : (n k : ℕ) → In k (kept n) ↔ ((k < n) × (t k ≡ true))
  in_kept n k = (
    λ h. let s = (in_gather k n _).0 h in let o = (in_only k (t s.0) s.0).0 s.2 in (rw o.1 s.1, rw o.1 o.0),
    λ s. (in_gather k n _).1 (k, s.0, (in_only k (t k) k).1 (s.1, refl)),
  )

  kept-ascends : (n : ℕ) → Ascending ◌<◌ (kept n)
  kept-ascends n = ascending-gather ◌<◌ n _ (λ i h. ascending-only ◌<◌ (t i) i)
      (λ i j h l x y p q. let a = (in_only x (t i) i).0 p in let b = (in_only y (t j) j).0 q in omega arith)

  -- A number that passes stands at the place that says how many pass before it.
  kept_at : (n k : ℕ) → k < n → t k ≡ true → (count k t < length (kept n)) × (get_or (kept n) (count k t) 0 ≡ k)
  unfolding gather
  kept_at zero k h = elim h [ ]
  kept_at (suc n) k h = last_or (λ j. t j ≡ true → (count j t < length (kept (suc n))) × (get_or (kept (suc n)) (count j t) 0 ≡ j)) n k h
      (λ e. rw e (rw length-append (omega (arith, length-kept n t (λ i. i))), get_or_at (kept n) n [] 0 (count n t) (length-kept n t (λ i. i))))
      (λ l e. let ih = kept_at n k l e in
      (rw length-append (omega arith), get_or-append (kept n) _ 0 (count k t) ih.0 ∙ ih.1))

  -- And what stands at place q has q that pass before it.
  kept-place : (n q : ℕ) → q < length (kept n) → count (get_or (kept n) q 0) t ≡ q
  kept-place n q h =
      let p = get_or (kept n) q 0 in
      let s = (in_kept n p).0 (in_at (kept n) q 0 h) in
      let a = kept_at n p s.0 s.1 in
      let up = ascending-at ◌<◌ (kept n) 0 (kept-ascends n) in
      elim (dec_lt (count p t) q) [
        | yes l ↦ absurd (omega (arith, up (count p t) q l h))
        | no f ↦ elim (dec_lt q (count p t)) [ yes l ↦ absurd (omega (arith, up q (count p t) l a.0)) | no g ↦ omega arith ]
      ]

-- First rows ascend.
pub firsts_ascend : (rs : List Row) → Ascending ◌<◌ (firsts rs)
unfolding firsts
firsts_ascend rs = kept-ascends (is_first rs) (length rs)

pub in_firsts : (rs : List Row) (k : ℕ) → In k (firsts rs) ↔ ((k < length rs) × (is_first rs k ≡ true))
unfolding firsts
in_firsts rs k = in_kept (is_first rs) (length rs) k

pub length-firsts : (rs : List Row) → length (firsts rs) ≡ count (length rs) (is_first rs)
unfolding firsts
length-firsts rs = length-kept (length rs) (is_first rs) (λ k. k)

pub firsts-few : (rs : List Row) → length (firsts rs) ≤ length rs
firsts-few rs = omega (arith, length-firsts rs, count_le (length rs) (is_first rs))

-- Row 0 is a first row.
pub firsts_any : (rs : List Row) → 1 ≤ length rs → 1 ≤ length (firsts rs)
firsts_any rs h =
    rw length-firsts ((count_pos (length rs) (is_first rs)).1 (0, h, (is-first rs 0).1 (λ i l. absurd (not-suc-le-zero l))))

-- Whether a row is a first row is told by the rows before it.
pub first-take : (rs : List Row) (p k : ℕ) → k < p → is_first (take p rs) k ≡ is_first rs k
first-take rs p k h =
    ap not (some_ext k (λ i. is_same_row (row_at (take p rs) i) (row_at (take p rs) k)) (λ i. is_same_row (row_at rs i) (row_at rs k))
    (λ i l. rw (get_or-take p rs i [] (omega arith), get_or-take p rs k [] h)))

pub firsts-take : (rs : List Row) (p : ℕ) → p ≤ length rs → length (firsts (take p rs)) ≡ count p (is_first rs)
firsts-take rs p h = length-firsts (take p rs) ∙ rw (length-take-le p rs h) (count_ext p _ _ (first-take rs p))

-- p is the first row with q first rows before it.
pub record Nth (rs : List Row) (q p : ℕ) : Type 0 where
  pub within : p < length rs
  pub new : is_first rs p ≡ true
  pub before : length (firsts (take p rs)) ≡ q

-- The first row at place q has q first rows before it, and it alone does.
pub firsts-nth : (rs : List Row) (q : ℕ) → q < length (firsts rs) → Nth rs q (get_or (firsts rs) q 0)
unfolding firsts
firsts-nth rs q h =
    let p = get_or (firsts rs) q 0 in
    let s = (in_firsts rs p).0 (in_at (firsts rs) q 0 h) in
    record { within = s.0; new = s.1; before = firsts-take rs p (omega arith) ∙ kept-place (is_first rs) (length rs) q h }

pub nth-firsts : (rs : List Row) (q p : ℕ) → Nth rs q p → (q < length (firsts rs)) × (get_or (firsts rs) q 0 ≡ p)
nth-firsts rs q p r = rw (← r.before, firsts-take rs p (omega arith)) (unfold firsts in kept_at (is_first rs) (length rs) p r.within r.new)

-- Over 128 sampled types: row129 is the first row with 128 first rows before it.
pub too_many : (rs : List Row) → has_too_many rs ≡ true → Nth rs 128 (row129 rs)
too_many rs e = firsts-nth rs 128 (ltb-true _ _ e)

pub too_many-at : (rs : List Row) (p : ℕ) → Nth rs 128 p → (has_too_many rs ≡ true) × (row129 rs ≡ p)
too_many-at rs p r = let s = nth-firsts rs 128 p r in (lt-ltb _ _ s.0, s.1)

pub length-sampled : (rs : List Row) → length (sampled rs) ≡ length (firsts rs)
unfolding sampled
length-sampled rs = length-map (firsts rs) (sampled_at rs)

pub few-sampled : (rs : List Row) → has_too_many rs ≡ false → length (sampled rs) ≤ 128
few-sampled rs e = rw length-sampled (ltb-false 128 (length (firsts rs)) e)

get_d_map : {A B : Type 0} (f : A → B) (xs : List A) (k : ℕ) (d : A) (b : B) → k < length xs → get_or (map f xs) k b ≡ f (get_or xs k d)
get_d_map f [] k d b h = absurd (not-suc-le-zero h)
get_d_map f (x ∷ xs) zero d b h = refl
get_d_map f (x ∷ xs) (suc k) d b h = get_d_map f xs k d b (omega arith)

-- Sampled types are numbered by first row.
pub sampled-node : (rs : List Row) (k : ℕ) → k < length (sampled rs) → node_at (sampled rs) k ≡ sampled_at rs (get_or (firsts rs) k 0)
unfolding sampled
sampled-node rs k h = get_d_map (sampled_at rs) (firsts rs) k 0 _ (rw length-map at h)

-- A sampled type has the row of its number, and is not inferred.
pub in_sampled : (rs : List Row) (t : Node) → In t (sampled rs) → (k : ℕ) × (k < length rs) × (t ≡ sampled_at rs k)
unfolding sampled
in_sampled rs t h = let (k, i, e) = (in_map t (sampled_at rs) (firsts rs)).0 h in (k, ((in_firsts rs k).0 i).0, e)

pub sampled-sampled : (rs : List Row) (t : Node) → In t (sampled rs) → inferred t.origin ≡ false
unfolding sampled_at
sampled-sampled rs t h = ap (λ (u : Node). inferred u.origin) (in_sampled rs t h).2

-- The first row of row i's type.
module _ (rs : List Row) (i : ℕ) (h : i < length rs) where
  abbrev same : ℕ → Bool
  same j = is_same_row (row_at rs j) (row_at rs i)

  abbrev pub lead : ℕ
  lead = first (length rs) same

  pub lead_le : lead ≤ i
  lead_le = elim (dec_lt i lead) [
    | yes l ↦ absurd (false≢true (sym (first-before (length rs) same i l) ∙ (same_row (row_at rs i) (row_at rs i)).1 refl))
    | no f ↦ omega arith
  ]

  pub lead-same : row_at rs lead ≡ row_at rs i
  lead-same = (same_row _ _).0 (first-hits (length rs) same (omega (arith, lead_le)))

  pub lead-first : is_first rs lead ≡ true
  lead-first = (is-first rs lead).1
      (λ j l e. false≢true (sym (first-before (length rs) same j l) ∙ (same_row _ _).1 (e ∙ lead-same)))

  -- Row i is counted by one sampled type.
  counted-once : count (length (firsts rs)) (λ k. is_same_row (row_at rs i) (row_at rs (get_or (firsts rs) k 0))) ≡ 1
  counted-once =
      let c = length (firsts (take lead rs)) in
      let s = nth-firsts rs c lead (record { within = omega (arith, lead_le); new = lead-first; before = refl }) in
      count-one (length (firsts rs)) _ c s.0 ((same_row _ _).1 (sym lead-same ∙ ap (row_at rs) (sym s.1)))
      (λ k l e. let r = firsts-nth rs k l in
      let p = first-same rs _ lead r.new lead-first (sym ((same_row _ _).0 e) ∙ sym lead-same) in
      sym r.before ∙ ap (λ p. length (firsts (take p rs))) p)

sum_ones : (n : ℕ) → sum n (λ i. 1) ≡ n
unfolding sum
sum_ones zero = refl
sum_ones (suc n) = omega (arith, sum_ones n)

-- The row counts of the sampled types sum to the rows: each row is counted once.
pub row_counts : (rs : List Row) → sum (length (sampled rs)) (λ k. row_count (node_at (sampled rs) k).origin) ≡ length rs
unfolding sampled_at
row_counts rs =
    let m = length (firsts rs) in
    let n = length rs in
    rw length-sampled
    (sum_ext m _ (λ k. count n (λ i. is_same_row (row_at rs i) (row_at rs (get_or (firsts rs) k 0))))
    (λ k h. ap (λ t. row_count t.origin) (sampled-node rs k (rw length-sampled h)))
    ∙ sum_swap m n (λ k i. cond (is_same_row (row_at rs i) (row_at rs (get_or (firsts rs) k 0))) 1 0)
    ∙ sum_ext n _ (λ i. 1) (counted-once rs)
    ∙ sum_ones n)
