-- The sampled types of the first rows: which rows they have and count, what one row more makes of them, and which row is the 129th type.
use mathlib.Core.Path.{◌≡◌, refl, sym, ap, ap₂, ◌∙◌}
use mathlib.Core.Logic.{◌↔◌, ◌≢◌}
use mathlib.Core.Bool.{Bool, true, false, cond}
use mathlib.Core.List.{List, [], ◌∷◌, ◌++◌, map, map-append, append-nil}
use Prim.Native.Nat.{ℕ, zero, suc, ◌+◌, ◌≤◌, ◌<◌}
use native.Mathlib.Nat.{add-zero}
use native.Mathlib.Omega.{arith}
use native.Mathlib.Decide.{dec_lt}
use lib.ListN.{length, get_or, take, set, length-take, get_or-map, get_or-eq_default}
use lib.Seq.{take-length, length-take-le, get_or-take}
use borrow.Author.Tests.{le-ltb}
use Rattle.graph.specs.Below.{gather, only, count}
use Rattle.graph.proofs.Below.{in_place, is_false, gather-more, gather_ext, sum_more, count_le, count_ext, count_zero}
use Rattle.rules.specs.Job.{Row}
use Rattle.rules.specs.Types.{Node, row_count, row_at, node_at, rows_of, is_same_row, is_first, firsts, sampled_at, sampled, has_too_many, row129}
use Rattle.rules.specs.declared.Origin.TheVariants.{Sampled}
use Rattle.rules.proofs.Rows.{same_row}
use Rattle.rules.proofs.Types.{is-first, first-same, first-take, lead, lead_le, lead-same, lead-first, in_firsts, firsts-nth, too_many-at, length-sampled, sampled-node}
use Rattle.types.specs.State.{more}

-- Two functions agree at each place of a list, or at each but one.
module _ {A B : Type 0} (f g : A → B) where
  map_ext : (xs : List A) (d : A) → ((j : ℕ) → j < length (map g xs) → f (get_or xs j d) ≡ g (get_or xs j d)) → map f xs ≡ map g xs
  map_ext [] d e = refl
  map_ext (x ∷ xs) d e = ap₂ ◌∷◌ (e 0 (omega arith)) (map_ext xs d (λ j l. e (suc j) (omega arith)))

  map-set : (xs : List A) (d : A) (i : ℕ) → ((j : ℕ) → j < length (map g xs) → j ≢ i → f (get_or xs j d) ≡ g (get_or xs j d)) →
      map f xs ≡ set (map g xs) i (f (get_or xs i d))
  map-set [] d i e = refl
  map-set (x ∷ xs) d zero e = ap (λ ys. f x ∷ ys) (map_ext xs d (λ j l. e (suc j) (omega arith) (omega arith)))
  map-set (x ∷ xs) d (suc i) e =
      ap₂ ◌∷◌ (e 0 (omega arith) (omega arith)) (map-set xs d i (λ j l ne. e (suc j) (omega arith) (omega arith)))

module _ (rs : List Row) where
  -- A type has the row of its first row.
  type_row : (i : ℕ) → i < length (sampled rs) → row_at (rows_of (sampled rs)) i ≡ row_at rs (get_or (firsts rs) i 0)
  unfolding sampled_at
  type_row i h = get_or-map (λ (t : Node). t.row) (sampled rs) i _ ∙ ap (λ (t : Node). t.row) (sampled-node rs i h)

  -- Each row is the row of a type.
  pub type_of_row : (k : ℕ) → k < length rs → (i : ℕ) × (i < length (sampled rs)) × (row_at (rows_of (sampled rs)) i ≡ row_at rs k)
  type_of_row k h =
      let l : lead rs k h < length rs = omega (arith, lead_le rs k h) in
      let (i, b, at) = in_place (lead rs k h) (firsts rs) ((in_firsts rs (lead rs k h)).1 (l, lead-first rs k h)) in
      let b' : i < length (sampled rs) = rw length-sampled b in
      (i, b', type_row i b' ∙ ap (row_at rs) (at 0) ∙ lead-same rs k h)

  -- No two types have one row.
  pub type-once : (i j : ℕ) → i < length (sampled rs) → j < length (sampled rs) →
      row_at (rows_of (sampled rs)) i ≡ row_at (rows_of (sampled rs)) j → i ≡ j
  type-once i j h l e =
      let a = firsts-nth rs i (rw length-sampled at h) in
      let b = firsts-nth rs j (rw length-sampled at l) in
      let one = first-same rs _ _ a.new b.new (sym (type_row i h) ∙ e ∙ type_row j l) in
      sym a.before ∙ ap (λ k. length (firsts (take k rs))) one ∙ b.before

  -- A type counts no more rows than there are.
  pub count-rows : (i : ℕ) → row_count (node_at (sampled rs) i).origin ≤ length rs
  unfolding sampled_at
  count-rows i = elim (dec_lt i (length (sampled rs))) [
    | yes h ↦ rw (sampled-node rs i h) (count_le (length rs) (λ j. is_same_row (row_at rs j) (row_at rs (get_or (firsts rs) i 0))))
    | no f ↦ rw (get_or-eq_default (sampled rs) _ {n = i} (omega arith)) (omega arith)
  ]

  -- 128 types are not too many.
  pub few_types : length (sampled rs) ≤ 128 → has_too_many rs ≡ false
  few_types h = le-ltb 128 (length (firsts rs)) (rw length-sampled at h)

-- The types of the first p rows. Row p is new if none of them has it.
abbrev pub known : List Row → ℕ → List Node
known rs p = sampled (take p rs)

abbrev pub New : List Row → ℕ → Type 0
New rs p = (i : ℕ) → i < length (known rs p) → row_at (rows_of (known rs p)) i ≢ row_at rs p

-- No rows have no types, and all rows have all.
pub known-none : (rs : List Row) → known rs 0 ≡ []
unfolding sampled firsts gather
known-none rs = refl

pub known-all : (rs : List Row) → known rs (length rs) ≡ sampled rs
known-all rs = ap sampled (take-length rs)

-- The first p rows are at most p of each type.
pub known-count : (rs : List Row) (p i : ℕ) → row_count (node_at (known rs p) i).origin ≤ p
known-count rs p i = omega (arith, count-rows (take p rs) i, length-take p rs)

-- The first rows of types among the first q rows.
firsts_of : (rs : List Row) (q : ℕ) → q ≤ length rs → firsts (take q rs) ≡ gather q (λ k. only (is_first rs k) k)
unfolding firsts
firsts_of rs q h = rw (length-take-le q rs h) (gather_ext q _ _ (λ k l. rw (first-take rs q k l)))

-- The rows that equal row k; and row k as the first row of a type with c rows, as the first q rows have it.
abbrev equals : List Row → ℕ → ℕ → Bool
equals rs k i = is_same_row (row_at rs i) (row_at rs k)

abbrev node : List Row → ℕ → ℕ → Node
node rs k c = record { row = row_at rs k; origin = Sampled c k }

node_of : (rs : List Row) (q k : ℕ) → q ≤ length rs → k < q → sampled_at (take q rs) k ≡ node rs k (count q (equals rs k))
unfolding sampled_at
node_of rs q k h l =
    rw (length-take-le q rs h, get_or-take q rs k [] l)
    (ap (node rs k) (count_ext q _ _ (λ i b. ap (λ r. is_same_row r (row_at rs k)) (get_or-take q rs i [] b))))

-- One row more: row p.
module _ (rs : List Row) (p : ℕ) (h : p < length rs) where
  -- The first row of type i: it is before row p, and the type has it.
  abbrev first_of : ℕ → ℕ
  first_of i = get_or (firsts (take p rs)) i 0

  p_rows : length (take p rs) ≡ p
  p_rows = length-take-le p rs (omega arith)

  first-before_p : (i : ℕ) → i < length (known rs p) → first_of i < p
  first-before_p i l = rw p_rows at (firsts-nth (take p rs) i (rw length-sampled at l)).within

  first-row_of : (i : ℕ) → i < length (known rs p) → row_at (rows_of (known rs p)) i ≡ row_at rs (first_of i)
  first-row_of i l = type_row (take p rs) i l ∙ get_or-take p rs (first_of i) [] (first-before_p i l)

  -- A new row is the first of its type.
  pub new-first : New rs p ↔ (is_first rs p ≡ true)
  new-first = (
    λ n. (is-first rs p).1 (λ k l e. let (i, b, s) = type_of_row (take p rs) k (rw p_rows l) in n i b (s ∙ get_or-take p rs k [] l ∙ e)),
    λ e i l s. (is-first rs p).0 e (first_of i) (first-before_p i l) (sym (first-row_of i l) ∙ s),
  )

  -- With 128 types before it, it is the 129th.
  pub new_129th : New rs p → length (known rs p) ≡ 128 → (has_too_many rs ≡ true) × (row129 rs ≡ p)
  new_129th n e = too_many-at rs p (record { within = h; new = new-first.0 n; before = sym (length-sampled (take p rs)) ∙ e })

  -- Row p is one first row more, or none.
  firsts_more : firsts (take (p + 1) rs) ≡ firsts (take p rs) ++ only (is_first rs p) p
  firsts_more =
      firsts_of rs (p + 1) (omega arith) ∙ gather-more p _
      ∙ ap (λ ks. ks ++ only (is_first rs p) p) (sym (firsts_of rs p (omega arith)))

  -- Row p is counted where it equals the first row: by its own type alone if it is new, by a type that has it, and by no other.
  node-more : (k : ℕ) → k ≤ p → sampled_at (take (p + 1) rs) k ≡ node rs k (count p (equals rs k) + cond (equals rs k p) 1 0)
  node-more k l = node_of rs (p + 1) k (omega arith) (omega arith) ∙ ap (node rs k) (sum_more p _)

  node-new : is_first rs p ≡ true → sampled_at (take (p + 1) rs) p ≡ node rs p 1
  node-new f =
      let none = count_zero p (equals rs p) (λ i l. is_false (equals rs p i) (λ t. (is-first rs p).0 f i l ((same_row _ _).0 t))) in
      node-more p (omega arith) ∙ rw (none, (same_row (row_at rs p) (row_at rs p)).1 refl)

  node-other : (i : ℕ) → i < length (known rs p) → row_at (rows_of (known rs p)) i ≢ row_at rs p →
      sampled_at (take (p + 1) rs) (first_of i) ≡ sampled_at (take p rs) (first_of i)
  node-other i l ne =
      let b = first-before_p i l in
      let no_more = is_false (equals rs (first_of i) p) (λ t. ne (first-row_of i l ∙ sym ((same_row _ _).0 t))) in
      node-more (first_of i) (omega arith) ∙ rw (node_of rs p (first_of i) (omega arith) b, no_more, add-zero)

  node-same : (i : ℕ) → i < length (known rs p) → row_at (rows_of (known rs p)) i ≡ row_at rs p →
      sampled_at (take (p + 1) rs) (first_of i) ≡ record { row = row_at rs p; origin = more (node_at (known rs p) i).origin }
  node-same i l e =
      let b = first-before_p i l in
      let same = sym (first-row_of i l) ∙ e in
      let one_more = (same_row (row_at rs p) (row_at rs (first_of i))).1 (sym same) in
      node-more (first_of i) (omega arith) ∙ rw (sampled-node (take p rs) i l, node_of rs p (first_of i) (omega arith) b, one_more, same)

  -- A new row is one type more.
  pub new_row : New rs p → known rs (p + 1) ≡ known rs p ++ (record { row = row_at rs p; origin = Sampled 1 p } ∷ [])
  unfolding sampled
  new_row n =
      let ks = firsts (take p rs) in
      let f = new-first.0 n in
      rw (firsts_more, f)
      (map-append _ ks (p ∷ []) ∙ ap₂ (λ ts t. ts ++ (t ∷ [])) (map_ext _ _ ks 0 (λ i l. node-other i l (n i l))) (node-new f))

  -- A row that a type has is counted there, and the other types stay.
  pub known-row : (i : ℕ) → i < length (known rs p) → row_at (rows_of (known rs p)) i ≡ row_at rs p →
      known rs (p + 1) ≡ set (known rs p) i (record { row = row_at rs p; origin = more (node_at (known rs p) i).origin })
  unfolding sampled
  known-row i l e =
      rw (firsts_more, is_false (is_first rs p) (λ f. new-first.1 f i l e), append-nil)
      (map-set _ _ (firsts (take p rs)) 0 i (λ j b ne. node-other j b (λ q. ne (type-once (take p rs) j i b l (q ∙ sym e))))
      ∙ ap (set (known rs p) i) (node-same i l e))
