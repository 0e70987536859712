-- Laws of Round.antt: the offers of a run, their least cost, and the rows that a round adds.
use mathlib.Core.Path.{◌≡◌, refl, sym, ap, ap₂, ◌∙◌}
use mathlib.Core.Logic.{◌↔◌, ◌⊎◌, inl, inr, ⊎_elim, ⊎_map, ◌≢◌}
use mathlib.Core.Bool.{Bool, true, false, cond, not}
use mathlib.Core.List.{List, [], ◌∷◌}
use Prim.Native.Nat.{ℕ, zero, suc, ◌+◌, ◌≤◌, ◌<◌, min, Ordering}
use native.Mathlib.Omega.{arith}
use native.Mathlib.Decide.{dec_le}
use lib.Dec.{leb, eqb}
use lib.ListN.{length, get_or}
use borrow.Author.Tests.{leb-true, le-leb, not-true}
use Rattle.graph.specs.Below.{gather, given, only}
use Rattle.graph.proofs.Below.{In, in_gather, in_given, in_only, length-table, get_or-table, in_kept}
use Rattle.rules.specs.Job.{Row}
use Rattle.rules.specs.Types.{row_at, rows_of, is_same_row, among}
use Rattle.rules.specs.Purge.{Run, links_of}
use Rattle.rules.specs.Median.{triplet, common, median, medians, connection}
use Rattle.rules.specs.Round.{Offer, made, offers_of, offers, least_from, least_cost, offer_at, cost_of, compare_rows, insert, ascending, added}
use Rattle.rules.proofs.Ascending.{Ascending, ascending-at}
use Rattle.rules.proofs.Rows.{same_row, mirrored, compare_rows_eq, compare_rows_trans, compare_rows-mirrored, compare_rows_irrefl}

least-from : (x : ℕ) (os : List Offer) → least_from x os ≤ x
unfolding least_from
least-from x [] = omega arith
least-from x (o ∷ os) = omega (arith, least-from (min x o.cost) os)

least_in : (x : ℕ) (os : List Offer) (o : Offer) → In o os → least_from x os ≤ o.cost
unfolding least_from
least_in x [] o x3 = elim x3 [ ]
least_in x (p ∷ os) o (inl e) = rw e (omega (arith, least-from (min x p.cost) os))
least_in x (p ∷ os) o (inr h) = least_in (min x p.cost) os o h

least-is : (p : Offer) (os : List Offer) → (o : Offer) × In o (p ∷ os) × (o.cost ≡ least_from p.cost os)
unfolding least_from
least-is p [] = (p, inl refl, refl)
least-is p (q ∷ os) = elim (dec_le p.cost q.cost) [
  | yes l ↦
      let e : min p.cost q.cost ≡ p.cost = omega arith in
      let (o, h, c) = least-is p os in (o, ⊎_elim inl (λ g. inr (inr g)) h, rw e c)
  | no f ↦ let e : min p.cost q.cost ≡ q.cost = omega arith in let (o, h, c) = least-is q os in (o, inr h, rw e c)
]

-- No offer's cost is below the least, and some offer's is it.
pub least-cost_le : (os : List Offer) (o : Offer) → In o os → least_cost os ≤ o.cost
least-cost_le [] o x' = elim x' [ ]
least-cost_le (p ∷ os) o (inl e) = rw e (least-from p.cost os)
least-cost_le (p ∷ os) o (inr h) = least_in p.cost os o h

pub least-cost-met : (os : List Offer) → os ≢ [] → (o : Offer) × In o os × (o.cost ≡ least_cost os)
least-cost-met [] ne = absurd (ne refl)
least-cost-met (p ∷ os) ne = least-is p os

pub least-cost-within : (os : List Offer) → os ≢ [] → (x : ℕ) → (least_cost os ≤ x) ↔ ((o : Offer) × In o os × (o.cost ≤ x))
least-cost-within os ne x = (
  λ l. let (o, h, c) = least-cost-met os ne in (o, h, omega arith),
  λ s. omega (arith, least-cost_le os s.0 s.1, s.2),
)

-- The offers of one row.
abbrev pub offers_for : List Offer → Row → List Offer
offers_for os x = gather (length os) (λ k. only (is_same_row (offer_at os k).row x) (offer_at os k))

pub in_offers_for : (os : List Offer) (x : Row) (o : Offer) → In o (offers_for os x) ↔ (In o os × (o.row ≡ x))
in_offers_for os x o =
    let s = in_kept (λ (p : Offer). is_same_row p.row x) (λ p. p) os _ o in (
      λ h. let (p, i, t, e) = s.0 h in (rw e i, rw e ((same_row p.row x).0 t)),
      λ r. s.1 (o, r.0, rw r.1 ((same_row x x).1 refl), refl),
    )

-- A row's cost is at most that of each offer of it.
pub cost_of_le : (os : List Offer) (o : Offer) → In o os → cost_of os o.row ≤ o.cost
cost_of_le os o h = least-cost_le (offers_for os o.row) o ((in_offers_for os o.row o).1 (h, refl))

-- Sorting keeps the rows.
in_insert : (x r : Row) (xs : List Row) → In x (insert r xs) ↔ (x ≡ r) ⊎ In x xs
unfolding insert
in_insert x r [] = (λ h. h, λ h. h)
in_insert x r (y ∷ ys) = go (compare_rows r y) refl (in_insert x r ys)
  where
    go : (c : Ordering) → compare_rows r y ≡ c → In x (insert r ys) ↔ (x ≡ r) ⊎ In x ys →
        In x (elim c [ Ordering.lt ↦ r ∷ y ∷ ys | Ordering.eq ↦ y ∷ ys | Ordering.gt ↦ y ∷ insert r ys ]) ↔ (x ≡ r) ⊎ (x ≡ y) ⊎ In x ys
    go Ordering.lt e s = (λ h. h, λ h. h)
    go Ordering.eq e s = (inr, ⊎_elim (λ f. inl (f ∙ compare_rows_eq r y e)) (λ h. h))
    go Ordering.gt e s = (
      ⊎_elim (λ f. inr (inl f)) (λ h. ⊎_map (λ f. f) inr (s.0 h)),
      ⊎_elim (λ f. inr (s.1 (inl f))) (⊎_map (λ f. f) (λ h. s.1 (inr h))),
    )

in_ascending : (x : Row) (xs : List Row) → In x (ascending xs) ↔ In x xs
unfolding ascending
in_ascending x [] = (λ h. h, λ h. h)
in_ascending x (y ∷ ys) =
    let s = in_insert x y (ascending ys) in
    let r = in_ascending x ys in
    (λ h. ⊎_map (λ e. e) r.0 (s.0 h), λ h. s.1 (⊎_map (λ e. e) r.1 h))

-- Rows in ascending order of their bytes.
abbrev pub RowBefore : Row → Row → Type 0
RowBefore x y = compare_rows x y ≡ Ordering.lt

abbrev pub AscendingRows : List Row → Type 0
AscendingRows = Ascending RowBefore

insert-ascends : (r : Row) (xs : List Row) → AscendingRows xs → AscendingRows (insert r xs)
unfolding insert
insert-ascends r [] a = (λ y h. absurd h, tt)
insert-ascends r (x ∷ xs) a = go (compare_rows r x) refl (insert-ascends r xs a.1)
  where
    go : (c : Ordering) → compare_rows r x ≡ c → AscendingRows (insert r xs) →
        AscendingRows (elim c [ Ordering.lt ↦ r ∷ x ∷ xs | Ordering.eq ↦ x ∷ xs | Ordering.gt ↦ x ∷ insert r xs ])
    go Ordering.lt e b = (λ y. ⊎_elim (λ f. rw f e) (λ h. compare_rows_trans r x y e (a.0 y h)), a)
    go Ordering.eq e b = a
    go Ordering.gt e b = (λ y h. ⊎_elim (λ f. rw f (compare_rows-mirrored r x ∙ ap mirrored e)) (a.0 y) ((in_insert y r xs).0 h), b)

ascending-ascends : (xs : List Row) → AscendingRows (ascending xs)
unfolding ascending
ascending-ascends [] = tt
ascending-ascends (x ∷ xs) = insert-ascends x (ascending xs) (ascending-ascends xs)

pub added-ascends : (e : ℕ) (os : List Offer) → AscendingRows (added e os)
unfolding added
added-ascends e os = ascending-ascends _

-- They are all different.
pub ascending-differ : (xs : List Row) → AscendingRows xs → (i j : ℕ) → i < j → j < length xs → row_at xs i ≢ row_at xs j
ascending-differ xs a i j h l = compare_rows_irrefl _ _ (ascending-at RowBefore xs [] a i j h l)

-- Ascending rows with the same members are the same list.
pub ascending-same : (xs ys : List Row) → AscendingRows xs → AscendingRows ys → ((x : Row) → In x xs ↔ In x ys) → xs ≡ ys
ascending-same [] [] a b s = refl
ascending-same [] (y ∷ ys) a b s = absurd ((s y).1 (inl refl))
ascending-same (x ∷ xs) [] a b s = absurd ((s x).0 (inl refl))
ascending-same (x ∷ xs) (y ∷ ys) a b s = ap₂ ◌∷◌ head (ascending-same xs ys a.1 b.1 (λ z. (
  λ h. ⊎_elim (λ e. absurd (compare_rows_irrefl x z (a.0 z h) (head ∙ sym e))) (λ g. g) ((s z).0 (inr h)),
  λ h. ⊎_elim (λ e. absurd (compare_rows_irrefl y z (b.0 z h) (sym (e ∙ head)))) (λ g. g) ((s z).1 (inr h)),
)))
  where
    head : x ≡ y
    head = ⊎_elim (λ e. e) (λ h. ⊎_elim sym (λ g. absurd (compare_rows_irrefl x x (compare_rows_trans x y x (a.0 y g) (b.0 x h)) refl)) ((s y).1 (inl refl)))
        ((s x).0 (inl refl))

-- The rows added are those of the offers whose cost is at most the least cost and e.
pub in_added : (e : ℕ) (os : List Offer) (x : Row) → In x (added e os) ↔ ((o : Offer) × In o os × (o.row ≡ x) × (cost_of os x ≤ least_cost os + e))
unfolding added
in_added e os x =
    let a = in_ascending x _ in
    let s = in_kept (λ (o : Offer). leb (cost_of os o.row) (least_cost os + e)) (λ o. o.row) os _ x in (
      λ h. let (o, i, t, f) = s.0 (a.0 h) in (o, i, sym f, rw f (leb-true _ _ t)),
      λ r. a.1 (s.1 (r.0, r.1, rw r.2 (le-leb _ _ r.3), sym r.2)),
    )

pub added_offered : (e : ℕ) (os : List Offer) (x : Row) → In x (added e os) → (o : Offer) × In o os × (o.row ≡ x)
added_offered e os x h = let (o, i, f, c) = (in_added e os x).0 h in (o, i, f)

pub added_none : (e : ℕ) → added e [] ≡ []
unfolding added gather ascending
added_none e = refl

-- A round with a candidate adds a type: the offer of least cost is within lambda + e.
pub added-some : (e : ℕ) (os : List Offer) → os ≢ [] → added e os ≢ []
added-some e os ne none =
    let (o, h, c) = least-cost-met os ne in
    rw none at ((in_added e os o.row).1 (o, h, refl, omega (arith, cost_of_le os o h)))

-- An offer of a triplet of rows: a median vector of theirs that is not among the rows known.
pub record Medial (ws : List ℕ) (known : List Row) (u v w : Row) (o : Offer) : Type 0 where
  pub number : ℕ
  pub below : number < 3
  pub row_is : o.row ≡ row_at (medians u v w) number
  pub cost_is : o.cost ≡ connection ws o.row u v w
  pub unknown : among known o.row ≡ false

pub in_offers_of : (ws : List ℕ) (known : List Row) (u v w : Row) (o : Offer) → In o (offers_of ws known u v w) ↔ Medial ws known u v w o
unfolding offers_of
in_offers_of ws known u v w o =
    let g = in_gather o 3 _ in (
      λ h.
          let (k, l, i) = g.0 h in
          let (t, e) = (in_only o _ _).0 i in
          let row_is : o.row ≡ row_at (medians u v w) k = ap (λ (p : Offer). p.row) e in
          record {
            number = k;
            below = l;
            row_is = row_is;
            cost_is = ap (λ (p : Offer). p.cost) e ∙ ap cost (sym row_is);
            unknown = ap (among known) row_is ∙ not-true _ t;
          },
      λ r. g.1 (
        r.number,
        r.below,
        (in_only o _ _).1 (ap not (sym (ap (among known) r.row_is) ∙ r.unknown), λ i. record { row = r.row_is i; cost = ◌∙◌ r.cost_is (ap cost r.row_is) i }),
      ),
    )
  where
    cost : Row → ℕ
    cost x = connection ws x u v w

-- Three numbers, one inside the other.
in_gathers : {A : Type 0} (x : A) (n : ℕ) (f : ℕ → ℕ → ℕ → List A) →
    In x (gather n (λ u. gather n (λ v. gather n (f u v)))) ↔ ((u : ℕ) × (v : ℕ) × (w : ℕ) × (u < n) × (v < n) × (w < n) × In x (f u v w))
in_gathers x n f = (
  λ h.
      let (u, a, i) = (in_gather x n (λ u. gather n (λ v. gather n (f u v)))).0 h in
      let (v, b, j) = (in_gather x n (λ v. gather n (f u v))).0 i in
      let (w, c, k) = (in_gather x n (f u v)).0 j in
      (u, v, w, a, b, c, k),
  λ s.
      let (u, v, w, a, b, c, k) = s in
      (in_gather x n _).1 (u, a, (in_gather x n _).1 (v, b, (in_gather x n (f u v)).1 (w, c, k))),
)

-- An offer of a run: the triplet of current types that gives it, by their numbers.
pub record Offered (ws : List ℕ) (e : ℕ) (run : Run) (o : Offer) : Type 0 where
  pub u : ℕ
  pub v : ℕ
  pub w : ℕ
  pub u-current : u < length (rows_of run.current)
  pub v-current : v < length (rows_of run.current)
  pub w-current : w < length (rows_of run.current)
  pub is_triplet : triplet (links_of ws e run) u v w ≡ true
  pub median : Medial ws (made run) (row_at (rows_of run.current) u) (row_at (rows_of run.current) v) (row_at (rows_of run.current) w) o

pub in_offers : (ws : List ℕ) (e : ℕ) (run : Run) (o : Offer) → In o (offers ws e run) ↔ Offered ws e run o
unfolding offers
in_offers ws e run o =
    let rs = rows_of run.current in
    let at : ℕ → ℕ → ℕ → List Offer = λ u v w. offers_of ws (made run) (row_at rs u) (row_at rs v) (row_at rs w) in
    let g = in_gathers o (length rs) (λ u v w. given (triplet (links_of ws e run) u v w) (at u v w)) in (
      λ h.
          let (u, v, w, a, b, c, i) = g.0 h in
          let (t, j) = (in_given o (triplet (links_of ws e run) u v w) (at u v w)).0 i in
          record {
            u = u;
            v = v;
            w = w;
            u-current = a;
            v-current = b;
            w-current = c;
            is_triplet = t;
            median = (in_offers_of ws (made run) (row_at rs u) (row_at rs v) (row_at rs w) o).0 j;
          },
      λ r. g.1 (
        r.u,
        r.v,
        r.w,
        r.u-current,
        r.v-current,
        r.w-current,
        (in_given o _ (at r.u r.v r.w)).1 (r.is_triplet, (in_offers_of ws (made run) _ _ _ o).1 r.median),
      ),
    )

-- An offered row is neither current nor retired.
pub offer_unmade : (ws : List ℕ) (e : ℕ) (run : Run) (o : Offer) → In o (offers ws e run) → among (made run) o.row ≡ false
offer_unmade ws e run o h = ((in_offers ws e run o).0 h).median.unknown

-- A state of a median vector is one that the rows have there.
median-one : (P : ℕ → Type 0) (c : ℕ) (x u v w : Row) → c < length x → P (get_or x c 0) → P (get_or u c 0) → P (get_or v c 0) → P (get_or (median x u v w) c 0)
unfolding median
median-one P c x u v w h p q r =
    rw (get_or-table (length x) (λ c. common (get_or x c 0) (get_or u c 0) (get_or v c 0) (get_or w c 0)) c 0 h)
    (go (eqb (get_or u c 0) (get_or v c 0)) (eqb (get_or u c 0) (get_or w c 0)) (eqb (get_or v c 0) (get_or w c 0)))
  where
    go : (uv uw vw : Bool) → P (cond uv (get_or u c 0) (cond uw (get_or u c 0) (cond vw (get_or v c 0) (get_or x c 0))))
    go true uw vw = q
    go false true vw = q
    go false false true = r
    go false false false = p

-- An offered row is a median vector of current rows, given by their numbers: what all of those have, it has.
offer_median : (R : Row → Type 0) (ws : List ℕ) (e : ℕ) (run : Run) → let rs = rows_of run.current in
    ((x u v w : ℕ) → x < length rs → u < length rs → v < length rs → w < length rs → R (median (row_at rs x) (row_at rs u) (row_at rs v) (row_at rs w))) →
    (o : Offer) → In o (offers ws e run) → R o.row
offer_median R ws e run each o h =
    let r = (in_offers ws e run o).0 h in
    let at : (x : ℕ) → x < length (rows_of run.current) → _ = λ x a. each x r.u r.v r.w a r.u-current r.v-current r.w-current in
    rw r.median.row_is
    (which _ _ _ (at r.u r.u-current) (at r.v r.v-current) (at r.w r.w-current) r.median.number r.median.below)
  where
    which : (u v w : Row) → R (median u u v w) → R (median v u v w) → R (median w u v w) → (k : ℕ) → k < 3 → R (row_at (medians u v w) k)
    which u v w a b c zero h = a
    which u v w a b c (suc zero) h = b
    which u v w a b c (suc (suc zero)) h = c
    which u v w a b c (suc (suc (suc k))) h = absurd (omega arith)

-- Offered rows have the width of the current ones, and in each character only states that current rows have there.
module _ (ws : List ℕ) (e : ℕ) (run : Run) (m : ℕ)
    (each : (i : ℕ) → i < length (rows_of run.current) → length (row_at (rows_of run.current) i) ≡ m) where
  pub offer_width : (o : Offer) → In o (offers ws e run) → length o.row ≡ m
  unfolding median
  offer_width = offer_median (λ r. length r ≡ m) ws e run (λ x u v w a b c d. length-table _ _ ∙ each x a)

  pub offer_states : (P : ℕ → Type 0) (c : ℕ) → c < m → ((i : ℕ) → i < length (rows_of run.current) → P (get_or (row_at (rows_of run.current) i) c 0)) →
      (o : Offer) → In o (offers ws e run) → P (get_or o.row c 0)
  offer_states P c l has = offer_median (λ r. P (get_or r c 0)) ws e run
      (λ x u v w a b f g. median-one P c _ _ _ _ (rw (each x a) l) (has x a) (has u b) (has v f))
