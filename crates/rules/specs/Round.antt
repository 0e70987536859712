-- RULES 11: a round, up to the rows that it adds. Run.antt adds them.
use Rattle.std.specs.Prelude.{not, List, [], ◌∷◌, ◌++◌, leb, length, get_or}
use Prim.Native.Nat.{ℕ, ◌+◌, min, Ordering, compare}
use Rattle.graph.specs.Below.{gather, given, only}
use Rattle.rules.specs.Job.{Row}
use Rattle.rules.specs.Types.{row_at, rows_of, is_same_row, among}
use Rattle.rules.specs.Purge.{Run, links_of}
use Rattle.rules.specs.Median.{triplet, medians, connection}

-- RULES 11.1: a candidate as one triplet gives it, and what it costs there.
pub record Offer : Type 0 where
  pub row : Row
  pub cost : ℕ

-- RULES 5.4: the rows that no round makes again.
abbrev pub made : Run → List Row
made run = rows_of run.current ++ run.retired

-- RULES 11.1: the candidates of one triplet.
unfoldable pub offers_of : List ℕ → List Row → Row → Row → Row → List Offer
offers_of ws known u v w =
    let xs = medians u v w in
    gather 3 (λ k. only (not (among known (row_at xs k))) (record { row = row_at xs k; cost = connection ws (row_at xs k) u v w }))

-- RULES 11.1: the candidates of all triplets. One that several triplets give is there several times.
unfoldable pub offers : List ℕ → ℕ → Run → List Offer
offers ws e run =
    let ls = links_of ws e run in
    let rs = rows_of run.current in
    let n = length rs in
    gather n (λ u. gather n (λ v. gather n (λ w. given (triplet ls u v w) (offers_of ws (made run) (row_at rs u) (row_at rs v) (row_at rs w)))))

-- RULES 11.2, 11.3: the least cost in a list (0 if it is empty).
unfoldable pub least_from : ℕ → List Offer → ℕ
least_from x [] = x
least_from x (o ∷ os) = least_from (min x o.cost) os

abbrev pub least_cost : List Offer → ℕ
least_cost [] = 0
least_cost (o ∷ os) = least_from o.cost os

abbrev pub offer_at : List Offer → ℕ → Offer
offer_at os k = get_or os k (record { row = []; cost = 0 })

-- RULES 11.2: the cost of a candidate, over all triplets that give it.
abbrev pub cost_of : List Offer → Row → ℕ
cost_of os x = least_cost (gather (length os) (λ k. only (is_same_row (offer_at os k).row x) (offer_at os k)))

-- RULES 11.4: which of two rows comes first.
unfoldable pub compare_rows : Row → Row → Ordering
compare_rows [] [] = Ordering.eq
compare_rows [] (y ∷ ys) = Ordering.lt
compare_rows (x ∷ xs) [] = Ordering.gt
compare_rows (x ∷ xs) (y ∷ ys) = elim (compare x y) [ Ordering.lt ↦ Ordering.lt | Ordering.eq ↦ compare_rows xs ys | Ordering.gt ↦ Ordering.gt ]

-- RULES 11.4: rows sorted. A row that is there already is not put in again.
unfoldable pub insert : Row → List Row → List Row
insert r [] = r ∷ []
insert r (x ∷ xs) = elim (compare_rows r x) [ Ordering.lt ↦ r ∷ x ∷ xs | Ordering.eq ↦ x ∷ xs | Ordering.gt ↦ x ∷ insert r xs ]

unfoldable pub ascending : List Row → List Row
ascending [] = []
ascending (r ∷ rs) = insert r (ascending rs)

-- RULES 11.3, 11.4: the rows that the round adds.
unfoldable pub added : ℕ → List Offer → List Row
added e os =
    let lambda = least_cost os in
    ascending (gather (length os) (λ k. only (leb (cost_of os (offer_at os k).row) (lambda + e)) (offer_at os k).row))
