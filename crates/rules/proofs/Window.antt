-- The rows that a round adds, as a search over the offers meets them: each by one offer whose cost is within e of the least. And two
-- laws of ascending rows: how many they can be, and that zeros behind them leave their order.
use mathlib.Core.Path.{◌≡◌, refl, sym, ap, ◌∙◌}
use mathlib.Core.Logic.{◌↔◌, inl, inr, ⊎_elim, ◌≢◌}
use mathlib.Core.List.{List, [], ◌∷◌, ◌++◌, map}
use Prim.Native.Nat.{ℕ, ◌+◌, ◌-◌, ◌≤◌, Ordering, compare}
use native.Mathlib.Omega.{arith}
use lib.ListN.{length, replicate}
use Rattle.graph.proofs.Below.{In, in_map}
use Rattle.rules.specs.Job.{Row}
use Rattle.rules.specs.Round.{Offer, least_cost, compare_rows, added}
use Rattle.rules.specs.Call.{padded}
use Rattle.rules.proofs.Rows.{compare_rows_refl, compare_rows_trans, compare_rows_irrefl}
use Rattle.rules.proofs.Rounds.{least-cost_le, least-cost-met, least-cost-within, offers_for, in_offers_for, cost_of_le, AscendingRows, in_added}

-- Ascending rows all of which are among others are no more than those.
pub ascending-few : (xs ys : List Row) → AscendingRows xs → AscendingRows ys → ((x : Row) → In x xs → In x ys) → length xs ≤ length ys
ascending-few [] ys a b s = omega arith
ascending-few (x ∷ xs) [] a b s = absurd (s x (inl refl))
ascending-few (x ∷ xs) (y ∷ ys) a b s = omega (arith, ascending-few xs ys a.1 b.1 rest)
  where
    -- y is not above x, and so no later row is y.
    rest : (z : Row) → In z xs → In z ys
    rest z h = ⊎_elim (λ e. absurd (⊎_elim
        (λ f. compare_rows_irrefl x z (a.0 z h) (f ∙ sym e))
        (λ g. compare_rows_irrefl z z (compare_rows_trans z x z (rw e (b.0 x g)) (a.0 z h)) refl)
        (s x (inl refl)))) (λ g. g) (s z (inr h))

module _ (e : ℕ) (os : List Offer) where
  -- A row is added where some offer of it costs at most the least cost and e.
  pub in_added-by : (x : Row) → In x (added e os) ↔ ((o : Offer) × In o os × (o.row ≡ x) × (o.cost ≤ least_cost os + e))
  in_added-by x = (
    λ h.
        let (o, i, f, c) = (in_added e os x).0 h in
        let some : offers_for os x ≢ [] = λ none. rw none at ((in_offers_for os x o).1 (i, f)) in
        let (p, j, d) = (least-cost-within (offers_for os x) some (least_cost os + e)).0 c in
        let (k, g) = (in_offers_for os x p).0 j in
        (p, k, g, d),
    λ r. let (o, i, f, c) = r in (in_added e os x).1 (o, i, f, rw (← f) (omega (arith, cost_of_le os o i))),
  )

  -- That is: at most what any other offer costs, and e.
  pub in_window : os ≢ [] → (x : Row) →
      In x (added e os) ↔ ((o : Offer) × In o os × (o.row ≡ x) × ((p : Offer) → In p os → o.cost ≤ p.cost + e))
  in_window ne x = (
    λ h. let (o, i, f, c) = (in_added-by x).0 h in (o, i, f, λ p j. omega (arith, least-cost_le os p j)),
    λ r.
        let (o, i, f, c) = r in
        let (p, j, d) = least-cost-met os ne in
        (in_added-by x).1 (o, i, f, omega (arith, c p j)),
  )

-- Zeros behind rows of one width do not change their order.
compare_before : (u v z : Row) → length u ≡ length v → compare_rows (u ++ z) (v ++ z) ≡ compare_rows u v
unfolding compare_rows
compare_before [] [] z e = compare_rows_refl z
compare_before [] (y ∷ v) z e = absurd (omega arith)
compare_before (x ∷ u) [] z e = absurd (omega arith)
compare_before (x ∷ u) (y ∷ v) z e =
    ap (λ (o : Ordering). elim (compare x y) [ Ordering.lt ↦ Ordering.lt | Ordering.eq ↦ o | Ordering.gt ↦ Ordering.gt ]) (compare_before u v z (omega arith))

pub compare_padded : (n : ℕ) (u v : Row) → length u ≡ length v → compare_rows (padded n u) (padded n v) ≡ compare_rows u v
compare_padded n u v e = rw e (compare_before u v (replicate (n - length v) 0) e)

pub stored-ascends : (n m : ℕ) (xs : List Row) → ((x : Row) → In x xs → length x ≡ m) → AscendingRows xs → AscendingRows (map (λ r. padded n r) xs)
stored-ascends n m [] wide a = tt
stored-ascends n m (x ∷ xs) wide a = (
  λ y h. let (z, i, e) = (in_map y (λ r. padded n r) xs).0 h in
      rw e (compare_padded n x z (wide x (inl refl) ∙ sym (wide z (inr i))) ∙ a.0 z i),
  stored-ascends n m xs (λ y h. wide y (inr h)) a.1,
)
