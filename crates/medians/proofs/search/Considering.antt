-- One median vector of a triplet is considered: it is known, its cost does not matter, or it is taken.
use mathlib.Core.Path.{◌≡◌, sym, ap, ◌∙◌}
use mathlib.Core.Logic.{inl, inr, ⊎_elim}
use mathlib.Core.Bool.{Bool, true, false, false≢true}
use mathlib.Core.List.{List}
use Prim.Native.Nat.{ℕ, ◌+◌, ◌*◌, ◌≤◌, ◌<◌}
use native.Mathlib.Omega.{arith}
use lib.Dec.{ltb}
use lib.ListN.{length}
use Rattle.rules.specs.Job.{Bytes}
use Rattle.rules.specs.Median.{connection}
use Rattle.rules.proofs.Median.{length-median}
use Rattle.rules.proofs.Between.{each-median, one_of_length}
use Rattle.types.specs.State.{stored_at}
use Rattle.types.proofs.State.{length-stored_at}
use Rattle.distances.specs.Area.{Weighed}
use Rattle.medians.specs.Cost.{cost_at}
use Rattle.medians.proofs.Stored.{cost_any}
use Rattle.triplets.specs.declared.Triplet.{Triplet}
use Rattle.medians.specs.Guesses.{known_at, right_guess}
use Rattle.medians.proofs.guesses.Place.{IsKnown, known_is, guess_known}
use Rattle.medians.specs.declared.search.Search.{Search}
use Rattle.medians.specs.Search.{Inside, taken, gathered_after}
use Rattle.medians.specs.Swept.{Gives, IsMedian, GivesRow, Swept}
use Rattle.medians.proofs.search.Sweeping.{swept_none}
use Rattle.medians.proofs.search.Taking.{swept-taken}

-- The cost of a triplet of stored types.
abbrev pub cost_of : List ℕ → Bytes → Triplet → ℕ
cost_of ws states t = cost_at ws states t.u t.v t.w

-- The types of a triplet are among those made: each of its median vectors costs the same, and so does what it gives.
module _ {ws : List ℕ} {states : Bytes} {made : ℕ} {t : Triplet} (weighed : Weighed ws) (lie : 64 * made ≤ length states)
    (u_made : t.u < made) (v_made : t.v < made) (w_made : t.w < made) where
  median-cost : {row : Bytes} → IsMedian states t row →
      connection ws row (stored_at states t.u) (stored_at states t.v) (stored_at states t.w) ≡ cost_of ws states t
  median-cost m =
      rw m.row_is
      (cost_any ws states t.u t.v t.w weighed (omega arith) (omega arith) (omega arith) m.number m.below_three)

  pub gives-cost : {x : Bytes} {cost : ℕ} → Gives ws states made t x cost → cost ≡ cost_of ws states t
  gives-cost g = g.cost_is ∙ median-cost g.median

module _ {states : Bytes} {s : Search} {t : Triplet} (inside : Inside states s t) where
  -- A type of the rows made lies in the state area.
  lies : (i : ℕ) → i < s.made → 64 * i + 64 ≤ length states
  lies i h = omega (arith, inside.lie)

  pub wide : (i : ℕ) → i < s.made → length (stored_at states i) ≡ 64
  wide i h = length-stored_at states i (lies i h)

  -- A median vector has 64 bytes.
  pub median-wide : {row : Bytes} → IsMedian states t row → length row ≡ 64
  median-wide m =
      ap length m.row_is
      ∙ each-median (λ r. length r ≡ 64) _ _ _
      (λ x o. length-median x _ _ _ ∙ one_of_length 64 (wide _ inside.u_made) (wide _ inside.v_made) (wide _ inside.w_made) o)
      m.number m.below_three

  module _ {ws : List ℕ} (weighed : Weighed ws) where
    cost-here : {x : Bytes} {cost : ℕ} → Gives ws states s.made t x cost → cost ≡ cost_of ws states t
    cost-here = gives-cost weighed inside.lie inside.u_made inside.v_made inside.w_made

    module _ (gathered row : Bytes) where
      -- What is asked for, and what may be given.
      abbrev Considered : Bytes → Search → Type 0
      Considered found' s' = Swept (GivesRow ws states s.made t row) (Gives ws states s.made t) gathered s found' s'

      -- A known row that is given was not made, so it was gathered.
      known_dealt : IsKnown states s.made gathered s.count row → Considered gathered s
      known_dealt known =
          swept_none
          (λ x cost g.
          ⊎_elim (λ i. absurd (g.1.unmade i.0 i.1 (i.2 ∙ sym g.0))) (λ k. inr (k.0, k.1, k.2 ∙ sym g.0)) known)
          inside.room

      -- The guess is right.
      pub considered_guess : {r : Bool} (guesses : List ℕ) → r ≡ right_guess states s.made gathered s.count guesses row → r ≡ true → Considered gathered s
      considered_guess guesses is e = known_dealt (guess_known states s.made gathered s.count row guesses (sym is ∙ e))

      -- The triplet's cost does not matter.
      pub considered_dear : {cost : ℕ} → cost ≡ cost_of ws states t → s.below ≤ cost → Considered gathered s
      considered_dear is dear = swept_none (λ x cost g. inl (omega (arith, cost-here g.1))) inside.room

      module _ {r : Bool} (is : r ≡ ltb (known_at states s.made gathered s.count row) (s.made + s.count)) where
        -- The row is known.
        pub considered_known : r ≡ true → Considered gathered s
        considered_known e = known_dealt ((known_is states s.made gathered s.count row).0 (sym is ∙ e))

        -- Any other is taken.
        pub considered_taken : r ≡ false → {cost : ℕ} → cost ≡ cost_of ws states t → cost < s.below → IsMedian states t row → length gathered ≡ 8192 →
            {found' : Bytes} {s' : Search} → (s' ≡ taken s cost) × (found' ≡ gathered_after gathered s row) → Considered found' s'
        considered_taken e {cost} cost_is matters m size took =
            let new : IsKnown states s.made gathered s.count row → ⊥ =
            λ known. false≢true (sym e ∙ is ∙ (known_is states s.made gathered s.count row).1 known) in
            rw (took.0, took.1) (swept-taken (GivesRow ws states s.made t row) (Gives ws states s.made t) gathered s row cost
            (λ x c g. (g.0, cost-here g.1 ∙ sym cost_is))
            (record {
              median = m;
              cost_is = cost_is ∙ sym (median-cost weighed inside.lie inside.u_made inside.v_made inside.w_made m);
              unmade = λ i h z. new (inl (i, h, z));
            })
            matters (λ k h z. new (inr (k, h, z))) inside.room (median-wide m) size)
