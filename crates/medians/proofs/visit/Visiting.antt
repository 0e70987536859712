-- The median vectors of a triplet, one after the other: where the first two are alike the first is all, and otherwise all three are
-- considered.
use mathlib.Core.Path.{◌≡◌, sym, ap, ◌∙◌}
use mathlib.Core.Logic.{◌⊎◌, inl, inr}
use mathlib.Core.Bool.{Bool, true}
use mathlib.Core.List.{List, []}
use Prim.Native.Nat.{ℕ, zero, suc, ◌<◌}
use native.Mathlib.Omega.{arith}
use lib.ListN.{get_or}
use Rattle.rules.specs.Job.{Bytes}
use Rattle.rules.specs.Types.{row_at, is_same_row}
use Rattle.rules.specs.Median.{medians}
use Rattle.rules.proofs.Rows.{same_row}
use Rattle.rules.proofs.Between.{alike-medians}
use Rattle.types.specs.State.{stored_at}
use Rattle.triplets.specs.declared.Triplet.{Triplet}
use Rattle.medians.specs.declared.search.Search.{Search}
use Rattle.medians.specs.Search.{Inside}
use Rattle.medians.specs.Swept.{Gives, GivesRow, Swept}
use Rattle.medians.proofs.search.Sweeping.{Rows, swept-both, swept-more, swept_as, swept_at}
use Rattle.medians.proofs.search.Considering.{wide}

-- The median vectors of a triplet, and which of the rows the code has is which.
abbrev pub medians_of : Bytes → Triplet → List Bytes
medians_of states t = medians (stored_at states t.u) (stored_at states t.v) (stored_at states t.w)

module _ (states : Bytes) (t : Triplet) {rows : List Bytes} (are : rows ≡ medians_of states t) where
  same_at : (k : ℕ) → row_at (medians_of states t) k ≡ get_or rows k []
  same_at k = ap (λ rs. row_at rs k) (sym are)

  module _ (ws : List ℕ) where
    -- What is asked for when median vector k is considered.
    abbrev Asked : ℕ → ℕ → Rows
    Asked k made = GivesRow ws states made t (get_or rows k [])

    abbrev Given : ℕ → Rows
    Given made = Gives ws states made t

    -- Where the first two are alike, the first is all.
    pub visited_alike : {s s' : Search} {gathered found' : Bytes} → Inside states s t →
        {r : Bool} → r ≡ is_same_row (get_or rows 0 []) (get_or rows 1 []) → r ≡ true →
        Swept (Asked 0 s.made) (Given s.made) gathered s found' s' → Swept (Given s.made) (Given s.made) gathered s found' s'
    visited_alike inside is e =
        let same = (same_row (get_or rows 0 []) (get_or rows 1 [])).0 (sym is ∙ e) in
        let u = wide inside t.u inside.u_made in
        let v = wide inside t.v inside.v_made in
        let w = wide inside t.w inside.w_made in
        let alike = alike-medians _ _ _ (v ∙ sym u) (w ∙ sym u) (same_at 0 ∙ same ∙ sym (same_at 1)) in
        swept_as (λ x cost g. (g.median.row_is ∙ alike g.median.number g.median.below_three ∙ same_at 0, g)) (λ x cost g. g)

    -- Otherwise each is one of the three.
    which : (made : ℕ) (x : Bytes) (cost : ℕ) → Given made x cost → Asked 0 made x cost ⊎ (Asked 1 made x cost ⊎ Asked 2 made x cost)
    which made x cost g = by_number g.median.number g.median.below_three g.median.row_is
      where
        by_number : (k : ℕ) → k < 3 → x ≡ row_at (medians_of states t) k → Asked 0 made x cost ⊎ (Asked 1 made x cost ⊎ Asked 2 made x cost)
        by_number zero h e = inl (e ∙ same_at 0, g)
        by_number (suc zero) h e = inr (inl (e ∙ same_at 1, g))
        by_number (suc (suc zero)) h e = inr (inr (e ∙ same_at 2, g))
        by_number (suc (suc (suc k))) h e = absurd (omega arith)

    pub visited_all : {s₀ s₁ s₂ s₃ : Search} {f₀ f₁ f₂ f₃ : Bytes} →
        Swept (Asked 0 s₀.made) (Given s₀.made) f₀ s₀ f₁ s₁ →
        Swept (Asked 1 s₁.made) (Given s₁.made) f₁ s₁ f₂ s₂ →
        Swept (Asked 2 s₂.made) (Given s₂.made) f₂ s₂ f₃ s₃ →
        Swept (Given s₀.made) (Given s₀.made) f₀ s₀ f₃ s₃
    visited_all {s₀} one two three =
        let e = one.made_stays in
        let rest = swept-both (swept_at (Asked 1) Given e two) (swept_at (Asked 2) Given (two.made_stays ∙ e) three) in
        swept-more one rest (which s₀.made)
