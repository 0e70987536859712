-- A median vector by the row whose own state it takes: that row may stand first.
use mathlib.Core.Path.{◌≡◌, refl, sym, ◌∙◌}
use mathlib.Core.Logic.{◌≢◌, inl, inr}
use mathlib.Core.Bool.{Bool, true, false, cond}
use Prim.Native.Nat.{ℕ}
use native.Mathlib.Decide.{ℕ_discrete}
use lib.Dec.{eqb}
use lib.ListN.{length, get_or}
use borrow.Author.Tests.{ne_eqb}
use Rattle.graph.proofs.Below.{table_ext}
use Rattle.rules.specs.Job.{Row}
use Rattle.rules.specs.Median.{common, median}
use Rattle.rules.proofs.Between.{common-held}

-- Whether own's state is held by another or not.
either : (p q : Bool) (x : ℕ) → cond p x (cond q x x) ≡ x
either true q x = refl
either false true x = refl
either false false x = refl

-- The other two differ: own's state.
pub common-own : (a b c : ℕ) → b ≢ c → common a a b c ≡ a
common-own a b c ne = rw (ne_eqb b c ne) (either (eqb a b) (eqb a c) a)

module _ (a b c : ℕ) where
  -- Where the own state stands second or third, it may stand first.
  common-second : common b b a c ≡ common b a b c
  common-second = elim (ℕ_discrete a c) [
    | yes e ↦ common-held b a b a c (inr (inr (refl, e))) ∙ sym (common-held b a a b c (inr (inl (refl, e))))
    | no ne ↦ common-own b a c ne ∙ sym (elim (ℕ_discrete a b) [
      | yes e ↦ common-held b b a b c (inl (sym e, refl))
      | no other ↦ rw (ne_eqb a c ne, ne_eqb a b other) (either false (eqb b c) b)
    ])
  ]

  common_third : common c c a b ≡ common c a b c
  common_third = elim (ℕ_discrete a b) [
    | yes e ↦ common-held c a c a b (inr (inr (refl, e))) ∙ sym (common-held c a a b c (inl (refl, e)))
    | no ne ↦ common-own c a b ne ∙ sym (elim (ℕ_discrete a c) [
      | yes e ↦ common-held c c a b c (inr (inl (sym e, refl)))
      | no other ↦ elim (ℕ_discrete b c) [
        | yes e ↦ common-held c c a b c (inr (inr (sym e, refl)))
        | no last ↦ rw (ne_eqb a b ne, ne_eqb a c other, ne_eqb b c last)
      ]
    ])
  ]

module _ (u v w : Row) where
  pub median-second : median v v u w ≡ median v u v w
  unfolding median
  median-second = table_ext (length v) _ _ (λ c h. common-second (get_or u c 0) (get_or v c 0) (get_or w c 0))

  pub median_third : median w w u v ≡ median w u v w
  unfolding median
  median_third = table_ext (length w) _ _ (λ c h. common_third (get_or u c 0) (get_or v c 0) (get_or w c 0))
