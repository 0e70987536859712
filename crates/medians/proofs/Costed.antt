-- The connection cost of three stored types, summed over the first c of their 64 characters.
use mathlib.Core.Path.{◌≡◌, refl, sym, ◌∙◌}
use mathlib.Core.Logic.{◌⊎◌, inl, inr}
use mathlib.Core.Bool.{true, false}
use mathlib.Core.List.{List}
use Prim.Native.Nat.{ℕ, ◌+◌, ◌*◌, ◌≤◌, ◌<◌}
use native.Mathlib.Omega.{arith}
use lib.Dec.{eqb}
use lib.ListN.{length, get_or}
use borrow.Author.Tests.{eq-eqb, ne_eqb}
use Rattle.graph.specs.Below.{sum}
use Rattle.graph.proofs.Below.{sum_more, sum_bound}
use Rattle.rules.specs.Job.{Bytes}
use Rattle.rules.proofs.Median.{gap}
use Rattle.rules.proofs.Between.{again, spread, spread_le, cost-spread}
use Rattle.types.specs.State.{stored_at}
use Rattle.types.proofs.State.{length-stored_at, stored_at-state}
use Rattle.distances.specs.Area.{Weighed}
use Rattle.medians.specs.Cost.{cost_at}

-- What the code adds to a sum s for a character of weight k with states a, b and d.
module _ (k a b s t : ℕ) where
  pub gap_differ : ¬ (a ≡ b) → t ≡ s + k → t ≡ s + gap k a b
  gap_differ n e = rw (ne_eqb a b n) e

  pub gap-agree : a ≡ b → t ≡ s → t ≡ s + gap k a b
  gap-agree e f = rw (eq-eqb a b e) (omega arith)

  module _ (d : ℕ) where
    pub again-differ : ¬ (a ≡ d) → eqb b d ≡ false → t ≡ s + k → t ≡ s + again k a b d
    again-differ n e f = rw (ne_eqb a d n, e) f

    pub again-agree : ((¬ (a ≡ d)) × (eqb b d ≡ true)) ⊎ (a ≡ d) → t ≡ s → t ≡ s + again k a b d
    again-agree (inl (n, e)) f = rw (ne_eqb a d n, e) (omega arith)
    again-agree (inr e) f = rw (eq-eqb a d e) (omega arith)

module _ (ws : List ℕ) (states : Bytes) (u v w : ℕ) where
  -- What character c costs.
  abbrev pub cost_of : ℕ → ℕ
  cost_of c = spread (get_or ws c 0) (get_or (stored_at states u) c 0) (get_or (stored_at states v) c 0) (get_or (stored_at states w) c 0)

  pub record Costed (c s : ℕ) : Type 0 where
    pub passed : c ≤ 64
    pub so_far : s ≡ sum c cost_of

  pub none_costed : Costed 0 0
  unfolding sum
  none_costed = record { passed = omega arith; so_far = refl }

  -- One character more.
  pub one_costed : (c s t : ℕ) → c < 64 → Costed c s →
      t ≡ s + spread (get_or ws c 0) (get_or states (64 * u + c) 0) (get_or states (64 * v + c) 0) (get_or states (64 * w + c) 0) → Costed (c + 1) t
  one_costed c s t h k e = record {
    passed = omega arith;
    so_far = rw (sum_more, stored_at-state states u c h, stored_at-state states v c h, stored_at-state states w c h) (omega (arith, k.so_far));
  }

  module _ (weighed : Weighed ws) where
    -- A character costs at most twice its weight.
    pub costed_small : (c s : ℕ) → Costed c s → s ≤ 2000 * c
    costed_small c s k =
        omega (
          arith,
          k.so_far,
          sum_bound c 2000 cost_of (λ i h. omega (
            arith,
            spread_le (get_or ws i 0) (get_or (stored_at states u) i 0) (get_or (stored_at states v) i 0) (get_or (stored_at states w) i 0),
            weighed.at_most i (omega (arith, k.passed)),
          )),
        )

    pub all_costed : (c s : ℕ) → 64 * u + 64 ≤ length states → 64 ≤ c → Costed c s → s ≡ cost_at ws states u v w
    all_costed c s inside h k =
        let all : c ≡ length ws = omega (arith, k.passed, weighed.size) in
        rw all at k.so_far ∙ sym (cost-spread ws (stored_at states u) (stored_at states v) (stored_at states w)
        (length-stored_at states u inside ∙ sym weighed.size))
