-- Feasible links: which there are in any case, and that they join all nodes.
use mathlib.Core.Path.{◌≡◌}
use mathlib.Core.Logic.{◌≢◌}
use Prim.Native.Nat.{ℕ, suc, ◌≤◌, ◌<◌}
use native.Mathlib.Omega.{arith}
use native.Mathlib.Decide.{ℕ_discrete}
use Rattle.graph.specs.Walk.{Walk, stop}
use Rattle.graph.specs.Feasible.{Short, Chain, Feasible, Bridge}
use Rattle.graph.proofs.Walks.{single, reverse, expand, relax, first_step}

module _ (n : ℕ) (d : ℕ → ℕ → ℕ) where
  pub wider : (ε δ u v : ℕ) → ε ≤ δ → Feasible n d ε u v → Feasible n d δ u v
  wider ε δ u v h f c = f (relax (λ a b s. record { from = s.from; to = s.to; below = omega arith }) c)

  pub short-links : (ε u v : ℕ) → u ≢ v → d u v ≤ ε → Feasible n d ε u v
  short-links ε u v ne h c = let s = first_step ne c in omega arith

  module _ (symmetric : (a b : ℕ) → d a b ≡ d b a) (ε : ℕ) where
    pub short_back : (x a b : ℕ) → Short n d ε x a b → Short n d ε x b a
    short_back x a b s = record { from = s.to; to = s.from; below = rw symmetric s.below }

    pub feasible-back : (a b : ℕ) → Feasible n d ε a b → Feasible n d ε b a
    feasible-back a b f c = f (rw (symmetric a b) (reverse (short_back (d b a)) c))

  module _ (ε : ℕ) (chain? : (x u v : ℕ) → u < n → v < n → Dec (Chain n d ε x u v)) where
    -- By induction on a bound k of the distance: two nodes are linked, or a chain of shorter steps leads from one to the other.
    bridged : (k u v : ℕ) → u < n → v < n → d u v < k → Walk (Bridge n d ε (d u v)) u v
    bridged Prim.Native.Nat.zero u v hu hv h = elim h [ ]
    bridged (suc k) u v hu hv h = elim (ℕ_discrete u v) [
      | yes e ↦ stop e
      | no ne ↦ elim (chain? (d u v) u v hu hv) [
        | no f ↦ single (record { from = hu; to = hv; differ = ne; feasible = f; within = omega arith })
        | yes c ↦ expand (λ a b s. relax (within a b s) (bridged k a b s.from s.to (omega arith))) c
      ]
    ]
      where
        within : (a b : ℕ) → Short n d ε (d u v) a b → (p q : ℕ) → Bridge n d ε (d a b) p q → Bridge n d ε (d u v) p q
        within a b s p q t =
            record { from = t.from; to = t.to; differ = t.differ; feasible = t.feasible; within = omega arith }

    pub links-join : (u v : ℕ) → u < n → v < n → Walk (Bridge n d ε (d u v)) u v
    links-join u v hu hv = bridged (suc (d u v)) u v hu hv (omega arith)

-- Only the distances of different nodes count.
pub feasible_as : (n : ℕ) (d d' : ℕ → ℕ → ℕ) → ((a b : ℕ) → a < n → b < n → a ≢ b → d a b ≡ d' a b) →
    (ε u v : ℕ) → u < n → v < n → u ≢ v → Feasible n d ε u v → Feasible n d' ε u v
feasible_as n d d' same ε u v hu hv ne f c = f (expand short (rw (← same u v hu hv ne) at c))
  where
    short : (a b : ℕ) → Short n d' ε (d u v) a b → Chain n d ε (d u v) a b
    short a b s = elim (ℕ_discrete a b) [
      | yes e ↦ stop e
      | no differ ↦ single (record { from = s.from; to = s.to; below = rw (same a b s.from s.to differ) s.below })
    ]
