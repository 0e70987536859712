-- The distance of two stored rows, summed over the first c of their 64 characters.
use mathlib.Core.Path.{◌≡◌, refl, ap}
use mathlib.Core.Bool.{Bool, true, false, cond}
use mathlib.Core.List.{List}
use Prim.Native.Nat.{ℕ, ◌+◌, ◌*◌, ◌≤◌, ◌<◌}
use native.Mathlib.Omega.{arith}
use lib.Dec.{eqb}
use lib.ListN.{length, get_or}
use Rattle.graph.specs.Below.{sum}
use Rattle.graph.proofs.Below.{sum_more}
use Rattle.rules.specs.Job.{Bytes}
use Rattle.rules.specs.Distance.{difference, distance}
use Rattle.types.specs.State.{stored_at}
use Rattle.types.proofs.State.{stored_at-state}
use Rattle.distances.specs.Area.{Weighed, stored_apart}

module _ (ws : List ℕ) (states : Bytes) (i j : ℕ) where
  pub record Summed (c s : ℕ) : Type 0 where
    pub so_far : s ≡ sum c (difference ws (stored_at states i) (stored_at states j))
    pub small : s ≤ 1000 * c

  pub none_summed : Summed 0 0
  unfolding sum
  none_summed = record { so_far = refl; small = omega arith }

  pub all_summed : Weighed ws → {c s : ℕ} → c ≡ 64 → Summed c s → s ≡ stored_apart ws states i j
  unfolding distance
  all_summed w {c} h t =
      let all : c ≡ length ws = omega (arith, w.size) in
      rw all at t.so_far

  -- What character c counts is at most its weight.
  abbrev counts : ℕ → ℕ
  counts c = cond (eqb (get_or states (64 * i + c) 0) (get_or states (64 * j + c) 0)) 0 (get_or ws c 0)

  cond-at-most : (b : Bool) (x : ℕ) → cond b 0 x ≤ x
  cond-at-most true x = omega arith
  cond-at-most false x = omega arith

  -- One character more.
  pub one_more : {c s : ℕ} → c < 64 → Summed c s → Weighed ws → Summed (c + 1) (s + counts c)
  one_more {c} h t w =
      let few = cond-at-most (eqb (get_or states (64 * i + c) 0) (get_or states (64 * j + c) 0)) (get_or ws c 0) in
      record {
        so_far = rw (sum_more, stored_at-state states i c h, stored_at-state states j c h) (ap (λ (k : ℕ). k + counts c) t.so_far);
        small = omega (arith, t.small, w.at_most c h);
      }
