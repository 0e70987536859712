-- What can be done with walks, whatever their steps are.
use mathlib.Core.Path.{refl, sym}
use mathlib.Core.Logic.{◌≢◌}
use Prim.Native.Nat.{ℕ}
use Rattle.graph.specs.Walk.{Walk, stop, step}

module _ {R : ℕ → ℕ → Type 0} where
  pub single : {u v : ℕ} → R u v → Walk R u v
  single r = step r (stop refl)

  pub join : {u v w : ℕ} → Walk R u v → Walk R v w → Walk R u w
  join (stop e) q = rw e q
  join (step r p) q = step r (join p q)

  -- Where every step can be taken back, so can every walk.
  pub reverse : ((a b : ℕ) → R a b → R b a) → {u v : ℕ} → Walk R u v → Walk R v u
  reverse f (stop e) = stop (sym e)
  reverse f (step r p) = join (reverse f p) (single (f _ _ r))

  -- A walk between two different nodes has a first step.
  pub first_step : {u v : ℕ} → u ≢ v → Walk R u v → (w : ℕ) × R u w
  first_step ne (stop e) = absurd (ne e)
  first_step ne (step {v = w} r p) = (w, r)

module _ {R S : ℕ → ℕ → Type 0} where
  -- Where a walk by S leads wherever a step of R does, one leads wherever a walk by R does.
  pub expand : ((a b : ℕ) → R a b → Walk S a b) → {u v : ℕ} → Walk R u v → Walk S u v
  expand f (stop e) = stop e
  expand f (step r p) = join (f _ _ r) (expand f p)

  pub relax : ((a b : ℕ) → R a b → S a b) → {u v : ℕ} → Walk R u v → Walk S u v
  relax f = expand (λ a b r. single (f a b r))
