-- RULES 7.1: walks. A chain of short steps is a walk, and so is a path along links.
use Rattle.std.specs.Prelude.{◌≡◌, ℕ}

-- A walk by steps of R leads from u to v: it ends where it began, or takes a step from u and walks on to v.
pub data Walk (R : ℕ → ℕ → Type 0) : ℕ → ℕ → Type 0 where
  stop : {u v : ℕ} → u ≡ v → Walk R u v
  step : {u v w : ℕ} → R u v → Walk R v w → Walk R u w
