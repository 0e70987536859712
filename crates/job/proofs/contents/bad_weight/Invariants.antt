-- `contents::bad_weight` meets its contract: no weight before the column is outside its bounds.
use mathlib.Core.Path.{◌≡◌}
use mathlib.Core.Bool.{false}
use Prim.Native.Nat.{ℕ, ◌<◌}
use Rattle.rules.specs.Job.{weight_at, outside}
use Rattle.job.proofs.contents.bad_weight.Given as goal

abbrev pub invariant-loop-c : goal.invariant-loop-c
invariant-loop-c l = (k : ℕ) → k < l.c → outside 1 1000 (weight_at l.job k) ≡ false
