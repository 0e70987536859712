-- `contents::bad_state` meets its contract: the place counts the states that were passed, and none of them is outside its bounds.
use mathlib.Core.Path.{◌≡◌}
use mathlib.Core.Bool.{false}
use Prim.Native.Nat.{ℕ, ◌+◌, ◌*◌, ◌≤◌, ◌<◌}
use lib.ListN.{get_or}
use Rattle.rules.specs.Job.{Bytes, outside}
use Rattle.job.proofs.contents.bad_state.Given as goal

-- No state before the place is outside its bounds.
abbrev pub Clear : Bytes → ℕ → ℕ → Type 0
Clear job first place = (i : ℕ) → i < place → outside 33 126 (get_or job (first + i) 0) ≡ false

abbrev pub invariant-loop-column : goal.invariant-loop-column
invariant-loop-column l = (l.place ≡ l._row * l.m + l._column) × (l._row * l.m + l.m ≤ l.n * l.m) × Clear l.job l.first l.place

abbrev pub invariant-rows : goal.invariant-rows
invariant-rows l = (l.place ≡ l._row * l.m) × Clear l.job l.first l.place
