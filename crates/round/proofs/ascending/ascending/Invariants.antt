-- `ascending::ascending` meets its contract: the first k rows are sorted.
use mathlib.Core.Path.{◌≡◌}
use Prim.Native.Nat.{ℕ}
use lib.ListN.{length}
use Rattle.rules.specs.Job.{Bytes}
use Rattle.memory.specs.Placed.{placed}
use Rattle.types.specs.State.{stored_at, laid}
use Rattle.round.specs.Sorted.{sorted}
use Rattle.round.proofs.ascending.ascending.Given as goal

pub record Sorting (found : Bytes) (rows : Bytes) (k : ℕ) : Type 0 where
  pub size : length rows ≡ 8192
  pub is : rows ≡ placed found 0 (laid (sorted k (stored_at found)))

abbrev pub invariant-loop-k : goal.invariant-loop-k
invariant-loop-k l = Sorting l.initial.rows l.rows l.k
