-- `records::put_inferred_rows` meets its contract: at type k the rows of the types from s to k stand there.
use mathlib.Core.Path.{◌≡◌}
use Prim.Native.Nat.{◌-◌, ◌≤◌}
use lib.ListN.{length}
use Rattle.memory.specs.Placed.{placed}
use Rattle.result.specs.Records.{inferred_rows}
use Rattle.result.proofs.records.put_inferred_rows.Given as goal

abbrev pub invariant-loop-k : goal.invariant-loop-k
invariant-loop-k l = (l.s ≤ l.k) × (length l.out ≡ length l.initial.out) × (l.out ≡ placed l.initial.out l.at (inferred_rows l.m l.states l.s (l.k - l.s)))
