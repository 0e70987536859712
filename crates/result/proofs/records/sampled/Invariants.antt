-- `records::sampled` meets its contract: after k types it counted the sampled ones of the first k.
use mathlib.Core.Path.{◌≡◌}
use Prim.Native.Nat.{◌≤◌}
use Rattle.result.specs.Records.{sampled_of}
use Rattle.result.proofs.records.sampled.Given as goal

abbrev pub invariant-loop-k : goal.invariant-loop-k
invariant-loop-k l = (l.sampled ≤ l.k) × (l.sampled ≡ sampled_of l.kinds l.k)
