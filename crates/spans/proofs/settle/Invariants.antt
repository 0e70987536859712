-- `spans::settle` meets its contract: the lines behind place k - 2 are settled.
use mathlib.Core.Path.{◌≡◌}
use lib.ListN.{length, get_or}
use Rattle.spans.proofs.Lines.{Settling}
use Rattle.spans.proofs.settle.Given as goal

abbrev pub invariant-loop-k : goal.invariant-loop-k
invariant-loop-k l =
    (length l.reach ≡ 128) × Settling l.n l.k (λ i. get_or l.order i 0) (λ i. get_or l.steps i 0) l.reach l.spans
