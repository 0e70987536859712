-- The result block up to its links.
use Rattle.std.specs.Prelude.{◌++◌, ℕ, ◌+◌, ◌-◌, length}
use Rattle.graph.specs.Below.{gather}
use Rattle.rules.specs.Job.{Bytes}
use Rattle.rules.specs.Types.{node_at}
use Rattle.rules.specs.Run.{Network}
use Rattle.rules.specs.Result.{words, header, record_of, sampled_in}

-- Header, records and rows, as `block` of the rules has them; proofs/Parts.antt shows that the block is these and then its links.
unfoldable pub front : ℕ → Network → Bytes
front m net =
    let ts = net.types in
    let t = length ts in
    let s = sampled_in ts in
    words (header t s m (length net.links) net.rounds)
    ++ gather t (λ k. words (record_of (node_at ts k).origin (k - s)))
    ++ gather (t - s) (λ i. (node_at ts (s + i)).row)
