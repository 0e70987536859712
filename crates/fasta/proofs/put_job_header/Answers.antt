-- `fasta::put_job_header` meets its contract: three numbers, and three behind them.
use Prim.Native.Nat.{◌≤◌}
use native.Mathlib.Omega.{arith}
use lib.ListN.{length}
use Rattle.rules.specs.Result.{words}
use Rattle.memory.proofs.Follows.{follows-once, follows_on}
use Rattle.fasta.proofs.put_job_header.Goals as goal

pub returns : goal.returns
unfolding words
returns c =
    let room : 0 ≤ length c.args.job.now = omega arith in
    (follows_on (follows-once c.put_three.ensures) room (follows-once c.put_three-2.ensures)).is
