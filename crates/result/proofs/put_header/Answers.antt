-- `result::put_header` meets its contract: the numbers, each behind those before it, are the header.
use Prim.Native.Nat.{◌≤◌}
use native.Mathlib.Omega.{arith}
use lib.ListN.{length}
use Rattle.rules.specs.Result.{words}
use Rattle.memory.proofs.Follows.{follows-once, follows_on}
use Rattle.result.proofs.put_header.Goals as goal

pub returns : goal.returns
unfolding words
returns c =
    let room : 0 ≤ length c.args.out.now = omega arith in
    let w2 = follows_on (follows-once c.put_three.ensures) room (follows-once c.put_word.ensures) in
    let w3 = follows_on w2 room (follows-once c.put_word-2.ensures) in
    (follows_on w3 room (follows-once c.put_three-2.ensures)).is
