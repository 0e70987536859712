-- `decimals::say` meets its contract: the number follows the text.
use native.Mathlib.Omega.{arith}
use Rattle.memory.proofs.Follows.{follows_on}
use Rattle.memory.proofs.decimals.say.Goals as goal

pub returns : goal.returns
returns c =
    let put = c in
    follows_on put.put-at.ensures (omega (arith, put.requires)) c.put_decimal.ensures
