-- `template::put_piece` meets its contract: the two tests tell what the byte gives.
use native.Mathlib.Omega.{arith}
use borrow.Author.Tests.{le-ltb, ne_eqb}
use Rattle.memory.proofs.Follows.{follows-stored}
use Rattle.text.proofs.template.put_piece.Goals as goal

pub returns : goal.returns
returns c =
    let more = le-ltb _ _ c.if-mark-numbers.false in
    let other = ne_eqb _ _ c.if-mark-numbers-2.false in
    rw (more, other) (follows-stored _ _ _ (omega (arith, rw (more, other) at c.requires)))
