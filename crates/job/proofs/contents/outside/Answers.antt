-- `contents::outside` meets its contract: below the low bound, and else what the second test says.
use borrow.Author.Tests.{lt-ltb, le-ltb}
use Rattle.job.proofs.contents.outside.Goals as goal

pub returns-then-x-low : goal.returns-then-x-low
returns-then-x-low c = rw (lt-ltb _ _ c.if-x-low.true)

pub returns-else-x-low : goal.returns-else-x-low
returns-else-x-low c = rw (le-ltb _ _ c.if-x-low.false)
