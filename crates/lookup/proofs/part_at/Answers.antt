-- `lookup::part_at` meets its contract: the numbers tell a part that ends within job or block, and its bytes are the states.
use mathlib.Core.Path.{◌∙◌}
use borrow.Author.Tests.{ne_eqb}
use Rattle.lookup.proofs.Places.{states}
use Rattle.lookup.proofs.Rows.{within}
use Rattle.lookup.proofs.part_at.Goals as goal

pub part-requires : goal.part-requires
part-requires c = rw c.if-place-eq2.true at (within c.requires)

pub returns-then-place-eq2 : goal.returns-then-place-eq2
returns-then-place-eq2 c = c.part.ensures ∙ (rw c.if-place-eq2.true at (states c.requires))

pub part-requires-2 : goal.part-requires-2
part-requires-2 c = rw (ne_eqb _ _ c.if-place-eq2.false) at (within c.requires)

pub returns : goal.returns
returns c = c.part-2.ensures ∙ (rw (ne_eqb _ _ c.if-place-eq2.false) at (states c.requires))
