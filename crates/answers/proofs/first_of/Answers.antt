-- `first_of` meets its contract: the library's `and` is the first of two answers that refuses.
use mathlib.Core.Path.{◌∙◌}
use Rattle.answers.proofs.First.{and-first}
use Rattle.answers.proofs.first_of.Goals as goal

pub returns : goal.returns
returns c = c.and.ensures ∙ and-first c.args.a c.args.b
