-- `matching::block_matches` meets its contract: the job is tested first, and one that passes has its width at byte 2.
use mathlib.Core.Path.{sym, ap, ◌∙◌}
use mathlib.Core.Bool.{not}
use native.Mathlib.Omega.{arith}
use Rattle.rules.specs.Answers.{number}
use Rattle.rules.proofs.Answers.{passed-number}
use Rattle.rules.proofs.Job.{passed_is}
use Rattle.lookup.proofs.matching.block_matches.Goals as goal

pub word_at-requires : goal.word_at-requires
word_at-requires c =
    let passed = passed-number _ (c.is_ok.ensures.negation ∙ ap not c.if-is_ok.true) in
    omega (arith, (passed_is _ (ap number (sym c.check.ensures) ∙ passed)).head)
