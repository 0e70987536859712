-- `alignment::take_byte` meets its contract: a state goes its own way, and an opener may be one too many.
use mathlib.Core.Path.{sym, ◌∙◌}
use native.Mathlib.Omega.{arith}
use Rattle.fasta.proofs.alignment.Faults.{skipped-passes, opener-passes}
use Rattle.fasta.proofs.alignment.Counted.{lengths-same, taken-passed}
use Rattle.fasta.proofs.alignment.take_byte.Goals as goal

pub returns-then-not-opens : goal.returns-then-not-opens
returns-then-not-opens c =
    let no = sym c.is_state.ensures ∙ c.if-is_state.false in
    taken-passed _ _ (skipped-passes _ _ no (sym c.opens.ensures ∙ c.if-not-opens.true)) (c.requires.1.lengths_are ∙ lengths-same _ _ no)

pub returns : goal.returns
returns c =
    let no = sym c.is_state.ensures ∙ c.if-is_state.false in
    taken-passed _ _ (opener-passes _ _ no (sym c.opens.ensures ∙ c.if-not-opens.false) (omega arith)) (c.requires.1.lengths_are ∙ lengths-same _ _ no)
