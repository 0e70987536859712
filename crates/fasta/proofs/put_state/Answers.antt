-- `fasta::put_state` meets its contract: a state is stored, and any other byte is not.
use mathlib.Core.Path.{sym, ◌∙◌}
use native.Mathlib.Omega.{arith}
use Rattle.memory.proofs.Follows.{follows-none, follows-stored}
use Rattle.fasta.proofs.put_state.Goals as goal

pub returns-then-not-is_state : goal.returns-then-not-is_state
returns-then-not-is_state c = rw (sym c.is_state.ensures ∙ c.if-not-is_state.true) (follows-none _ _)

pub returns : goal.returns
returns c =
    let state = sym c.is_state.ensures ∙ c.if-not-is_state.false in
    rw state (follows-stored _ _ _ (omega (arith, rw state at c.requires.1)))
