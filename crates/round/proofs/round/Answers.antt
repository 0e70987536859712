-- `round::round` meets its contract: the rows found at the phase's epsilon are added, if there are any.
use native.Mathlib.Omega.{arith}
use Rattle.round.proofs.Turned.{none-fits, none-added, some-added}
use Rattle.round.proofs.round.Goals as goal

pub returns-in_err-rows : goal.returns-in_err-rows
returns-in_err-rows c =
    none-fits c.from_residual.result c.from_residual.ensures.0 c.requires.2 (rw c.epsilon.ensures at c.in_err-rows.ensures).comes_to

pub returns-then-count-eq0 : goal.returns-then-count-eq0
returns-then-count-eq0 c =
    let p = c.requires in
    none-added p.1 p.2 p.3 (rw c.epsilon.ensures at c.in_ok-rows.ensures).comes_to c.if-count-eq0.true

pub returns : goal.returns
returns c =
    let p = c.requires in
    some-added p.1 p.2 p.3 (rw c.epsilon.ensures at c.in_ok-rows.ensures).comes_to (omega (arith, c.if-count-eq0.false)) p.6 c.add_types-next.ensures
