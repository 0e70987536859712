-- `ordered::next_in_line` meets its contract: no link stands between the first pair and the pair of type j.
use mathlib.Core.Path.{sym, ◌∙◌}
use mathlib.Core.Bool.{false}
use native.Mathlib.Omega.{arith}
use Rattle.result.proofs.ordered.Lines.{higher, before_more}
use Rattle.result.proofs.ordered.next_in_line.Goals as goal

pub loop-j-preserved : goal.loop-j-preserved
loop-j-preserved c =
    let l = c in
    let a = l.args in
    let none = higher a.area.now a.i l.loop-j.j false (omega arith) (sym c.linked.ensures ∙ c.if-linked.false) in
    (omega arith, omega (arith, l.loop-j.invariant.1, before_more a.area.now a.t a.i l.loop-j.j false none))
