-- `ordered::count_line` meets its contract: before type j it counted the links of the pairs before j.
use mathlib.Core.Path.{◌≡◌, sym, ◌∙◌}
use mathlib.Core.Bool.{true, false}
use native.Mathlib.Omega.{arith}
use Rattle.result.specs.Lines.{line_of}
use Rattle.result.proofs.ordered.Lines.{higher, lower, pair-more}
use Rattle.result.proofs.ordered.count_line.Goals as goal
use Rattle.result.proofs.ordered.count_line.Goals.{then-linked, else-linked}

pub loop-j-init : goal.loop-j-init
loop-j-init c = (omega arith, omega arith, sym (lower c.args.area.now c.args.i _ (omega arith)))

pub loop-j-preserved : goal.loop-j-preserved
loop-j-preserved c =
    let l = c.loop-j in
    let a = c.args in
    let test = sym c.linked.ensures in
    let is = higher a.area.now a.i l.j in
    let more = pair-more a.area.now a.i l.j in
    elim c.if-linked.branch [
      | then-linked w ↦ omega (arith, w.n-is, more true (is true (omega arith) (test ∙ w.if-linked.true)))
      | else-linked w ↦ omega (arith, w.n-is, more false (is false (omega arith) (test ∙ w.if-linked.false)))
    ]

pub returns : goal.returns
unfolding line_of
returns c =
    let l = c.loop-j in
    let e : l.j ≡ c.args.t = omega arith in
    rw e at l.invariant.2
