-- `ordered::count_links` meets its contract: before type i it counted the lines of the types before i.
use mathlib.Core.Path.{◌≡◌, refl, ◌∙◌}
use native.Mathlib.Omega.{arith}
use Rattle.graph.specs.Below.{gather}
use Rattle.result.proofs.ordered.Lines.{line-short, links-more, links-all}
use Rattle.result.proofs.ordered.count_links.Goals as goal

pub loop-i-init : goal.loop-i-init
unfolding gather
loop-i-init c = (omega arith, refl)

pub overflow_add-n : goal.overflow_add-n
overflow_add-n c =
    let a = c.args in
    omega (arith, line-short a.area.now a.t c.loop-i.i, c.count_line-n.ensures)

pub loop-i-preserved : goal.loop-i-preserved
loop-i-preserved c =
    let l = c in
    let a = l.args in
    let short = line-short a.area.now a.t l.loop-i.i in
    (omega (arith, short, c.count_line-n.ensures), omega (arith, c.count_line-n.ensures, links-more a.area.now a.t l.loop-i.i))

pub returns : goal.returns
returns c =
    let l = c in
    let a = l.args in
    let e : l.loop-i.i ≡ a.t = omega arith in (rw e at l.loop-i.invariant.1) ∙ links-all a.area.now a.t
