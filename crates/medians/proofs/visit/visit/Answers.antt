-- `visit::visit` meets its contract: the first median vector is considered, and the others unless the first two are alike.
use Rattle.medians.proofs.visit.Visiting.{visited_alike, visited_all}
use Rattle.medians.proofs.visit.visit.Goals as goal

pub returns-then-alike : goal.returns-then-alike
returns-then-alike c =
    let one = c.consider-one.ensures in
    (one.0, visited_alike _ _ c.medians.ensures _ c.requires.1 c.alike.ensures c.if-alike.true one.1)

pub returns : goal.returns
returns c =
    let three = c.consider.ensures in
    (three.0, visited_all _ _ c.medians.ensures _ c.consider-one.ensures.1 c.consider-two.ensures.1 three.1)
