-- `links::link` meets its contract: spans, and then marks by them.
use native.Mathlib.Omega.{arith}
use Rattle.links.proofs.Marks.{found}
use Rattle.links.proofs.link.Goals as goal

pub returns : goal.returns
returns c =
    let a = c.args in
    let (w, spanned) = c.spans.ensures in
    found a.n a.epsilon a.area.now (omega arith) w spanned c.mark.ensures
