-- `settled::Made::has_three` meets its contract: each of the three rows is a median vector.
use mathlib.Core.Path.{◌∙◌}
use Rattle.triplets.proofs.settled.Mixing.{settled-three}
use Rattle.triplets.proofs.settled.Made.has_three.Goals as goal

pub returns : goal.returns
returns c =
    let p = c.requires in
    let third = c.has_mixed-3.ensures in (
      λ e. settled-three _ _ _ c.args.self.now.narrow p.0.rows _ _ p.1 p.2 p.3 p.4 c.alone-k.ensures c.alone-l.ensures c.alone-n.ensures
          (c.has_mixed.ensures.0 c.if-not-has_mixed.false) (c.has_mixed-2.ensures.0 c.if-not-has_mixed-2.false) (third.0 e),
      third.1,
      third.2 ∙ c.has_mixed-2.ensures.2 ∙ c.has_mixed.ensures.2,
    )
