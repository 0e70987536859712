-- `settled::settled` meets its contract: one row settles the triplet, or three do.
use mathlib.Core.Path.{◌∙◌}
use Rattle.triplets.proofs.settled.Mixing.{settled-one}
use Rattle.triplets.proofs.settled.settled.Goals as goal

pub returns-then-all-eq0 : goal.returns-then-all-eq0
returns-then-all-eq0 c =
    let p = c.requires in
    let made = c.has_mixed.ensures in (
      λ e. settled-one _ _ _ p.0 p.3 _ _ p.4 p.5 p.6 c.pairs_of-p.ensures.0 c.if-all-eq0.true c.alone-k.ensures (made.0 e),
      made.1.cached,
      made.2 ∙ c.pairs_of-p.ensures.2,
    )
