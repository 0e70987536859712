-- `round::put_kinds` meets its contract: so many kinds are stored.
use Rattle.round.proofs.Origins.{with_filled}
use Rattle.round.proofs.put_kinds.Goals as goal

pub returns : goal.returns
returns c =
    let a = c.args in
    with_filled a.kinds _ a.t a.count a.round c.requires.1 c.requires.0 (c.fill.ensures.after (λ y e. e))
