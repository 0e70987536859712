-- `candidates::gather_window` meets its contract: there is no candidate; or all within the window are gathered, or too many.
use Rattle.round.proofs.candidates.Chosen.{fresh-none, fresh_added}
use Rattle.round.proofs.candidates.gather_window.Goals as goal

pub returns-then-lambda-eq-ABOVE_ALL_COSTS : goal.returns-then-lambda-eq-ABOVE_ALL_COSTS
returns-then-lambda-eq-ABOVE_ALL_COSTS c =
    let p = c.requires in
    fresh-none p.4 c.args.window.epsilon p.0.weighed p.0.current p.0.few p.0.lie c.if-lambda-eq-ABOVE_ALL_COSTS.true p.5 c.for_all.ensures

pub returns : goal.returns
returns c =
    let p = c.requires in
    let e = c.again.ensures in
    let swept = rw (e.0, e.1, c.for_all-search.ensures, p.5) at c.sweep-all.ensures.swept in
    fresh_added p.4 c.args.window.epsilon c.if-lambda-eq-ABOVE_ALL_COSTS.false swept p.0.few c.ascending.ensures
