-- `network::refuse_or_draw` meets its contract: the first refusal of checks 1 to 7, or what is drawn.
use mathlib.Core.Path.{sym, ap₂, ◌∙◌}
use Rattle.answers.specs.Told.{first_of}
use Rattle.rules.proofs.Answers.{handed_on}
use Rattle.readback.proofs.Lent.{enough}
use Rattle.network.proofs.draw.Verdicts.{first-verdict, first-passed}
use Rattle.network.proofs.Steps.{answered-refused, answered-drawn}
use Rattle.network.proofs.refuse_or_draw.Goals as goal

pub returns-in_err-first_of : goal.returns-in_err-first_of
returns-in_err-first_of c =
    let is = c.first_of.ensures ∙ ap₂ first_of c.check_areas-areas.ensures c.check.ensures in
    answered-refused _ _ _ _ _ (first-verdict _ _ (sym is ∙ c.in_err-first_of.was)) (handed_on c.from_residual.ensures.1)

pub draw-requires : goal.draw-requires
draw-requires c =
    let is = c.first_of.ensures ∙ ap₂ first_of c.check_areas-areas.ensures c.check.ensures in
    let (areas, pass) = first-passed _ c.args.job.now (sym is ∙ c.in_ok-first_of.was) in
    let long = enough _ areas in
    (pass, long.result-long, long.states-long, long.distances-long)

pub returns : goal.returns
returns c =
    let is = c.first_of.ensures ∙ ap₂ first_of c.check_areas-areas.ensures c.check.ensures in
    answered-drawn _ _ _ _ _ (first-passed _ c.args.job.now (sym is ∙ c.in_ok-first_of.was)).0 c.draw.ensures
