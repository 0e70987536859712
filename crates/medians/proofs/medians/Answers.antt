-- `medians::medians` meets its contract: the three median vectors are made one after the other, each with its own row first.
use mathlib.Core.Path.{◌∙◌}
use Rattle.medians.proofs.Own.{median-second, median_third}
use Rattle.medians.proofs.medians.Goals as goal

pub returns : goal.returns
returns c =
    rw (c.median.ensures, c.median-2.ensures ∙ median-second _ _ _, c.median-3.ensures ∙ median_third _ _ _)
