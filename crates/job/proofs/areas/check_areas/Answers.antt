-- `areas::check_areas` meets its contract: the areas in their order, each long enough or not.
use borrow.Author.Tests.{lt-ltb, le-ltb}
use Rattle.rules.specs.Lent.{area_short}
use Rattle.job.proofs.areas.check_areas.Goals as goal
use Rattle.job.proofs.areas.check_areas.Goals.{then-res-lt-RESULT_AREA-via-then-res-lt-RESULT_AREA, then-res-lt-RESULT_AREA-via-else-res-lt-RESULT_AREA+then-states-lt-STATE_AREA, then-res-lt-RESULT_AREA-via-else-res-lt-RESULT_AREA+else-states-lt-STATE_AREA+then-distances-lt-DISTANCE_AREA, then-res-lt-RESULT_AREA-via-else-res-lt-RESULT_AREA+else-states-lt-STATE_AREA+else-distances-lt-DISTANCE_AREA+then-links-lt-MOST_LINKS}

pub returns-then-res-lt-RESULT_AREA : goal.returns-then-res-lt-RESULT_AREA
unfolding area_short
returns-then-res-lt-RESULT_AREA c =
    elim c.then-res-lt-RESULT_AREA.branch [
      | then-res-lt-RESULT_AREA-via-then-res-lt-RESULT_AREA w ↦ rw (lt-ltb _ _ w.if-res-lt-RESULT_AREA.true)
      | then-res-lt-RESULT_AREA-via-else-res-lt-RESULT_AREA+then-states-lt-STATE_AREA w ↦
          rw (le-ltb _ _ w.if-res-lt-RESULT_AREA.false, lt-ltb _ _ w.if-states-lt-STATE_AREA.true)
      | then-res-lt-RESULT_AREA-via-else-res-lt-RESULT_AREA+else-states-lt-STATE_AREA+then-distances-lt-DISTANCE_AREA w ↦
          rw (le-ltb _ _ w.if-res-lt-RESULT_AREA.false, le-ltb _ _ w.if-states-lt-STATE_AREA.false, lt-ltb _ _ w.if-distances-lt-DISTANCE_AREA.true)
      | then-res-lt-RESULT_AREA-via-else-res-lt-RESULT_AREA+else-states-lt-STATE_AREA+else-distances-lt-DISTANCE_AREA+then-links-lt-MOST_LINKS w ↦
          rw (le-ltb _ _ w.if-res-lt-RESULT_AREA.false, le-ltb _ _ w.if-states-lt-STATE_AREA.false, le-ltb _ _ w.if-distances-lt-DISTANCE_AREA.false, lt-ltb _ _ w.if-links-lt-MOST_LINKS.true)
    ]

pub returns : goal.returns
unfolding area_short
returns c = rw (le-ltb _ _ c.if-res-lt-RESULT_AREA.false, le-ltb _ _ c.if-states-lt-STATE_AREA.false, le-ltb _ _ c.if-distances-lt-DISTANCE_AREA.false, le-ltb _ _ c.if-links-lt-MOST_LINKS.false)
