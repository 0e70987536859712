-- `purge::purge` meets its contract: whenever links were found, memory holds a run that purges to what the run at entry purges to.
use native.Mathlib.Omega.{arith}
use Rattle.purge.proofs.Purging.{purging_chosen, one_time_more, all-purged}
use Rattle.purge.proofs.purge.Goals as goal

pub purge_once-now-requires : goal.purge_once-now-requires
purge_once-now-requires c =
    let a = c in
    let inv = a.loop-stay.invariant in
    let p = a.requires in
    let s = a.survey-stay.ensures in
    (purging_chosen inv, inv.within, inv.full, omega (arith, inv.states_size, p.3), omega (arith, inv.area_size, s.found.size, p.4))

pub loop-stay-preserved : goal.loop-stay-preserved
loop-stay-preserved c =
    let f = c in
    let a = f in
    let p = a.requires in
    one_time_more a.loop-stay.invariant (omega (arith, f.loop-stay-test.true)) f.purge_once-now.ensures p.3 c.survey-stay-in-loop-stay.ensures

pub returns : goal.returns
returns c =
    let a = c in
    let p = a.requires in
    all-purged a.loop-stay.invariant a.survey-stay.ensures (omega (arith, p.0, p.1)) (omega (arith, c.loop-stay-test.false))
