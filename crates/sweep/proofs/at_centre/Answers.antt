-- `sweep::at_centre` meets its contract: what the triplets with the lower types passed give is swept.
use Rattle.sweep.specs.Candidate.{WithFirst}
use Rattle.sweep.proofs.Walk.{walk_first, walk-next, walk-less, walk-done, follower_first, follower_next, which-first, passed-more, centre_none}
use Rattle.sweep.proofs.at_centre.Goals as goal

pub loop-a-init : goal.loop-a-init
loop-a-init c =
    let r = c.requires.0 in
    (walk_first (follower_first r c.requires.1), centre_none r c.requires.1)

pub loop-a-smaller : goal.loop-a-smaller
loop-a-smaller c =
    let h = c.loop-a-test.true in
    walk-less h (follower_next c.requires.0 c.requires.1 h)

pub loop-a-preserved : goal.loop-a-preserved
loop-a-preserved c =
    let l = c.loop-a in
    let a = c.args in
    let f = follower_next c.requires.0 c.requires.1 c.loop-a-test.true in (
      walk-next l.invariant.0 f,
      passed-more c.requires.0 l.invariant.1
          (λ made. WithFirst a.known.now.weights.now a.known.now.states.now a.known.now.area.now a.at.size.types made a.at.c l.a a.at.size.types)
          c.with_first-met.ensures (λ x cost. which-first f),
    )

pub returns : goal.returns
returns c =
    let l = c.loop-a in
    rw (walk-done l.invariant.0 c.loop-a-test.false) at l.invariant.1
