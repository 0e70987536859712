-- `sweep::with_first` meets its contract: what the triplets with the types passed give is swept. Each next type's triplet is met
-- elsewhere, cannot matter, is settled, or is visited.
use mathlib.Core.Path.{◌≡◌, ◌∙◌}
use native.Mathlib.Omega.{arith}
use Rattle.triplets.specs.Triplet.{in_order}
use Rattle.triplets.specs.declared.Triplet.{Triplet}
use Rattle.triplets.proofs.Order.{mark-read}
use Rattle.sweep.specs.Floors.{met, Passed}
use Rattle.sweep.specs.Candidate.{IsTriplet}
use Rattle.sweep.proofs.Seated.{met-triplet}
use Rattle.sweep.proofs.Walk.{Here, walk_first, walk-next, walk-less, walk-done, follower_next, which-second, ready_on, passed-more, first-none, here-skipped, here_dear, here_visited}
use borrow.Author.Tests.{eq-eqb}
use Rattle.sweep.proofs.with_first.Goals as goal
use Rattle.sweep.proofs.with_first.Goals.{then-c-a+then-least-now, then-c-a+else-least-now, else-c-a+else-area-b-ne1}

pub loop-b-init : goal.loop-b-init
loop-b-init c =
    let p = c.requires in
    (walk_first (follower_next p.0 p.1 p.2), first-none p.0 p.1 p.2)

pub loop-b-smaller : goal.loop-b-smaller
loop-b-smaller c =
    let h = c.loop-b-test.true in
    walk-less h (follower_next c.requires.0 c.requires.1 h)

pub loop-b-preserved : goal.loop-b-preserved
loop-b-preserved c =
    let l = c.loop-b in
    let a = c.args in
    let pair = a.pair in
    let p = c.requires in
    let h = c.loop-b-test.true in
    let f = follower_next p.0 p.1 h in
    let r = ready_on p.0 l.invariant.1 in
    let triplet : (t : Triplet) → t ≡ in_order pair.c pair.a l.b → IsTriplet a.known.now.area.now pair.size.types t = λ t is.
    rw is (met-triplet pair.c pair.a l.b p.3 (l.invariant.0.linked h) (omega (arith, l.invariant.0.on)) h p.1) in
    let step : Passed a.known.now.weights.now a.known.now.states.now a.known.now.area.now pair.size (met l.now l.low)
    (Here a.known.now.weights.now a.known.now.states.now a.known.now.area.now pair.size.types l.now.made pair.c pair.a l.b) l.mismatches l.gathered
    c.if-c-a.mismatches c.if-c-a.gathered c.if-c-a.guesses (met c.if-c-a.now c.if-c-a.low) = elim c.if-c-a.branch [
      | then-c-a+then-least-now w ↦
          rw (w.mismatches-is, w.gathered-is, w.guesses-is, w.now-is, w.low-is, w.min-low.ensures) (here_visited r pair.c pair.a l.b w.in_order-t.ensures (triplet _ w.in_order-t.ensures) w.outlook-least.ensures.0 w.outlook-least.ensures.1 w.outlook-least.ensures.2 w.visit-now.ensures.0 w.visit-now.ensures.1)
      | then-c-a+else-least-now w ↦
          rw (w.mismatches-is, w.gathered-is, w.guesses-is, w.now-is, w.low-is, w.min-low.ensures) (here_dear r pair.c pair.a l.b w.in_order-t.ensures (triplet _ w.in_order-t.ensures) w.outlook-least.ensures.0 w.outlook-least.ensures.1 w.outlook-least.ensures.2 w.if-least-now.false)
      | else-c-a+else-area-b-ne1 w ↦
          rw (w.mismatches-is, w.gathered-is, w.guesses-is, w.now-is, w.low-is) (here-skipped r pair.c pair.a l.b w.if-c-a.false (mark-read a.known.now.area.now pair.a l.b (omega (arith, l.invariant.0.on)) ∙ eq-eqb _ _ w.if-area-b-ne1.false))
    ] in (
      walk-next l.invariant.0 f,
      passed-more p.0 l.invariant.1 (λ made. Here a.known.now.weights.now a.known.now.states.now a.known.now.area.now pair.size.types made pair.c pair.a l.b)
          step
          (λ x cost. which-second f),
    )

pub returns : goal.returns
returns c =
    let l = c.loop-b in
    rw (walk-done l.invariant.0 c.loop-b-test.false) at l.invariant.1
