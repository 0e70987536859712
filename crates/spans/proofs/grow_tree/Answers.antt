-- `spans::grow_tree` meets its contract: the nearest type outside joins until all are in the tree.
use native.Mathlib.Omega.{arith}
use Rattle.spans.proofs.TreeGrown.{growing_none, growing-more, growing_all}
use Rattle.spans.proofs.grow_tree.Goals as goal

pub loop-size-init : goal.loop-size-init
loop-size-init c =
    let (long, free, past) = c.none_inside-inside.ensures in
    let s = c in
    growing_none s.args.area.now s.args.spans.now (omega arith) (omega arith) (omega arith) long free past

pub loop-size-preserved : goal.loop-size-preserved
loop-size-preserved c =
    let (few, room) = c.lanes-wide.ensures in
    let known = c.type_inv.area in
    growing-more few room c.requires.1 (λ p. omega (arith, known p)) c.loop-size-test.true c.loop-size.invariant
    c.step_line.ensures.0 (c.step_line.ensures.1 (λ old far. far) (λ old far new h. omega arith)) c.approach-step.ensures.0 c.approach-step.ensures.1 c.find-v.ensures

pub returns : goal.returns
returns c = growing_all c.loop-size.invariant (omega arith) (omega arith)
