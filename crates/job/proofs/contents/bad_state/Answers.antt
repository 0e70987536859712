-- `contents::bad_state` meets its contract: the place counts the states that were passed, and none of them is outside its bounds.
use mathlib.Core.Path.{◌≡◌, sym, ◌∙◌}
use Prim.Native.Nat.{◌*◌}
use native.Mathlib.Nat.{le_antisymm, mul-le-mul_right}
use native.Mathlib.Omega.{arith}
use mir.Facts.{Fits-8_64}
use borrow.Author.Count.{below_none, below_more}
use Rattle.graph.proofs.Below.{first-is}
use Rattle.rules.specs.Job.{bad_state}
use Rattle.job.proofs.contents.bad_state.Goals as goal

pub rows-init : goal.rows-init
rows-init c = (omega arith, below_none _)

pub loop-column-init : goal.loop-column-init
loop-column-init c =
    let m = c.args.m in
    (omega arith, omega (arith, mul-le-mul_right m c.rows-test.true), c.rows.invariant.1)

pub overflow_cast-job : goal.overflow_cast-job
overflow_cast-job c = Fits-8_64 (c.type_inv.job _)

pub loop-column-preserved : goal.loop-column-preserved
loop-column-preserved c =
    let l = c.loop-column in
    (omega arith, l.invariant.1, below_more _ _ l.invariant.2 (sym c.outside.ensures ∙ c.if-outside.false))

pub rows-preserved : goal.rows-preserved
rows-preserved c = (omega arith, c.loop-column.invariant.2)

pub returns-after-rows : goal.returns-after-rows
unfolding bad_state
returns-after-rows c =
    let s = c in
    let r = c.rows in
    let e : r.place ≡ s.args.n * s.args.m = r.invariant.0 ∙ rw (le_antisymm r.auto._row-end c.rows-test.false) in
    rw (← s.requires.0, ← s.requires.1) (sym (first-is _ _ _ (omega arith) r.invariant.1 (λ h. absurd (omega arith))))

pub returns-then-outside : goal.returns-then-outside
unfolding bad_state
returns-then-outside c =
    let s = c in
    let l = c.loop-column in
    rw (← s.requires.0, ← s.requires.1) (sym (first-is _ _ _ (omega arith) l.invariant.2 (λ h. sym c.outside.ensures ∙ c.if-outside.true)))
