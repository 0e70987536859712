-- `contents::bad_weight` meets its contract: no weight before the column is outside its bounds.
use mathlib.Core.Path.{sym}
use native.Mathlib.Omega.{arith}
use borrow.Author.Count.{below_none, below_more}
use Rattle.graph.proofs.Below.{first-is}
use Rattle.rules.specs.Job.{bad_weight}
use Rattle.job.proofs.contents.Stages.{told}
use Rattle.job.proofs.contents.bad_weight.Goals as goal

pub loop-c-init : goal.loop-c-init
loop-c-init c = below_none _

pub returns-then-outside : goal.returns-then-outside
unfolding bad_weight
returns-then-outside c =
    let hit = told 1 1000 c.outside.ensures c.word_at.ensures.is c.if-outside.true in
    sym (first-is _ _ _ (omega arith) c.loop-c.invariant (λ h. hit))

pub loop-c-preserved : goal.loop-c-preserved
loop-c-preserved c =
    let clear = told 1 1000 c.outside.ensures c.word_at.ensures.is c.if-outside.false in
    below_more _ _ c.loop-c.invariant clear

pub returns : goal.returns
unfolding bad_weight
returns c = sym (first-is _ _ _ (omega arith) (λ k l. c.loop-c.invariant k (omega arith)) (λ h. absurd (omega arith)))
