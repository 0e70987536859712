-- `ascending::place_of_row` meets its contract: all rows passed stand before the row.
use mathlib.Core.Path.{sym, ap, ◌∙◌}
use mathlib.Core.Bool.{not}
use native.Mathlib.Omega.{arith}
use borrow.Author.Count.{below_more}
use Rattle.graph.proofs.Below.{first-is}
use Rattle.round.proofs.ascending.place_of_row.Goals as goal

pub returns-then-not-before : goal.returns-then-not-before
returns-then-not-before c =
    let l = c.loop-i in
    (sym (first-is _ _ l.i (omega arith) (λ k h. ap not (l.invariant k h)) (λ h. ap not (sym c.before-in-loop-i.ensures ∙ c.if-not-before.true))), omega arith)

pub loop-i-preserved : goal.loop-i-preserved
loop-i-preserved c =
    below_more _ _ c.loop-i.invariant (sym c.before-in-loop-i.ensures ∙ c.if-not-before.false)

pub returns : goal.returns
returns c =
    let l = c.loop-i in
    (sym (first-is _ _ c.args.count (omega arith) (λ k h. ap not (l.invariant k (omega arith))) (λ h. absurd (omega arith))), omega arith)
