-- `types::find_row` meets its contract: no type passed has the row.
use mathlib.Core.Path.{sym, ◌∙◌}
use native.Mathlib.Nat.{not-suc-le-zero}
use native.Mathlib.Omega.{arith}
use borrow.Author.Count.{below_more}
use Rattle.graph.proofs.Below.{first-is}
use Rattle.types.proofs.find_row.Goals as goal

pub loop-i-init : goal.loop-i-init
loop-i-init c = λ k h. absurd (not-suc-le-zero h)

pub returns-then-same_row : goal.returns-then-same_row
returns-then-same_row c =
    let l = c.loop-i in
    sym (first-is _ _ l.i (omega arith) l.invariant (λ h. sym c.same_row.ensures ∙ c.if-same_row.true))

pub loop-i-preserved : goal.loop-i-preserved
loop-i-preserved c =
    below_more _ _ c.loop-i.invariant (sym c.same_row.ensures ∙ c.if-same_row.false)

pub returns : goal.returns
returns c =
    let l = c.loop-i in sym (first-is _ _ c.args.t (omega arith) (λ k h. l.invariant k (omega arith)) (λ h. absurd (omega arith)))
