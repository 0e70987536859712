-- `types::same_row` meets its contract: the bytes passed were equal.
use mathlib.Core.Path.{sym, ap, ◌∙◌}
use Prim.Native.Nat.{◌*◌}
use native.Mathlib.Nat.{not-suc-le-zero}
use native.Mathlib.Omega.{arith}
use lib.ListN.{get_or}
use Rattle.graph.proofs.Below.{is_false}
use Rattle.rules.specs.Job.{Row}
use Rattle.rules.proofs.Rows.{same_row}
use Rattle.types.proofs.State.{stored_at-state, stored_at-is}
use Rattle.types.proofs.Eight.{alike_eight, eight_alike}
use Rattle.types.proofs.same_row.Goals as goal

pub loop-k-init : goal.loop-k-init
loop-k-init c = λ x h. absurd (not-suc-le-zero h)

pub returns-then-eight_at : goal.returns-then-eight_at
returns-then-eight_at c =
    let l = c in
    let a = l.args in
    sym (is_false _ (λ t. c.if-eight_at.true (
    c.eight_at.ensures.is
    ∙ alike_eight a.states.now a.row.now (64 * a.i) l.loop-k.k {n = 64} (omega arith)
    (λ x h. sym (stored_at-state a.states.now a.i x h) ∙ ap (λ (r : Row). get_or r x 0) ((same_row _ _).0 t))
    ∙ sym c.eight_at-in-loop-k.ensures.is)))

pub loop-k-preserved : goal.loop-k-preserved
loop-k-preserved c =
    let first = c.eight_at.ensures in
    let second = c.eight_at-in-loop-k.ensures in
    let l = c in
    let a = l.args in
    eight_alike a.states.now a.row.now (64 * a.i) l.loop-k.k
    first.bytes
    second.bytes
    l.loop-k.invariant
    (sym first.is ∙ c.if-eight_at.false ∙ second.is)

pub returns : goal.returns
returns c =
    let a = c.args in
    sym ((same_row _ _).1
    (stored_at-is a.states.now a.i a.row.now (omega arith) (omega arith) (λ k h. c.loop-k.invariant k (omega arith))))
