-- `ascending::before` meets its contract: every byte passed was equal.
use mathlib.Core.Path.{◌≡◌, sym, ap, ◌∙◌}
use Prim.Native.Nat.{ℕ, ◌+◌, ◌*◌, ◌≤◌}
use native.Mathlib.Omega.{arith}
use lib.Dec.{ltb}
use lib.ListN.{get_or}
use borrow.Author.Count.{below_none, below_more}
use Rattle.types.specs.State.{stored_at}
use Rattle.types.proofs.State.{length-stored_at, stored_at-state, stored_at-is}
use Rattle.round.proofs.ascending.Compared.{before_same, differ-at}
use Rattle.round.proofs.ascending.before.Goals as goal

pub loop-c-init : goal.loop-c-init
loop-c-init c = below_none _

pub returns-then-rows-at : goal.returns-then-rows-at
returns-then-rows-at c =
    let b = c in
    let a = b.args in
    let k = b.loop-c.c in
    let at : (j : ℕ) → j ≤ k → get_or (stored_at a.rows.now a.i) j 0 ≡ get_or a.rows.now (64 * a.i + j) 0 =
    λ j h. stored_at-state a.rows.now a.i j (omega arith) in
    let n = length-stored_at a.rows.now a.i (omega arith) in
    sym (differ-at _ a.row.now k (omega arith) (omega arith) (λ j h. at j (omega arith) ∙ b.loop-c.invariant j h) (λ e. c.if-rows-at.true (sym (at k (omega arith)) ∙ e))
    ∙ ap (λ (x : ℕ). ltb x (get_or a.row.now k 0)) (at k (omega arith)))

pub loop-c-preserved : goal.loop-c-preserved
loop-c-preserved c = below_more _ _ c.loop-c.invariant c.if-rows-at.false

pub returns : goal.returns
returns c =
    let a = c.args in
    sym (before_same _ _
    (stored_at-is a.rows.now a.i a.row.now (omega arith) (omega arith) (λ k h. c.loop-c.invariant k (omega arith))))
