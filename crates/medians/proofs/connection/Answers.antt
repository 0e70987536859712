-- `medians::connection` meets its contract: after c characters the cost is that of the first c.
use mathlib.Core.Path.{◌≡◌}
use mathlib.Core.Logic.{inl, inr}
use Prim.Native.Nat.{ℕ, ◌+◌, ◌*◌, ◌≤◌}
use native.Mathlib.Omega.{arith}
use lib.ListN.{get_or}
use borrow.Author.Tests.{eq-eqb, ne_eqb}
use Rattle.rules.proofs.Median.{gap}
use Rattle.rules.proofs.Between.{again}
use Rattle.medians.proofs.Costed.{none_costed, one_costed, costed_small, all_costed, gap_differ, gap-agree, again-differ, again-agree}
use Rattle.medians.proofs.connection.Goals as goal
use Rattle.medians.proofs.connection.Goals.{then-a-b, else-a-b, then-a-d+then-b-d, else-a-d, else-a-d-via-then-a-d+else-b-d, else-a-d-via-else-a-d}

pub loop-c-init : goal.loop-c-init
loop-c-init c = none_costed _ _ _ _ _

pub overflow_add-cost : goal.overflow_add-cost
overflow_add-cost c =
    omega (arith, c.requires.0.at_most c.loop-c.c (omega arith), costed_small _ _ _ _ _ c.requires.0 _ _ c.loop-c.invariant)

pub overflow_add-cost-then-b-d : goal.overflow_add-cost-then-b-d
overflow_add-cost-then-b-d c =
    let more : c.if-a-b.cost ≤ c.loop-c.cost + get_or c.args.weights.now c.loop-c.c 0 =
    elim c.if-a-b.branch [ then-a-b w ↦ omega arith | else-a-b w ↦ omega arith ] in
    omega (arith, c.requires.0.at_most c.loop-c.c (omega arith), costed_small _ _ _ _ _ c.requires.0 _ _ c.loop-c.invariant)

pub loop-c-preserved : goal.loop-c-preserved
loop-c-preserved c =
    let l = c.loop-c in
    let a = c.args in
    let state = λ (i : ℕ). get_or a.states.now (64 * i + l.c) 0 in
    let weight = c.from-weight.result in
    let first : c.if-a-b.cost ≡ l.cost + gap weight (state a.u) (state a.v) = elim c.if-a-b.branch [
      | then-a-b w ↦ gap_differ _ _ _ _ _ w.if-a-b.true w.cost-is
      | else-a-b w ↦ gap-agree _ _ _ _ _ w.if-a-b.false w.cost-is
    ] in
    let second : c.if-a-d.cost ≡ c.if-a-b.cost + again weight (state a.u) (state a.v) (state a.w) = elim c.if-a-d.branch [
      | then-a-d+then-b-d w ↦ again-differ _ _ _ _ _ _ w.if-a-d.true (ne_eqb _ _ w.if-b-d.true) w.cost-is
      | else-a-d w ↦ again-agree _ _ _ _ _ _ (elim w.else-a-d.branch [
        | else-a-d-via-then-a-d+else-b-d v ↦ inl (v.if-a-d.true, eq-eqb _ _ v.if-b-d.false)
        | else-a-d-via-else-a-d v ↦ inr v.if-a-d.false
      ]) w.cost-is
    ] in
    one_costed _ _ _ _ _ l.c _ _ (omega arith) l.invariant (rw (← c.from-weight.ensures) (omega (arith, first, second)))

pub returns : goal.returns
returns c = all_costed _ _ _ _ _ c.requires.0 c.loop-c.c _ c.requires.1 (omega arith) c.loop-c.invariant
