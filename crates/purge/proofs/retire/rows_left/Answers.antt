-- `retire::rows_left` meets its contract: so many rows are parted.
use native.Mathlib.Omega.{arith}
use Rattle.purge.proofs.retire.Parted.{none-parted, same_size, few-stay, one-stays, one-goes}
use Rattle.purge.proofs.retire.rows_left.Goals as goal
use Rattle.purge.proofs.retire.rows_left.Goals.{then-a-count+then-kept-a, else-a-count, else-a-count-via-then-a-count+else-kept-a, else-a-count-via-else-a-count}

pub loop-i-init : goal.loop-i-init
loop-i-init c = let p = c.requires in none-parted p.0 p.1 p.3

pub to_the_end-requires : goal.to_the_end-requires
to_the_end-requires c =
    let p = c.loop-i.invariant in
    (omega (arith, few-stay p), omega arith, omega (arith, same_size p))

pub loop-i-preserved : goal.loop-i-preserved
loop-i-preserved c =
    let p = c.loop-i.invariant in
    let h = c.loop-i-test.true in
    elim c.if-a-count.branch [
      | then-a-count+then-kept-a w ↦ rw (w.states-is, w.a-is) (one-stays p h (w.if-a-count.true, w.if-kept-a.true))
      | else-a-count w ↦
          rw (w.states-is, w.to_the_end.ensures, w.a-is)
          (one-goes p h (λ n. elim w.else-a-count.branch [
            | else-a-count-via-then-a-count+else-kept-a v ↦ v.if-kept-a.false n.1
            | else-a-count-via-else-a-count v ↦ omega (arith, v.if-a-count.false, n.0)
          ]))
    ]
