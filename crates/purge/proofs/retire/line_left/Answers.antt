-- `retire::line_left` meets its contract: the cells of the line are passed column by column.
use mathlib.Core.Path.{sym}
use mathlib.Core.List.{List}
use Prim.Native.Nat.{ℕ, ◌<◌}
use native.Mathlib.Omega.{arith}
use lib.ListN.{get_or}
use Rattle.distances.proofs.Area.{all-passed}
use Rattle.purge.proofs.retire.Squeezed.{squeezed-stays, squeezed-none, cell-squeezed}
use Rattle.purge.proofs.retire.line_left.Goals as goal
use Rattle.purge.proofs.retire.line_left.Goals.{then-a-b+then-b-count, else-a-b, else-a-b-via-then-a-b+else-b-count, else-a-b-via-else-a-b}

-- Both types stay where a distance is read, and their places lie below t.
record Read (kept : List ℕ) (count t a b : ℕ) : Type 0 where
  stays : b < count
  line : get_or kept a 0 < t
  column : get_or kept b 0 < t

pub loop-b-preserved : goal.loop-b-preserved
loop-b-preserved c =
    let l = c.loop-b in
    let a = c.args in
    let stored = cell-squeezed c.requires.0 c.requires.2 l.invariant (omega arith) in
    elim c.if-a-b.branch [
      | then-a-b+then-b-count v ↦
          rw v.area-is (stored _ (sym (squeezed-stays a.kept.now a.count l.area a.a l.b v.if-a-b.true v.if-b-count.true)))
      | else-a-b v ↦
          rw v.area-is (stored 0 (sym (squeezed-none a.kept.now a.count l.area a.a l.b (λ g k. elim v.else-a-b.branch [
            | else-a-b-via-then-a-b+else-b-count u ↦ omega (arith, u.if-b-count.false)
            | else-a-b-via-else-a-b u ↦ omega (arith, u.if-a-b.false)
          ]))))
    ]

pub returns : goal.returns
returns c = all-passed c.loop-b.invariant (omega arith)
