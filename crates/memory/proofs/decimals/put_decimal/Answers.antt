-- `decimals::put_decimal` meets its contract: the digits behind the first place are written, and those of what is left stand before them.
use mathlib.Core.Path.{◌≡◌, refl, sym}
use mathlib.Core.List.{append-nil}
use Prim.Native.Nat.{◌+◌, ◌-◌}
use native.Mathlib.Omega.{arith}
use lib.ListN.{length-set}
use Rattle.memory.proofs.decimals.Decimal.{written-more, written_all, written-room}
use Rattle.memory.proofs.decimals.put_decimal.Goals as goal

pub loop-left-init : goal.loop-left-init
loop-left-init c = record { twenty = refl; place = omega arith; is = sym (append-nil _) }

pub overflow_sub-first : goal.overflow_sub-first
overflow_sub-first c = written-room c.loop-left.invariant c.ranges.x.fits c.loop-left-test.true

pub loop-left-preserved : goal.loop-left-preserved
loop-left-preserved c =
    let l = c.loop-left in
    let e : l.first - 1 + 1 ≡ l.first = omega (arith, overflow_sub-first c) in
    record { twenty = simp length-set l.invariant.twenty; place = omega arith; is = rw e (written-more l.invariant c.loop-left-test.true) }

pub slice_bounds-put-end : goal.slice_bounds-put-end
slice_bounds-put-end c = simp length-set (omega arith)

pub put-requires : goal.put-requires
put-requires c =
    let left = c in
    rw (written_all left.loop-left.invariant left.loop-left-test.false) left.requires

pub returns : goal.returns
returns c =
    let left = c in
    rw (← written_all left.loop-left.invariant left.loop-left-test.false) c.put.ensures
