-- `mismatches::find_mismatches` meets its contract: from character c on the bits are those asked for.
use mathlib.Core.Path.{refl}
use native.Mathlib.Omega.{arith}
use Rattle.memory.proofs.Digits.{none_spelt, one_spelt}
use Rattle.triplets.specs.Mismatches.{differ}
use Rattle.triplets.proofs.mismatches.Mismatches.{one-bit-fits}
use Rattle.triplets.proofs.mismatches.find_mismatches.Goals as goal

pub loop-c-init : goal.loop-c-init
loop-c-init c = none_spelt _ _ _

pub overflow_mul-bits : goal.overflow_mul-bits
overflow_mul-bits c =
    let s = c.args in
    omega (arith, one-bit-fits (differ s.states.now s.i s.j) _ _ _ _ (omega arith) (omega arith) c.loop-c.invariant refl)

pub overflow_add-bits : goal.overflow_add-bits
overflow_add-bits c =
    let s = c.args in
    omega (arith, one-bit-fits (differ s.states.now s.i s.j) _ _ _ _ (omega arith) (omega arith) c.loop-c.invariant c.unlike.ensures)

pub loop-c-preserved : goal.loop-c-preserved
loop-c-preserved c = one_spelt _ _ _ c.loop-c.c c.loop-c.bits _ (omega arith) c.loop-c.invariant c.unlike.ensures
