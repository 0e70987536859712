-- `alignment::take_state` meets its contract: the faults in their order, and else one state more.
use Prim.Native.Nat.{◌≤◌, ◌<◌}
use native.Mathlib.Omega.{arith}
use Rattle.fasta.specs.Refusals.{held}
use Rattle.fasta.proofs.alignment.Faults.{wide_is, state-passes}
use Rattle.fasta.proofs.alignment.Counted.{taken-fault, taken-passed, last-within, held-is, one_more}
use Rattle.fasta.proofs.alignment.take_state.Goals as goal

pub bounds-lengths-begun : goal.bounds-lengths-begun
bounds-lengths-begun c = last-within _ _ c.requires.1 (omega arith)

pub returns-then-full : goal.returns-then-full
returns-then-full c =
    let (s, counted) = c.requires in
    let some : 1 ≤ c.args.begun = omega arith in
    let full : 64 ≤ held c.args.text.now c.args.i = omega (arith, held-is _ _ counted some) in
    taken-fault _ _ (wide_is _ _ s (omega (arith, counted.begun_is)) (cc) full) counted.lengths_are

pub bounds-lengths-begun-2 : goal.bounds-lengths-begun-2
bounds-lengths-begun-2 c = last-within _ _ c.requires.1 (omega arith)

pub bounds-lengths-begun-3 : goal.bounds-lengths-begun-3
bounds-lengths-begun-3 c = last-within _ _ c.requires.1 (omega arith)

pub returns : goal.returns
returns c =
    let (s, counted) = c.requires in
    let some : 1 ≤ c.args.begun = omega arith in
    let room : held c.args.text.now c.args.i < 64 = omega (arith, held-is _ _ counted some) in
    taken-passed _ _ (state-passes _ _ s (omega (arith, counted.begun_is)) (cc) room) (one_more _ _ counted some s)
