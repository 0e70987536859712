-- `spans::settle` meets its contract: the lines behind place k - 2 are settled.
use mathlib.Core.Path.{◌≡◌, refl}
use Prim.Native.Nat.{ℕ, ◌+◌, ◌-◌, ◌≤◌, min}
use native.Mathlib.Omega.{arith}
use lib.ListN.{get_or}
use Rattle.spans.proofs.Lines.{settling_none, settling_more}
use Rattle.spans.proofs.settle.Goals as goal

pub loop-k-init : goal.loop-k-init
loop-k-init c = (refl, settling_none (omega arith) c.requires.1)

pub loop-k-preserved : goal.loop-k-preserved
loop-k-preserved c =
    let (long, m) = c.loop-k.invariant in
    let (few, room) = c.lanes-wide.ensures in
    let lined = c.requires.1 in
    let k = c.loop-k.k in
    let e : k ≡ k - 1 + 1 = omega arith in
    let (f, line) = c.step_line.ensures in
    let w = line min (λ old far new h. omega arith) in
    let small : (i : ℕ) → get_or c.args.steps.now i 0 ≤ 65535 = λ i. omega (arith, c.fits-steps i) in
    (omega arith, settling_more few room long lined.types lined.once small refl (omega arith) (omega arith) (rw e at m) f w)
