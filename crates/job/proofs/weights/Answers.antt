-- `job::weights` meets its contract: so many weights stand at the front, and zeros behind them.
use mathlib.Core.Path.{◌≡◌, ap, ◌∙◌}
use Prim.Native.Nat.{ℕ, ◌<◌}
use native.Mathlib.Omega.{arith}
use lib.ListN.{replicate}
use Rattle.graph.specs.Below.{table}
use Rattle.rules.specs.Job.{width, weight_at, weights}
use Rattle.rules.specs.Call.{padded}
use Rattle.memory.proofs.Placed.{placed-none, placed-padded, table-front}
use Rattle.job.proofs.Reading.{first-row}
use Rattle.job.proofs.weights.Goals as goal

pub loop-c-init : goal.loop-c-init
unfolding table
loop-c-init c = placed-none (replicate 64 0) 0

pub overflow_mul-c : goal.overflow_mul-c
overflow_mul-c c = omega (arith, (first-row c.args.job.now c.args.m c.requires.0 c.requires.1))

pub overflow_add-c : goal.overflow_add-c
overflow_add-c c = omega (arith, (first-row c.args.job.now c.args.m c.requires.0 c.requires.1))

pub word_at-requires : goal.word_at-requires
word_at-requires c = omega (arith, (first-row c.args.job.now c.args.m c.requires.0 c.requires.1))

pub offset_bounds-w-c : goal.offset_bounds-w-c
offset_bounds-w-c c = omega (arith, (first-row c.args.job.now c.args.m c.requires.0 c.requires.1))

pub bounds-w-c : goal.bounds-w-c
bounds-w-c c = omega (arith, (first-row c.args.job.now c.args.m c.requires.0 c.requires.1))

pub loop-c-preserved : goal.loop-c-preserved
loop-c-preserved c =
    let l = c.loop-c in
    let s = c in
    let h : l.c < 64 = omega (arith, (first-row s.args.job.now s.args.m s.requires.0 s.requires.1)) in
    table-front (replicate 64 0) l.w l.c c.word_at.result (weight_at s.args.job.now) h l.invariant c.word_at.ensures.is

pub returns : goal.returns
unfolding weights
returns c =
    let l = c.loop-c in
    let job = c.args.job.now in
    let e : l.c ≡ width job = omega arith in
    l.invariant ∙ placed-padded 64 (table l.c (weight_at job)) ∙ ap (λ (n : ℕ). padded 64 (table n (weight_at job))) e
