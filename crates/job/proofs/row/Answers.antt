-- `job::row` meets its contract: the row is a part of the job, and lies within it.
use mathlib.Core.Path.{ap, ◌∙◌}
use native.Mathlib.Omega.{arith}
use lib.ListN.{length-take}
use Rattle.rules.specs.Call.{padded}
use Rattle.memory.proofs.Placed.{placed-padded}
use Rattle.job.proofs.Reading.{row_ends, row_is}
use Rattle.job.proofs.row.Goals as goal

pub overflow_mul-from : goal.overflow_mul-from
overflow_mul-from c = omega (arith, (row_ends c.args.job.now c.args.m c.args.k c.requires.0 c.requires.1 c.requires.2))

pub overflow_add-from : goal.overflow_add-from
overflow_add-from c = omega (arith, (row_ends c.args.job.now c.args.m c.args.k c.requires.0 c.requires.1 c.requires.2))

pub overflow_mul-from-2 : goal.overflow_mul-from-2
overflow_mul-from-2 c = omega (arith, (row_ends c.args.job.now c.args.m c.args.k c.requires.0 c.requires.1 c.requires.2))

pub overflow_add-from-2 : goal.overflow_add-from-2
overflow_add-from-2 c = omega (arith, (row_ends c.args.job.now c.args.m c.args.k c.requires.0 c.requires.1 c.requires.2))

pub overflow_add-to : goal.overflow_add-to
overflow_add-to c = omega (arith, (row_ends c.args.job.now c.args.m c.args.k c.requires.0 c.requires.1 c.requires.2))

pub slice_bounds-copy-end : goal.slice_bounds-copy-end
slice_bounds-copy-end c = omega (arith, (row_ends c.args.job.now c.args.m c.args.k c.requires.0 c.requires.1 c.requires.2))

pub copy-requires : goal.copy-requires
copy-requires c = simp length-take (omega (arith, (row_ends c.args.job.now c.args.m c.args.k c.requires.0 c.requires.1 c.requires.2)))

pub returns : goal.returns
returns c =
    let s = c in
    let a = s.args in
    c.copy.ensures ∙ placed-padded 64 _ ∙ ap (padded 64) (row_is a.job.now a.m a.k s.requires.0 s.requires.1 s.requires.2)
