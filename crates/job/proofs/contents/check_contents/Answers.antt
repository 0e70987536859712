-- `contents::check_contents` meets its contract: it tries what is left behind LAYOUT.
use borrow.Author.Tests.{lt-ltb, le-ltb}
use Rattle.job.proofs.contents.Stages.{laid_out}
use Prim.Native.Nat.{◌*◌, ◌≤◌, ◌<◌}
use native.Mathlib.Omega.{arith}
use Rattle.job.proofs.contents.check_contents.Goals as goal

pub returns-then-column-m : goal.returns-then-column-m
returns-then-column-m c =
    let bad : c.bad_weight-column.result < c.args.m = omega arith in
    rw (laid_out c.requires, ← c.bad_weight-column.ensures, lt-ltb _ _ bad)

pub returns-then-place-states : goal.returns-then-place-states
returns-then-place-states c =
    let good : c.args.m ≤ c.bad_weight-column.result = omega arith in
    let bad : c.bad_state-place.result < c.args.n * c.args.m = omega arith in
    rw (laid_out c.requires, ← c.bad_weight-column.ensures, le-ltb _ _ good, ← c.bad_state-place.ensures, lt-ltb _ _ bad)

pub returns : goal.returns
returns c =
    let good : c.args.m ≤ c.bad_weight-column.result = omega arith in
    let fine : c.args.n * c.args.m ≤ c.bad_state-place.result = omega arith in
    rw (laid_out c.requires, ← c.bad_weight-column.ensures, le-ltb _ _ good, ← c.bad_state-place.ensures, le-ltb _ _ fine)
