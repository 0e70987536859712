-- `fasta::make_job` meets its contract: each of its three ends leaves what Left.antt says.
use mathlib.Core.Path.{◌≡◌}
use Rattle.std.proofs.Common.{rules, Err}
use native.Mathlib.Omega.{arith}
use Rattle.fasta.proofs.Left.{sized, short-left, refusal-left, job-left}
use Rattle.fasta.proofs.make_job.Goals as goal

pub returns-then-job-lt-LARGEST_JOB : goal.returns-then-job-lt-LARGEST_JOB
returns-then-job-lt-LARGEST_JOB c = short-left _ _ _ c.clear.ensures (omega arith)

pub returns-in_err-rows : goal.returns-in_err-rows
returns-in_err-rows c =
    let e : c.from_residual.result ≡ Err c.in_err-rows.field-0.0 = search rules in
    rw e (refusal-left _ _ _ c.clear.ensures (omega arith) c.in_err-rows.ensures)

pub overflow_mul-states : goal.overflow_mul-states
overflow_mul-states c =
    let s = sized c.in_ok-rows.ensures in
    omega (arith, s.narrow)

pub overflow_add-states : goal.overflow_add-states
overflow_add-states c =
    let s = sized c.in_ok-rows.ensures in
    omega (arith, s.narrow)

pub overflow_mul-used : goal.overflow_mul-used
overflow_mul-used c =
    let s = sized c.in_ok-rows.ensures in
    omega (arith, s.room)

pub overflow_add-used : goal.overflow_add-used
overflow_add-used c =
    let s = sized c.in_ok-rows.ensures in
    omega (arith, s.room)

pub put_job_header-requires : goal.put_job_header-requires
put_job_header-requires c =
    let s = sized c.in_ok-rows.ensures in
    (s.few, s.narrow, omega arith, omega arith)

pub put_weights-requires : goal.put_weights-requires
put_weights-requires c =
    let s = sized c.in_ok-rows.ensures in
    omega (arith, s.room)

pub put_states-requires : goal.put_states-requires
put_states-requires c =
    let s = sized c.in_ok-rows.ensures in
    omega (arith, s.states_are, s.room)

pub returns : goal.returns
returns c =
    let s = sized c.in_ok-rows.ensures in
    job-left _ _ _ c.clear.ensures (omega arith) s c.put_job_header.ensures c.put_weights.ensures c.put_states.ensures
