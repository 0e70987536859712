-- Phase I as it happens for a job.
use Rattle.rules.specs.Job.{Bytes, epsilon, weights, job_rows}
use Rattle.rules.specs.Run.{Outcome, start, PhaseOne}

abbrev pub Runs : Bytes → Outcome → Type 0
Runs job end = PhaseOne (weights job) (epsilon job) (start (job_rows job)) end
