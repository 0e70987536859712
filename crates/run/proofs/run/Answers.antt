-- `run::run` meets its contract: too many types, which `begin` refuses; or both phases, from where `begin` leaves the sampled types.
use native.Mathlib.Omega.{arith}
use Rattle.rules.proofs.Answers.{handed_on}
use Rattle.rules.proofs.Job.{passed_is}
use Rattle.run.proofs.Beginning.{ran-types, ran_phases, safe-first}
use Rattle.run.proofs.run.Goals as goal

pub header_of-header-requires : goal.header_of-header-requires
header_of-header-requires c = (passed_is _ c.requires.0).head

pub returns-in_err-first : goal.returns-in_err-first
returns-in_err-first c =
    ran-types (rw c.in_err-first.was at c.begin.ensures) (handed_on c.from_residual.ensures.1)

pub phases-requires : goal.phases-requires
phases-requires c =
    let p = c.requires in
    let header = c.header_of-header.ensures in
    safe-first (rw c.in_ok-first.was at c.begin.ensures) p.0 c.weights-weights.ensures (omega (arith, header.epsilon_is, header.epsilon_fits)) p.1 p.2

pub returns : goal.returns
returns c = ran_phases (rw c.in_ok-first.was at c.begin.ensures) c.requires.0 c.weights-weights.ensures c.phases.ensures
