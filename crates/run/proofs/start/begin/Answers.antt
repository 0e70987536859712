-- `start::begin` meets its contract: the rows collapse into cleared memory, to too many types, or to few, whose distances are measured.
use mathlib.Core.Path.{ap, ◌∙◌}
use native.Mathlib.Omega.{arith}
use lib.ListN.{replicate, length-replicate}
use Rattle.rules.proofs.Job.{passed_is}
use Rattle.types.proofs.sample.Collapsed.{collapsed-many}
use Rattle.run.proofs.start.Beginning.{job-weighed, sample_few, states-lent, begun_first, begun-none}
use Rattle.run.proofs.start.begin.Goals as goal

pub header_of-header-requires : goal.header_of-header-requires
header_of-header-requires c = (passed_is _ c.requires.0).head

pub returns-in-Err : goal.returns-in-Err
returns-in-Err c =
    let (many, is) = collapsed-many c.collapse.ensures c.in-Err.is in
    let same_size = c.collapse.auto.states ∙ c.clear.auto.cells in
    let zeros = c.clear-in-Err.ensures ∙ ap (λ n. replicate n 0) same_size in
    rw is (begun-none _ many zeros c.clear-2.ensures)

-- The rows were collapsed into zeros, and there are not too many types.
pub measure-requires : goal.measure-requires
measure-requires c =
    let p = c.requires in
    let collapsed = rw c.clear.ensures at c.collapse.ensures in
    let few = sample_few _ p.0 p.2 collapsed c.in-Ok.is in (
      rw p.1 (job-weighed _ p.0),
      few,
      omega (arith, few, states-lent _ p.0 p.2 collapsed c.in-Ok.is, p.2),
      rw (c.clear-2.ensures, length-replicate) p.3,
    )

pub returns-in-Ok : goal.returns-in-Ok
returns-in-Ok c =
    let p = c.requires in
    let collapsed = rw c.clear.ensures at c.collapse.ensures in
    rw c.header_of-header.ensures.epsilon_is (begun_first _ p.0 p.2 collapsed c.in-Ok.is _ p.1 c.clear-2.ensures c.measure.ensures)
