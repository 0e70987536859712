-- `draw::draw` meets its contract: the run refuses, or its network is written up to its links.
use native.Mathlib.Omega.{arith}
use Rattle.rules.proofs.Answers.{handed_on}
use Rattle.rules.proofs.Job.{passed_is}
use Rattle.network.proofs.draw.Writable.{ready}
use Rattle.network.proofs.draw.Steps.{sketch_refused, used-short, sketch_network}
use Rattle.network.proofs.draw.draw.Goals as goal

pub returns-in_err-held : goal.returns-in_err-held
returns-in_err-held c =
    record {
      end = _;
      ran = c.run.ensures;
      wrote = sketch_refused c.requires.0 _ (rw c.in_err-held.was at c.run.ensures) (handed_on c.from_residual.ensures.1);
    }

pub header_of-header-requires : goal.header_of-header-requires
header_of-header-requires c = (passed_is _ c.requires.0).head

-- Where none refuses, the network is written.
pub write_front-front-requires : goal.write_front-front-requires
write_front-front-requires c =
    let p = c.requires in
    rw c.header_of-header.ensures.width_is (ready p.0 (rw c.in_ok-held.was at c.run.ensures) _ p.2 p.3 p.1)

pub overflow_mul-used : goal.overflow_mul-used
overflow_mul-used c =
    omega (arith, used-short c.requires.0 (rw c.in_ok-held.was at c.run.ensures) c.header_of-header.ensures.width_is c.write_front-front.ensures)

pub overflow_add-used : goal.overflow_add-used
overflow_add-used c =
    omega (arith, used-short c.requires.0 (rw c.in_ok-held.was at c.run.ensures) c.header_of-header.ensures.width_is c.write_front-front.ensures)

pub returns : goal.returns
returns c =
    record {
      end = _;
      ran = c.run.ensures;
      wrote = sketch_network c.requires.0 (rw c.in_ok-held.was at c.run.ensures) c.header_of-header.ensures.width_is c.write_front-front.ensures;
    }
