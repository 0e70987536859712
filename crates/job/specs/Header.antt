-- What the header says.
use Rattle.std.specs.Prelude.{◌≡◌, ◌≤◌}
use Rattle.rules.specs.Job.{Bytes, rows, width, epsilon}
use Rattle.job.specs.declared.Header.{Header}

pub record HeaderOf (job : Bytes) (r : Header) : Type 0 where
  pub rows_are : r.rows ≡ rows job
  pub width_is : r.width ≡ width job
  pub epsilon_is : r.epsilon ≡ epsilon job
  pub epsilon_fits : r.epsilon ≤ 65535
