-- How far the refusals have been tried: what one check hands to the next.
use Rattle.std.specs.Prelude.{◌≡◌, ℕ, ◌+◌, ◌*◌, ◌≤◌, length}
use Rattle.rules.specs.Sizes.{most_rows, most_width, job_head}
use Rattle.rules.specs.Job.{Bytes, word, rows, width, weights_offset}

-- HEAD, ROWS and WIDTH are not given, for a job of n rows and width m.
pub record Sized (job : Bytes) (n m : ℕ) : Type 0 where
  pub head : job_head ≤ length job
  pub rows_are : n ≡ rows job
  pub some_rows : 1 ≤ n
  pub few_rows : n ≤ most_rows
  pub width_is : m ≡ width job
  pub some_width : 1 ≤ m
  pub small_width : m ≤ most_width

-- Nor is LAYOUT.
pub record LaidOut (job : Bytes) (n m : ℕ) : Type 0 where
  pub sized : Sized job n m
  pub weights_field : word job 6 ≡ weights_offset
  pub states_field : word job 8 ≡ job_head + 2 * m
  pub whole_field : word job 10 ≡ job_head + 2 * m + n * m
  pub whole : length job ≡ job_head + 2 * m + n * m
