-- What collapsing a job's rows must do.
use Rattle.std.specs.Prelude.{◌≡◌, cond, List, length, take, Result, Ok, Err}
use Rattle.rules.specs.Answers.{when◌refuse◌else◌}
use Rattle.rules.specs.Job.{Bytes, Row, width, job_rows}
use Rattle.rules.specs.Types.{Node, rows_of, sampled, has_too_many, row129}
use Rattle.memory.specs.Placed.{placed}
use Rattle.types.specs.State.{laid, kinds_of, nodes_in}
use Rattle.types.specs.declared.sample.Sample.{Sample}
use Rattle.types.specs.declared.sample.TooMany.{TooMany}

-- The rows before the row that is the 129th type: all rows, where no row is.
unfoldable pub entered : List Row → List Row
entered rs = take (cond (has_too_many rs) (row129 rs) (length rs)) rs

-- What is told of types: how many there are, and their kinds. Kinds not in use are blank.
abbrev pub sample_of : List Node → Sample
sample_of ts = record { types = length ts; kinds = kinds_of ts }

-- What rows collapse to: exactly over 128 types the row that is the 129th type, and what is told of the rows before it; else of all rows.
abbrev pub too_many_in : List Row → TooMany
too_many_in rs = record { place = row129 rs; before = sample_of (sampled (entered rs)) }

abbrev pub collapsed_to : List Row → Result Sample TooMany
collapsed_to rs = when has_too_many rs refuse Err (too_many_in rs) else Ok (sample_of (sampled rs))

-- That is what is answered. State area and kinds, read back, are the sampled types of the rows entered, and the area past the last type is
-- as it was.
pub record Collapsed (job before after : Bytes) (r : Result Sample TooMany) : Type 0 where
  pub answered : r ≡ collapsed_to (job_rows job)
  pub read_back : let ts = sampled (entered (job_rows job)) in nodes_in (width job) (length ts) after (kinds_of ts) ≡ ts
  pub states_left : after ≡ placed before 0 (laid (rows_of (sampled (entered (job_rows job)))))
