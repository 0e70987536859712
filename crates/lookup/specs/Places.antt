-- Where the states of a type lie, told in numbers.
use Rattle.std.specs.Prelude.{◌≡◌, ℕ, length}
use Rattle.rules.specs.Job.{Bytes}
use Rattle.rules.specs.Lookup.{Part, in_job, in_result, nowhere, part_of, lookup}
use Rattle.lookup.specs.declared.Place.{Place}

abbrev pub source_of : Part → ℕ
source_of (in_job at) = 1
source_of (in_result at) = 2
source_of nowhere = 0

abbrev pub start_of : Part → ℕ
start_of (in_job at) = at
start_of (in_result at) = at
start_of nowhere = 0

-- These numbers tell the part that the lookup finds for type k.
pub record Points (job block : Bytes) (k : ℕ) (r : Place) : Type 0 where
  pub source_is : r.source ≡ source_of (part_of job block k)
  pub at_is : r.at ≡ start_of (part_of job block k)
  pub length_is : r.length ≡ length (lookup job block k)
