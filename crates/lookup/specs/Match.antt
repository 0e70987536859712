-- A job and a result block match: the job passes checks 2 to 7, and the block's header is one of the job's width.
use Rattle.std.specs.Prelude.{Bool, ◌&&◌, eqb}
use Rattle.rules.specs.Answers.{number}
use Rattle.rules.specs.Job.{Bytes, width, checked}
use Rattle.rules.specs.Lookup.{types_in, sampled_types, header_fits}

abbrev pub matches : Bytes → Bytes → Bool
matches job block = eqb (number (checked job)) 0 && header_fits (width job) block (types_in block) (sampled_types block)
