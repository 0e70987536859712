-- The lengths lent, and check 1 of them.
use Rattle.std.specs.Prelude.{ℕ, Err}
use Rattle.rules.specs.Answers.{when◌refuse◌else◌, passed, Answer}
use Rattle.rules.specs.Lent.{Lent, area_short}
use Rattle.rules.specs.declared.Refusal.TheVariants.{Area}

abbrev pub lengths : ℕ → ℕ → ℕ → ℕ → Lent
lengths result states distances links = record { result = result; states = states; distances = distances; links = links }

abbrev pub areas_answer : Lent → Answer
areas_answer lent = when area_short lent refuse Err Area else passed
