-- A job is answered, and its answer printed: what the call promises, and the text of RULES 15.
use Rattle.std.specs.Prelude.{◌≡◌, cond, [], ℕ, ◌≤◌, ltb, length, Ok, Err}
use Rattle.rules.specs.Sizes.{most_links, state_area, distance_area}
use Rattle.rules.specs.Job.{Bytes}
use Rattle.rules.specs.Lent.{Lent, least}
use Rattle.rules.specs.Call.{answer, padded, result_after}
use Rattle.rules.specs.Text.{printed}
use Rattle.rules.specs.Answers.{Answer}
use Rattle.text.specs.Printed.{text_room, Printed}
use Rattle.text.specs.declared.Unprinted.TheVariants.{Short}

-- A result of so many bytes, and of all else the least that may be lent.
abbrev pub least_beside : ℕ → Lent
least_beside n = record { result = n; states = state_area; distances = distance_area; links = most_links }

-- The answer, and what is left in the result.
pub record AnsweredJob (job result : Bytes) (r : Answer) (result' : Bytes) : Type 0 where
  pub answered : r ≡ answer (least_beside (length result)) job
  pub left : result' ≡ result_after (least_beside (length result)) job

-- A text in memory of some length: there is room for every text, or nothing is written.
abbrev pub printed_in : ℕ → Bytes → Printed
printed_in lent xs = cond (ltb lent text_room) (Err Short) (Ok (length xs))

-- A text alone, and its length: nothing where there is no room for every text.
abbrev pub shown : ℕ → Bytes → Bytes
shown lent xs = cond (ltb lent text_room) [] xs

pub record Shown (xs out : Bytes) (r : ℕ) (out' : Bytes) : Type 0 where
  pub used_is : r ≡ length (shown (length out) xs)
  pub left : out' ≡ padded (length out) (shown (length out) xs)
  -- this follows, and is said so that a caller may take the text as a part
  pub within : r ≤ length out'

-- The text of a call with the least memory that may be lent.
abbrev pub TextOnly : Bytes → Bytes → ℕ → Bytes → Type 0
TextOnly job out r out' = Shown (printed least job) out r out'
