-- What the text of an answer is, and what is left in the memory lent for it.
use Rattle.std.specs.Prelude.{◌≡◌, cond, not, ◌&&◌, [], ◌++◌, ℕ, ◌+◌, ◌*◌, ◌≤◌, ltb, eqb, length, Result, Ok, Err}
use Rattle.rules.specs.Result.{records_offset}
use Rattle.rules.specs.Answers.{number, Answer}
use Rattle.rules.specs.Job.{Bytes, word}
use Rattle.rules.specs.Call.{refused, padded}
use Rattle.rules.specs.Text.{text, say, network_text, verdict_text}
use Rattle.readback.specs.ReadBack.{network_back}
use Rattle.text.specs.Lines.{legible, Legible}
use Rattle.answers.specs.Told.{Tells}
use Rattle.answers.specs.declared.Told.{Told}
use Rattle.text.specs.declared.Unprinted.{Unprinted}
use Rattle.text.specs.declared.Unprinted.TheVariants.{Short, Block}

-- How a text ends: with so many bytes, or without a text.
abbrev pub Printed : Type 0
Printed = Result ℕ Unprinted

-- The numbers of these answers, and the bytes used; the place is 0.
abbrev pub printed_number : Printed → ℕ
printed_number (Ok used) = 0
printed_number (Err Short) = 80
printed_number (Err Block) = 81

abbrev pub printed_used : Printed → ℕ
printed_used (Ok used) = used
printed_used (Err Short) = 0
printed_used (Err Block) = 0

abbrev pub ToldText : Printed → Told → Type 0
ToldText printed r = Tells (printed_number printed) 0 (printed_used printed) r

-- At least so many bytes are to be lent for a text: the longest that any result block can give.
abbrev pub text_room : ℕ
text_room = 172718

-- The network read back from job and result block, or the line of the refusal.
abbrev pub text_of : Bytes → Bytes → Answer → Bytes
text_of job block answer = cond (eqb (number answer) 0) (network_text (network_back job block)) (verdict_text (refused answer))

-- A refusal is one line.
abbrev pub refusal_of : ℕ → ℕ → Bytes
refusal_of number place = say "refused " number ++ say " " place ++ text "\n"

-- So many bytes are enough for the line of a refusal, and so many for the network of a block, by the types and links that it says it has.
abbrev pub line_room : ℕ
line_room = 50

abbrev pub network_room : Bytes → ℕ
network_room block = 46 + 79 * word block 0 + 20 * word block 6

-- So many for the text of an answer. A block without a header is not printed.
unfoldable pub brief_room : Bytes → Answer → ℕ
brief_room block answer = cond (eqb (number answer) 0) (cond (ltb (length block) records_offset) 0 (network_room block)) line_room

-- The text of an answer has room in so many bytes, if there is a text.
abbrev pub Suffices : Bytes → Bytes → Answer → ℕ → Type 0
Suffices job block answer room = (number answer ≡ 0 → Legible job block) → brief_room block answer ≤ room

-- 80 where the memory lent is shorter than asked for; then 81 where a network is to be printed and the block is not one of this job.
abbrev pub printed_within : ℕ → ℕ → Bytes → Bytes → Answer → Printed
printed_within room lent job block answer =
    let done : Printed = (Ok (length (text_of job block answer))) in
    cond (ltb lent room) (Err Short) (cond (eqb (number answer) 0 && not (legible job block)) (Err Block) done)

-- Room for every text is asked for.
unfoldable pub printed_as : ℕ → Bytes → Bytes → Answer → Printed
printed_as lent job block answer = printed_within text_room lent job block answer

-- Nothing is half written.
abbrev pub printed_bytes : Printed → Bytes → Bytes
printed_bytes (Ok used) xs = xs
printed_bytes (Err Short) xs = []
printed_bytes (Err Block) xs = []

-- The line of a refusal alone: 80 where the memory lent is shorter than asked for.
abbrev pub refusal_within : ℕ → ℕ → ℕ → ℕ → Printed
refusal_within room lent number place = cond (ltb lent room) (Err Short) (Ok (length (refusal_of number place)))

abbrev pub refusal_as : ℕ → ℕ → ℕ → Printed
refusal_as lent number place = refusal_within text_room lent number place

pub record RefusalWithin (number place room lent : ℕ) (out : Bytes) (r : Printed) : Type 0 where
  pub answered : r ≡ refusal_within room lent number place
  pub left : out ≡ padded lent (printed_bytes (refusal_within room lent number place) (refusal_of number place))

pub record RefusalLeft (number place lent : ℕ) (out : Bytes) (r : Printed) : Type 0 where
  pub answered : r ≡ refusal_as lent number place
  pub left : out ≡ padded lent (printed_bytes (refusal_as lent number place) (refusal_of number place))

pub record TextWithin (job block : Bytes) (answer : Answer) (room lent : ℕ) (out : Bytes) (r : Printed) : Type 0 where
  pub answered : r ≡ printed_within room lent job block answer
  pub left : out ≡ padded lent (printed_bytes (printed_within room lent job block answer) (text_of job block answer))

pub record TextLeft (job block : Bytes) (answer : Answer) (lent : ℕ) (out : Bytes) (r : Printed) : Type 0 where
  pub answered : r ≡ printed_as lent job block answer
  pub left : out ≡ padded lent (printed_bytes (printed_as lent job block answer) (text_of job block answer))

-- Room for this text alone is asked for.
unfoldable pub brief_as : ℕ → Bytes → Bytes → Answer → Printed
brief_as lent job block answer = printed_within (brief_room block answer) lent job block answer

pub record BriefLeft (job block : Bytes) (answer : Answer) (lent : ℕ) (out : Bytes) (r : Printed) : Type 0 where
  pub answered : r ≡ brief_as lent job block answer
  pub left : out ≡ padded lent (printed_bytes (brief_as lent job block answer) (text_of job block answer))
  -- this follows, and is said so that a caller may take the text as a part
  pub within : printed_used r ≤ length out
