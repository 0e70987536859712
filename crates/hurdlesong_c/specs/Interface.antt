-- What a C program is told: of a call, and of the text of its answer. The row lookup is told by `Points` of `lookup`.
use Rattle.std.specs.Prelude.{◌≡◌, cond, not, ◌&&◌, List, ℕ, ltb, eqb, length, Ok, Err}
use Rattle.rules.specs.Job.{Bytes}
use Rattle.rules.specs.Call.{answer, padded}
use Rattle.rules.specs.Text.{network_text}
use Rattle.rules.specs.declared.Link.{Link}
use Rattle.readback.specs.ReadBack.{network_back}
use Rattle.text.specs.Lines.{legible}
use Rattle.answers.specs.Told.{ToldOf}
use Rattle.answers.specs.declared.Told.{Told}
use Rattle.text.specs.Printed.{text_room, refusal_of, printed_bytes, ToldText, Printed}
use Rattle.text.specs.declared.Unprinted.TheVariants.{Short, Block}
use Rattle.network.specs.Called.{lent_by, Called}

-- The call's own promise, with the answer of the rules, and what is told of that answer.
pub record CallTold (job result states : Bytes) (distances : List ℕ) (links : List Link) (r : Told) (result' states' : Bytes) (distances' : List ℕ) (links' : List Link) : Type 0 where
  pub called : Called job result states distances links (answer (lent_by result states distances links) job) result' states' distances' links'
  pub told : ToldOf (answer (lent_by result states distances links) job) r

-- The text by number and place: the network read back from job and result block where the number is 0, else the line of a refusal.
abbrev pub text_by : Bytes → Bytes → ℕ → ℕ → Bytes
text_by job block n at = cond (eqb n 0) (network_text (network_back job block)) (refusal_of n at)

-- 80 where the memory lent is shorter; then 81 where a network is to be printed and the block is not one of this job.
abbrev pub printed_by : ℕ → Bytes → Bytes → ℕ → ℕ → Printed
printed_by lent job block n at =
    cond (ltb lent text_room) (Err Short) (cond (eqb n 0 && not (legible job block)) (Err Block) (Ok (length (text_by job block n at))))

pub record TextTold (job block : Bytes) (n at lent : ℕ) (out : Bytes) (r : Told) : Type 0 where
  pub told : ToldText (printed_by lent job block n at) r
  pub left : out ≡ padded lent (printed_bytes (printed_by lent job block n at) (text_by job block n at))
