-- A text that was read whole lies within the memory that it was read into, and is all that the reader had.
use Rattle.std.specs.Prelude.{List, ℕ, ◌≤◌, Option, Result, Ok, Err, length, slice_range}
use Rattle.std.specs.Io.KnownBytes.{Consumes, IsAtEnd}
use Rattle.hurdlesong_fasta.specs.declared.Unread.{Unread}

abbrev pub Fits : Result ℕ Unread → List ℕ → Type 0
Fits (Ok size) text = size ≤ length text
Fits (Err unread) text = Unit {0}

-- What stands behind what was read before is what the reader has handed out since, and it has no more.
abbrev pub TakesAll : Result ℕ Unread → ℕ → List ℕ → Option (List ℕ) → Option (List ℕ) → Type 0
TakesAll (Ok size) from text old new = Consumes old new (slice_range text from size) × IsAtEnd new
TakesAll (Err unread) from text old new = Unit {0}
