-- Where a row stands among the rows made and those gathered since, and the guess for it.
use Rattle.std.specs.Prelude.{Bool, cond, ◌&&◌, List, ℕ, zero, suc, ◌+◌, ◌*◌, ◌-◌, ◌%◌, ltb, get_or, replicate, set}
use Rattle.graph.specs.Below.{sum, first}
use Rattle.rules.specs.Sizes.{row_size}
use Rattle.rules.specs.Job.{Bytes}
use Rattle.rules.specs.Types.{is_same_row}
use Rattle.types.specs.State.{stored_at}

-- The row of a number: first those made, then those gathered.
abbrev pub row_of : Bytes → ℕ → Bytes → ℕ → Bytes
row_of states made gathered i = cond (ltb i made) (stored_at states i) (stored_at gathered (i - made))

-- The first number whose row is this one, or made + count where none is.
unfoldable pub known_at : Bytes → ℕ → Bytes → ℕ → Bytes → ℕ
known_at states made gathered count row =
    let i = first made (λ i. is_same_row (stored_at states i) row) in
    cond (ltb i made) i (made + first count (λ k. is_same_row (stored_at gathered k) row))

-- So many guesses are kept.
abbrev pub guesses_size : ℕ
guesses_size = 4096

-- The place of a row's guess: its bytes, mixed.
unfoldable pub slot_of : Bytes → ℕ
slot_of row = sum row_size (λ c. get_or row c 0 * (13 * c * c + 4801)) % guesses_size

-- The guess is a number in use, and its row is this one.
abbrev pub right_guess : Bytes → ℕ → Bytes → ℕ → List ℕ → Bytes → Bool
right_guess states made gathered count guesses row =
    let guess = get_or guesses (slot_of row) 0 in
    ltb guess (made + count) && is_same_row (row_of states made gathered guess) row

-- The guesses when each of the rows made has guessed its own number, one after the other.
unfoldable pub guesses_of : Bytes → ℕ → List ℕ
guesses_of states zero = replicate guesses_size 256
guesses_of states (suc i) = set (guesses_of states i) (slot_of (stored_at states i)) i
