-- Mismatches of rows: where two of them differ; of how many characters they tell; and which are kept.
use Rattle.std.specs.Prelude.{◌≡◌, ◌⊎◌, Bool, not, cond, List, ℕ, ◌+◌, ◌*◌, ◌≤◌, ◌<◌, eqb, length, get_or}
use Rattle.rules.specs.Sizes.{most_width, most_types, row_size, line_size}
use Rattle.rules.specs.Job.{Bytes}
use Rattle.memory.specs.Digits.{from_digits}

-- One bit, and a number with a bit for each test: the lowest bit tells of character c, and so on, for n characters.
abbrev pub bit : Bool → ℕ
bit t = cond t 1 0

abbrev pub bits_of : (ℕ → Bool) → ℕ → ℕ → ℕ
bits_of p = from_digits 2 (λ c. bit (p c))

-- Rows i and j differ in character c; their mismatches.
abbrev pub differ : Bytes → ℕ → ℕ → ℕ → Bool
differ states i j c = not (eqb (get_or states (row_size * i + c) 0) (get_or states (row_size * j + c) 0))

abbrev pub mismatches_in : Bytes → ℕ → ℕ → ℕ → ℕ
mismatches_in states m i j = bits_of (differ states i j) m 0

-- No row made holds a state in character c.
abbrev pub Unused : Bytes → ℕ → ℕ → Type 0
Unused states made c = (i : ℕ) → i < made → get_or states (row_size * i + c) 0 ≡ 0

-- From character m on every row made holds zeros.
pub record Narrow (states : Bytes) (made m : ℕ) : Type 0 where
  pub at_most : m ≤ most_width
  pub zeros : (c : ℕ) → m ≤ c → c < most_width → Unused states made c

-- Mismatches that are not known.
abbrev pub unknown : ℕ
unknown = 18446744073709551614

-- Whatever is kept, 128 numbers to a row, is not known or right.
pub record Cached (states : Bytes) (m made : ℕ) (mismatches : List ℕ) : Type 0 where
  pub each : (i j : ℕ) → i < made → j < made → (get_or mismatches (line_size * i + j) unknown ≡ unknown) ⊎ (get_or mismatches (line_size * i + j) unknown ≡ mismatches_in states m i j)

-- There is room for the mismatches of all pairs of rows made, and each that is kept is right or not known.
pub record PairTable (states : Bytes) (m made : ℕ) (mismatches : List ℕ) : Type 0 where
  pub narrow : m ≤ most_width
  pub few : made ≤ most_types
  pub rows : row_size * made ≤ length states
  pub space : line_size * made ≤ length mismatches
  pub cached : Cached states m made mismatches

-- What guesses go by takes so many numbers: planes of 128 rows, and a table from their mix to a row.
abbrev pub hints_size : ℕ
hints_size = 4608
