-- A number of 16 bits in decimal digits.
use Rattle.std.specs.Prelude.{Bool, cond, not, ◌&&◌, ℕ, zero, suc, ◌+◌, ◌*◌, ◌-◌, ltb, length, get_or, Option, Some, None}
use Rattle.graph.specs.Below.{every}
use Rattle.rules.specs.Job.{Bytes, outside}

-- `0` to `9`.
abbrev pub is_digit : ℕ → Bool
is_digit x = not (outside 48 57 x)

-- The number that the first i digits write.
unfoldable pub value_of : Bytes → ℕ → ℕ
value_of xs zero = 0
value_of xs (suc i) = 10 * value_of xs i + (get_or xs i 0 - 48)

-- At least one byte, and digits alone.
unfoldable pub is_decimal : Bytes → Bool
is_decimal xs = ltb 0 (length xs) && every (length xs) (λ i. is_digit (get_or xs i 0))

-- The number, where it has at most 16 bits.
unfoldable pub numeral : Bytes → Option ℕ
numeral xs =
    let value = value_of xs (length xs) in
    cond (is_decimal xs && not (ltb 65535 value)) (Some value) None
