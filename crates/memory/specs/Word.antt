-- Numbers read from bytes, low byte first.
use Rattle.std.specs.Prelude.{◌≡◌, ℕ, ◌+◌, ◌≤◌, ◌<◌, get_or}
use Rattle.rules.specs.Job.{Bytes, word}
use Rattle.memory.specs.Digits.{from_digits}

-- A number of 16 bits is the word of the rules, and no larger than 16 bits allow.
pub record WordAt (b : Bytes) (i r : ℕ) : Type 0 where
  pub is : r ≡ word b i
  pub fits : r ≤ 65535

-- Eight bytes from byte i on as one number, and that they are bytes.
abbrev pub eight_at : Bytes → ℕ → ℕ
eight_at b i = from_digits 256 (λ k. get_or b (i + k) 0) 8 0

pub record EightAt (b : Bytes) (i r : ℕ) : Type 0 where
  pub is : r ≡ eight_at b i
  pub bytes : (p : ℕ) → get_or b p 0 < 256
