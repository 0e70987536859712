-- A number by its digits: f c is the lowest of n digits to a base, f of c + 1 the next, and so on.
use Rattle.std.specs.Prelude.{ℕ, zero, suc, ◌+◌, ◌*◌}

unfoldable pub from_digits : ℕ → (ℕ → ℕ) → ℕ → ℕ → ℕ
from_digits base f zero c = 0
from_digits base f (suc n) c = from_digits base f n (suc c) * base + f c
