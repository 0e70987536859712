-- Writing into a part of what is lent: xs stand from a place on, and the rest is as it was.
use Rattle.std.specs.Prelude.{◌≡◌, List, ◌++◌, ℕ, ◌+◌, length, take, drop}

unfoldable pub placed : {A : Type 0} → List A → ℕ → List A → List A
placed b at xs = take at b ++ xs ++ drop (at + length xs) b

-- xs were written at a place, the rest is as it was, and r is the place behind them.
pub record Follows {A : Type 0} (b : List A) (at : ℕ) (xs b' : List A) (r : ℕ) : Type 0 where
  pub is : b' ≡ placed b at xs
  pub behind : r ≡ at + length xs
