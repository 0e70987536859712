-- What is told of an answer: its number, its place and the bytes used.
use Rattle.std.specs.Prelude.{◌≡◌, cond, ℕ, eqb}
use Rattle.rules.specs.Answers.{number, place, used, Answer}
use Rattle.answers.specs.declared.Told.{Told}

pub record Tells (n at bytes : ℕ) (r : Told) : Type 0 where
  pub number_is : r.number ≡ n
  pub place_is : r.place ≡ at
  pub used_is : r.used ≡ bytes

abbrev pub ToldOf : Answer → Told → Type 0
ToldOf answer r = Tells (number answer) (place answer) (used answer) r

-- The first of two answers that refuses.
abbrev pub first_of : Answer → Answer → Answer
first_of a b = cond (eqb (number a) 0) b a
