-- The first of two answers that refuses: what it is, and what is known where neither does.
use Rattle.std.specs.Prelude.{Ok, Err}
use Rattle.std.specs.Result.{result_and}
use mathlib.Core.Path.{◌≡◌, refl}
use mathlib.Core.Logic.{◌≢◌}
use mathlib.Core.Bool.{Bool, true, false, cond}
use lib.Dec.{eqb}
use borrow.Author.Tests.{eq-eqb, ne_eqb, eqb-true, eqb-false}
use Rattle.rules.specs.Answers.{number, Answer}
use Rattle.rules.proofs.Answers.{refusal-number}
use Rattle.answers.specs.Told.{first_of}

module _ (a b : Answer) where
  pub first-refuses : number a ≢ 0 → a ≡ first_of a b
  first-refuses n = rw (ne_eqb (number a) 0 n)

  pub first_passes : number a ≡ 0 → b ≡ first_of a b
  first_passes z = rw (eq-eqb (number a) 0 z)

  pub neither-refuses : number (first_of a b) ≡ 0 → (number a ≡ 0) × (number b ≡ 0)
  neither-refuses = go (eqb (number a) 0) refl
    where
      go : (t : Bool) → eqb (number a) 0 ≡ t → number (cond t b a) ≡ 0 → (number a ≡ 0) × (number b ≡ 0)
      go true e z = (eqb-true _ _ e, z)
      go false e z = absurd (eqb-false _ _ e z)

-- `and` of the library gives the same: a refusal's number is not 0.
pub and-first : (a b : Answer) → result_and a b ≡ first_of a b
and-first (Ok used) b = refl
and-first (Err e) b = first-refuses (Err e) b (refusal-number e)
