-- Laws of answers: a refusal has a number, and an answer without one is a success.
use Rattle.std.specs.Prelude.{Result, Ok, Err, is_ok, is_err, IsErrAnd}
use Rattle.std.specs.Result.{result_unwrap_or}
use Rattle.std.proofs.lemmas.Result.{err_from_is_err_and}
use mathlib.Core.Path.{◌≡◌, refl, sym, ap, ◌∙◌}
use mathlib.Core.Bool.{true, false, false≢true}
use mathlib.Core.Logic.{◌≢◌}
use Prim.Native.Nat.{ℕ}
use native.Mathlib.Omega.{arith}
use Rattle.rules.specs.Answers.{number, Answer}
use Rattle.rules.specs.declared.Refusal.{Refusal}
use Rattle.rules.specs.declared.Refusal.TheVariants.{Area, Head, Rows, Width, Layout, Weight, State, Types, Room, Split}

pub refusal-number : (e : Refusal) → number (Err e) ≢ 0
refusal-number Area z = omega arith
refusal-number Head z = omega arith
refusal-number Rows z = omega arith
refusal-number Width z = omega arith
refusal-number (Layout place) z = omega arith
refusal-number (Weight place) z = omega arith
refusal-number (State place) z = omega arith
refusal-number (Types place) z = omega arith
refusal-number (Room place) z = omega arith
refusal-number Split z = omega arith

pub refused-number : (a : Answer) → is_err a ≡ true → number a ≢ 0
refused-number (Ok bytes) e = absurd (false≢true e)
refused-number (Err f) e = refusal-number f

pub passed-number : (a : Answer) → is_err a ≡ false → number a ≡ 0
passed-number (Ok bytes) e = refl
passed-number (Err f) e = absurd (false≢true (sym e))

pub success : (a : Answer) → number a ≡ 0 → (bytes : ℕ) × (a ≡ Ok bytes)
success (Ok bytes) z = (bytes, refl)
success (Err e) z = absurd (refusal-number e z)

-- Results that are equal are both values or both errors, and hold the same.
module _ {A E : Type 0} where
  pub ok-same : {a b : A} → ◌≡◌ {A = Result A E} (Ok a) (Ok b) → a ≡ b
  ok-same {b} e = ap (λ (r : Result A E). result_unwrap_or r b) e

  abbrev error_in : E → Result A E → E
  error_in other (Ok a) = other
  error_in other (Err e) = e

  pub err-same : {e f : E} → ◌≡◌ {A = Result A E} (Err e) (Err f) → e ≡ f
  err-same {f} e = ap (error_in f) e

  pub ok-not-err : {a : A} {e : E} → ◌≡◌ {A = Result A E} (Ok a) (Err e) → ⊥
  ok-not-err e = false≢true (sym (ap is_ok e))

-- What a `?` hands on is the error itself.
pub handed_on : {A E : Type 0} {r : Result A E} {e : E} → IsErrAnd r (λ f. f ≡ e) → r ≡ Err e
handed_on {r} h = let (f, is, same) = err_from_is_err_and r h in is ∙ ap Err same
