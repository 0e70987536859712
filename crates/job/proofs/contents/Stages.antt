-- What is left of the refusals behind each stage, in the numbers that the code has read: n rows and width m.
use Rattle.std.specs.Prelude.{Err}
use mathlib.Core.Path.{◌≡◌, sym, ◌∙◌}
use mathlib.Core.Bool.{Bool, true, false, not}
use Prim.Native.Nat.{ℕ, ◌+◌, ◌*◌, ◌≤◌}
use native.Mathlib.Nat.{mul-le-mul_right}
use native.Mathlib.Omega.{arith}
use lib.Dec.{ltb, eqb}
use lib.ListN.{length}
use borrow.Author.Tests.{le-ltb, eq-eqb, ne_eqb}
use Rattle.rules.specs.Answers.{when◌refuse◌else◌, passed, Answer}
use Rattle.rules.specs.Job.{Bytes, word, outside, bad_weight, bad_state, checked}
use Rattle.rules.specs.declared.Refusal.TheVariants.{Layout, Weight, State}
use Rattle.rules.proofs.Job.{inside}
use Rattle.job.specs.Stages.{Sized, LaidOut}

-- A field that was read, held against the number that it must be.
module _ {read field y : ℕ} (is : read ≡ field) where
  pub agree : read ≡ y → eqb field y ≡ true
  agree e = eq-eqb _ _ (sym is ∙ e)

  pub differ : (read ≡ y → ⊥) → eqb field y ≡ false
  differ h = ne_eqb _ _ (λ e. h (is ∙ e))

-- What the code was told of a number that it has read, said of the field itself.
pub told : {read field : ℕ} {r t : Bool} (low high : ℕ) → r ≡ outside low high read → read ≡ field → r ≡ t → outside low high field ≡ t
told low high e is t = rw (← is) (sym e ∙ t)

-- WEIGHT and STATE.
abbrev contents : Bytes → ℕ → ℕ → Answer
contents job n m =
    when ltb (bad_weight job) m refuse Err (Weight (bad_weight job)) else
    when ltb (bad_state job) (n * m) refuse Err (State (bad_state job)) else
    passed

-- LAYOUT, and what is tried behind it.
abbrev layout : Bytes → ℕ → ℕ → Answer
layout job n m =
    when not (eqb (word job 6) 12) refuse Err (Layout 6) else
    when not (eqb (word job 8) (12 + 2 * m)) refuse Err (Layout 8) else
    when not (eqb (word job 10) (12 + 2 * m + n * m)) refuse Err (Layout 10) else
    when not (eqb (length job) (12 + 2 * m + n * m)) refuse Err (Layout 12) else
    contents job n m

module _ {job : Bytes} {n m : ℕ} where
  pub sized : Sized job n m → checked job ≡ layout job n m
  unfolding checked
  sized s =
      let r = inside 1 256 n s.some_rows s.few_rows in
      let w = inside 1 64 m s.some_width s.small_width in
      rw (le-ltb _ _ s.head, ← s.rows_are, r, ← s.width_is, w)

  pub few-states : Sized job n m → n * m ≤ 16384
  few-states s = omega (arith, mul-le-mul_right m s.few_rows)

  pub laid_out : LaidOut job n m → checked job ≡ contents job n m
  laid_out l =
      sized l.sized
      ∙ rw (eq-eqb _ _ l.weights_field, eq-eqb _ _ l.states_field, eq-eqb _ _ l.whole_field, eq-eqb _ _ l.whole)
