-- `numerals::read_number` meets its contract. A value of more bits is refused at once, since further digits make it no smaller.
use mathlib.Core.Path.{◌≡◌, ap, ◌∙◌}
use Prim.Native.Nat.{◌+◌}
use native.Mathlib.Omega.{arith}
use lib.ListN.{length}
use borrow.Author.Count.{below_none, below_more}
use Rattle.std.proofs.lemmas.Bool.Decides.{nat_tests}
use Rattle.memory.specs.Numeral.{value_of}
use Rattle.memory.proofs.numerals.Digits.{value_none, value-more, value_grows, number_is, other-is}
use Rattle.memory.proofs.numerals.read_number.Goals as goal

pub returns-then-is_empty : goal.returns-then-is_empty
returns-then-is_empty c = other-is _ (λ w. let h = w.some_digit in grind (arith, nat_tests, h))

pub loop-digit-init : goal.loop-digit-init
loop-digit-init c = (value_none _, omega arith, below_none _)

pub returns-in_err-last : goal.returns-in_err-last
returns-in_err-last c =
    rw c.from_residual.ensures (other-is _ (λ w. let d = w.digits c.loop-digit.digit-index (omega arith) in omega (arith, d, c.in_err-last.ensures.cases)))

pub returns-in_err-checked_mul : goal.returns-in_err-checked_mul
returns-in_err-checked_mul c =
    let xs = c.args.digits.now in
    let i = c.loop-digit.digit-index in
    rw c.from_residual-in_err-checked_mul.ensures (other-is _ (λ w.
    omega (arith, w.small, value-more xs i, value_grows xs (i + 1) (length xs) (omega arith), c.in_err-checked_mul.ensures)))

pub returns-in_err-value : goal.returns-in_err-value
returns-in_err-value c =
    let xs = c.args.digits.now in
    let i = c.loop-digit.digit-index in
    rw c.from_residual-in_err-value.ensures (other-is _ (λ w.
    omega (arith, w.small, value-more xs i, value_grows xs (i + 1) (length xs) (omega arith), c.in_ok-checked_mul.ensures, c.in_err-value.ensures, c.in_ok-last.ensures.cases, c.in_ok-last.ensures.value)))

pub loop-digit-preserved : goal.loop-digit-preserved
loop-digit-preserved c =
    let xs = c.args.digits.now in
    let i = c.loop-digit.digit-index in (
      omega (arith, value-more xs i, c.in_ok-checked_mul.ensures, c.in_ok-value.ensures, c.in_ok-last.ensures.cases, c.in_ok-last.ensures.value),
      omega (arith, c.in_ok-value.ensures),
      below_more _ _ c.loop-digit.invariant.2 (record { at_least = omega (arith, c.in_ok-last.ensures.cases, c.in_ok-last.ensures.value); at_most = omega (arith, c.in_ok-last.ensures.cases, c.in_ok-last.ensures.value) }),
    )

pub returns : goal.returns
returns c =
    let l = c.loop-digit in
    let xs = c.args.digits.now in
    let e : l.digit-index ≡ length xs = omega arith in
    let v : l.value ≡ value_of xs (length xs) = l.invariant.0 ∙ ap (value_of xs) e in
    number_is xs v (record { some_digit = grind (arith, nat_tests); digits = λ i h. l.invariant.2 i (omega arith); small = omega arith })
