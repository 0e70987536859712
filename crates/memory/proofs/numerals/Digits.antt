-- What bytes that write a number of 16 bits are like, and that more digits write no smaller a number.
use mathlib.Core.Path.{◌≡◌, refl}
use mathlib.Core.Logic.{◌↔◌}
use mathlib.Core.Bool.{Bool, true, not, ◌&&◌, and-eq-true_iff}
use Prim.Native.Nat.{ℕ, zero, suc, ◌+◌, ◌*◌, ◌-◌, ◌≤◌, ◌<◌}
use native.Mathlib.Nat.{add-zero, add-suc}
use native.Mathlib.Numerals.{add-one}
use native.Mathlib.Omega.{arith}
use lib.Dec.{ltb}
use lib.ListN.{length, get_or}
use borrow.Author.Tests.{lt-ltb, le-ltb, ltb-true, ltb-false, not-true}
use Rattle.graph.specs.Below.{every}
use Rattle.graph.proofs.Below.{is_false, every_true}
use Rattle.rules.specs.Job.{Bytes}
use Rattle.rules.proofs.Job.{Within, within, inside}
use Rattle.memory.specs.Numeral.{is_digit, value_of, is_decimal, numeral}
use Rattle.std.specs.Prelude.{Some, None}

module _ (xs : Bytes) where
  pub value_none : 0 ≡ value_of xs 0
  unfolding value_of
  value_none = refl

  pub value-more : (i : ℕ) → value_of xs (i + 1) ≡ 10 * value_of xs i + (get_or xs i 0 - 48)
  unfolding value_of
  value-more i = rw add-one

  grows : (i k : ℕ) → value_of xs i ≤ value_of xs (i + k)
  unfolding value_of
  grows i zero = rw add-zero (omega arith)
  grows i (suc k) = rw (add-suc, value_of) (omega (arith, grows i k))

  -- The first digits write no more than all of them.
  pub value_grows : (i n : ℕ) → i ≤ n → value_of xs i ≤ value_of xs n
  value_grows i n h = let e : i + (n - i) ≡ n = omega arith in rw e at (grows i (n - i))

  -- What is so of bytes that write a number of 16 bits.
  pub record Writes : Type 0 where
    pub some_digit : 0 < length xs
    pub digits : (i : ℕ) → i < length xs → Within 48 57 (get_or xs i 0)
    pub small : value_of xs (length xs) ≤ 65535

  test_true : (is_decimal xs && not (ltb 65535 (value_of xs (length xs))) ≡ true) ↔ Writes
  unfolding is_decimal
  test_true =
      let digit : ℕ → Bool = λ i. is_digit (get_or xs i 0) in
      let both = and-eq-true_iff (is_decimal xs) (not (ltb 65535 (value_of xs (length xs)))) in
      let decimal = and-eq-true_iff (ltb 0 (length xs)) (every (length xs) digit) in
      let all = every_true (length xs) digit in (
        λ e. let d = decimal.0 (both.0 e).0 in record {
          some_digit = ltb-true _ _ d.0;
          digits = λ i h. within 48 57 _ (not-true _ (all.0 d.1 i h));
          small = ltb-false _ _ (not-true _ (both.0 e).1);
        },
        λ w. both.1 (
          decimal.1 (lt-ltb _ _ w.some_digit, all.1 (λ i h. rw (inside 48 57 _ (w.digits i h).at_least (w.digits i h).at_most))),
          rw (le-ltb 65535 _ w.small),
        ),
      )

  -- Such bytes are read as their number, and all others as none.
  pub number_is : {value : ℕ} → value ≡ value_of xs (length xs) → Writes → Some value ≡ numeral xs
  unfolding numeral
  number_is e w = rw (e, test_true.1 w)

  pub other-is : (Writes → ⊥) → None ≡ numeral xs
  unfolding numeral
  other-is f = rw (is_false _ (λ e. f (test_true.0 e)))
