-- Laws of Known.antt: where a row stands, which rows are known, and that a right guess is one of them.
use mathlib.Core.Path.{◌≡◌, sym, ◌∙◌}
use mathlib.Core.Logic.{◌↔◌, ◌⊎◌, inl, inr, ⊎_elim}
use mathlib.Core.Bool.{Bool, true, and-eq-true_iff, false≢true}
use mathlib.Core.List.{List}
use Prim.Native.Nat.{ℕ, ◌+◌, ◌-◌, ◌≤◌, ◌<◌}
use native.Mathlib.Decide.{dec_lt}
use native.Mathlib.Omega.{arith}
use lib.Dec.{ltb}
use lib.ListN.{get_or}
use borrow.Author.Tests.{ltb-true, lt-ltb, le-ltb}
use Rattle.graph.specs.Below.{first}
use Rattle.graph.proofs.Below.{same_tests, first_le, first-before, first-hits}
use Rattle.rules.specs.Job.{Bytes}
use Rattle.rules.specs.Types.{is_same_row}
use Rattle.rules.proofs.Rows.{same_row}
use Rattle.types.specs.State.{stored_at}
use Rattle.medians.specs.Guesses.{row_of, known_at, slot_of, right_guess}

-- Where a number passes, the first that does is one of them.
first_below : (n : ℕ) (p : ℕ → Bool) (i : ℕ) → i < n → p i ≡ true → first n p < n
first_below n p i h t = elim (dec_lt (first n p) n) [
  | yes l ↦ l
  | no other ↦ absurd (false≢true (cc (first-before n p i (omega arith))))
]

-- The first of n rows of an area that is this one.
abbrev pub first_in : Bytes → ℕ → Bytes → ℕ
first_in area n row = first n (λ i. is_same_row (stored_at area i) row)

module _ (area : Bytes) (n : ℕ) (row : Bytes) where
  -- One of n rows of an area is this one.
  abbrev pub StandsIn : Type 0
  StandsIn = (i : ℕ) × (i < n) × (stored_at area i ≡ row)

  pub first-few : first_in area n row ≤ n
  first-few = first_le n (λ i. is_same_row (stored_at area i) row)

  -- It is below n exactly if it is there.
  pub first_stands : (first_in area n row < n) ↔ StandsIn
  first_stands = (
    λ h. (first_in area n row, h, (same_row _ row).0 (first-hits n (λ i. is_same_row (stored_at area i) row) h)),
    λ s. first_below n (λ i. is_same_row (stored_at area i) row) s.0 s.1 ((same_row _ row).1 s.2),
  )

module _ (states : Bytes) (made : ℕ) (gathered : Bytes) (count : ℕ) where
  -- A row is known if it was made or gathered.
  abbrev pub IsKnown : Bytes → Type 0
  IsKnown row = StandsIn states made row ⊎ StandsIn gathered count row

  module _ (row : Bytes) where
    -- Where a row stands: at its number among those made, or behind them.
    pub place-made : first_in states made row < made → known_at states made gathered count row ≡ first_in states made row
    unfolding known_at
    place-made h = rw (lt-ltb (first_in states made row) made h)

    pub place_found : made ≤ first_in states made row → known_at states made gathered count row ≡ made + first_in gathered count row
    unfolding known_at
    place_found h = rw (le-ltb (first_in states made row) made h)

    -- Both searches, one after the other: the row is among those made, or is looked for among those gathered.
    pub search_made : (i : ℕ) → i ≡ first_in states made row → i < made →
        (true ≡ ltb (known_at states made gathered count row) (made + count)) × (i ≡ known_at states made gathered count row)
    search_made i e h =
        let p = place-made (omega arith) in (sym (lt-ltb _ (made + count) (omega (arith, p))), e ∙ sym p)

    pub search_found : (i k : ℕ) → i ≡ first_in states made row → made ≤ i → k ≡ first_in gathered count row →
        (ltb k count ≡ ltb (known_at states made gathered count row) (made + count)) × (made + k ≡ known_at states made gathered count row)
    search_found i k e h f =
        let p : known_at states made gathered count row ≡ made + k = omega (arith, place_found (omega arith)) in (
          rw p (same_tests (ltb k count) (ltb (made + k) (made + count))
              (λ t. lt-ltb (made + k) (made + count) (omega (arith, ltb-true k count t)))
              (λ t. lt-ltb k count (omega (arith, ltb-true (made + k) (made + count) t)))),
          sym p,
        )

    -- A row stands below made + count exactly if it is known.
    pub known_is : (ltb (known_at states made gathered count row) (made + count) ≡ true) ↔ IsKnown row
    known_is = let place = known_at states made gathered count row in elim (dec_lt (first_in states made row) made) [
      | yes l ↦ (λ t. inl ((first_stands states made row).0 l), λ s. lt-ltb place (made + count) (omega (arith, place-made l)))
      | no other ↦ let e = place_found (omega arith) in (
        λ t. inr ((first_stands gathered count row).0 (omega (arith, ltb-true place (made + count) t))),
        ⊎_elim (λ s. absurd (other ((first_stands states made row).1 s)))
            (λ s. lt-ltb place (made + count) (omega (arith, (first_stands gathered count row).1 s))),
      )
    ]

    -- The row of a number in use is known.
    row-known : (i : ℕ) → i < made + count → row_of states made gathered i ≡ row → IsKnown row
    row-known i h = elim (dec_lt i made) [
      | yes l ↦ rw (lt-ltb i made l) (λ e. inl (i, l, e))
      | no other ↦ rw (le-ltb i made (omega arith)) (λ e. inr (i - made, omega arith, e))
    ]

    -- A right guess is a known row.
    pub guess_known : (guesses : List ℕ) → right_guess states made gathered count guesses row ≡ true → IsKnown row
    guess_known guesses t =
        let guess = get_or guesses (slot_of row) 0 in
        let s = (and-eq-true_iff (ltb guess (made + count)) (is_same_row (row_of states made gathered guess) row)).0 t in
        row-known guess (ltb-true guess (made + count) s.0) ((same_row (row_of states made gathered guess) row).0 s.1)
