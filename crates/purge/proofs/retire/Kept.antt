-- The places that stay, met one after the other: how many of them lie below a place, and what is gathered of them.
use mathlib.Core.Path.{◌≡◌, refl, ◌∙◌}
use mathlib.Core.Logic.{◌≢◌}
use mathlib.Core.Bool.{true, false}
use mathlib.Core.List.{List, [], ◌∷◌, append-nil}
use Prim.Native.Nat.{ℕ, zero, suc, ◌+◌, ◌≤◌, ◌<◌}
use native.Mathlib.Nat.{not-suc-le-zero}
use native.Mathlib.Numerals.{add-one}
use native.Mathlib.Decide.{ℕ_discrete, dec_lt}
use native.Mathlib.Omega.{arith}
use borrow.Author.Tests.{eq-eqb, ne_eqb}
use lib.ListN.{get_or}
use Rattle.graph.specs.Below.{table, gather, given, only}
use Rattle.graph.proofs.Below.{some_true, some_false, gather-more, gather-table}
use Rattle.purge.specs.Left.{Chosen, is_kept}

-- Of the kept places the first a lie below i, and the others do not.
pub record Upto (kept : List ℕ) (count i a : ℕ) : Type 0 where
  pub few : a ≤ count
  pub passed : (b : ℕ) → b < a → get_or kept b 0 < i
  pub ahead : (b : ℕ) → a ≤ b → b < count → i ≤ get_or kept b 0

pub upto-none : (kept : List ℕ) (count : ℕ) → Upto kept count 0 0
upto-none kept count = record { few = omega arith; passed = λ b h. absurd (not-suc-le-zero h); ahead = λ b l h. omega arith }

-- Place i is the next that stays.
abbrev pub Next : List ℕ → ℕ → ℕ → ℕ → Type 0
Next kept count i a = (a < count) × (get_or kept a 0 ≡ i)

next_dec : (kept : List ℕ) (count i a : ℕ) → Dec (Next kept count i a)
next_dec kept count i a = elim (dec_lt a count) [
  | yes l ↦ elim (ℕ_discrete (get_or kept a 0) i) [ yes e ↦ yes (l, e) | no ne ↦ no (λ n. ne n.1) ]
  | no nl ↦ no (λ n. nl n.0)
]

module _ {kept : List ℕ} {count t : ℕ} (chosen : Chosen kept count t) where
  -- A kept place is at least its number.
  pub at_least : (a : ℕ) → a < count → a ≤ get_or kept a 0
  at_least zero h = omega arith
  at_least (suc a) h = omega (arith, at_least a (omega arith), chosen.rising a (suc a) (omega arith) h)

  module _ {i a : ℕ} (upto : Upto kept count i a) where
    -- No kept place is left from t on.
    pub upto_all : t ≤ i → a ≡ count
    upto_all l = elim (dec_lt a count) [
      | yes h ↦ absurd (omega (arith, upto.ahead a (omega arith) h, chosen.within a h))
      | no h ↦ omega (arith, upto.few)
    ]

    -- Place i is the next kept one, or it is not kept.
    pub next-kept : Next kept count i a → is_kept kept count i ≡ true
    next-kept n = (some_true count _).1 (a, n.0, eq-eqb _ i n.1)

    pub next-upto : Next kept count i a → Upto kept count (i + 1) (a + 1)
    next-upto n = record {
      few = omega (arith, n.0);
      passed = λ b h. elim (ℕ_discrete b a) [ yes e ↦ rw e (omega (arith, n.1)) | no ne ↦ omega (arith, upto.passed b (omega arith)) ];
      ahead = λ b l h. omega (arith, n.1, chosen.rising a b (omega arith) h);
    }

    module _ (not-next : Next kept count i a → ⊥) where
      pub other_upto : Upto kept count (i + 1) a
      other_upto = record {
        few = upto.few;
        passed = λ b h. omega (arith, upto.passed b h);
        ahead = λ b l h. elim (ℕ_discrete b a) [
          | yes e ↦ rw e (let n : get_or kept a 0 ≢ i = λ q. not-next (omega arith, q) in omega (arith, upto.ahead a (omega arith) (omega arith)))
          | no ne ↦ omega (arith, upto.ahead a (omega arith) (omega arith), chosen.rising a b (omega arith) h)
        ];
      }

      pub other-gone : is_kept kept count i ≡ false
      other-gone = (some_false count _).1 (λ b h. ne_eqb _ i (λ e. elim (dec_lt b a) [
        | yes l ↦ omega (arith, upto.passed b l)
        | no l ↦ omega (arith, other_upto.ahead b (omega arith) h)
      ]))

  -- What is gathered of the kept places below i is that of the first a of them.
  module _ {A : Type 0} (f : ℕ → List A) where
    gathered : (i : ℕ) →
        (a : ℕ) × Upto kept count i a × (gather i (λ k. given (is_kept kept count k) (f k)) ≡ gather a (λ b. f (get_or kept b 0)))
    unfolding gather
    gathered zero = (0, upto-none kept count, refl)
    gathered (suc i) =
        let (a, u, e) = gathered i in
        elim (next_dec kept count i a) [
          | yes n ↦ (a + 1, rw (add-one i) at (next-upto u n), rw (gather-more, next-kept u n, n.1, e))
          | no n ↦ (a, rw (add-one i) at (other_upto u n), rw (other-gone u n, append-nil) e)
        ]

    pub kept-gathers : gather t (λ k. given (is_kept kept count k) (f k)) ≡ gather count (λ a. f (get_or kept a 0))
    kept-gathers = let (a, u, e) = gathered t in rw (upto_all u (omega arith)) at e

  -- So the kept places give a table.
  pub kept-gather : {A : Type 0} (f : ℕ → A) → gather t (λ k. only (is_kept kept count k) (f k)) ≡ table count (λ a. f (get_or kept a 0))
  kept-gather f = kept-gathers (λ k. f k ∷ []) ∙ gather-table count (λ a. f (get_or kept a 0))
