-- Decisions by search: through the numbers below a bound, and through the lists of k links.
use mathlib.Core.Path.{◌≡◌, refl, ap}
use mathlib.Core.Logic.Dec
use mathlib.Core.Logic.{inr}
use mathlib.Core.List.{List, [], ◌∷◌}
use Prim.Native.Nat.{ℕ, zero, suc, ◌<◌}
use native.Mathlib.Nat.{not-suc-le-zero}
use native.Mathlib.Omega.{arith}
use native.Mathlib.Decide.{map_dec}
use lib.ListN.{length}
use Rattle.graph.specs.Tree.{Ends, Has}
use Rattle.graph.proofs.Below.{last_or}
use Rattle.graph.proofs.Links.{inside_cons, ahead, astern}

pub all_below? : (n : ℕ) (P : ℕ → Type 0) → ((i : ℕ) → Dec (P i)) → Dec ((i : ℕ) → i < n → P i)
all_below? zero P D = yes (λ i h. absurd (not-suc-le-zero h))
all_below? (suc n) P D =
    map_dec (λ f i h. last_or P n i h f.0 (f.1 i)) (λ f. (f n (omega arith), λ i h. f i (omega arith)))
    (Dec.and (D n) (all_below? n P D))

some_below? : (n : ℕ) (P : ℕ → Type 0) → ((i : ℕ) → Dec (P i)) → Dec ((i : ℕ) × (i < n) × P i)
some_below? zero P D = no (λ s. not-suc-le-zero s.1)
some_below? (suc n) P D = elim (D n) [
  | yes p ↦ yes (n, omega arith, p)
  | no q ↦
      map_dec (λ s. (s.0, omega arith, s.2))
      (λ s. last_or (λ i. P i → (i : ℕ) × (i < n) × P i) n s.0 s.1 (λ p. absurd (q p)) (λ h p. (s.0, h, p)) s.2)
      (some_below? n P D)
]

module _ (n : ℕ) where
  -- Some list of k links between nodes is as P asks.
  abbrev pub Some : ℕ → (List Ends → Type 0) → Type 0
  Some zero P = P []
  Some (suc k) P = (a : ℕ) × (a < n) × ((b : ℕ) × (b < n) × Some k (λ F. P ((a, b) ∷ F)))

  pub some? : (k : ℕ) (P : List Ends → Type 0) → ((F : List Ends) → Dec (P F)) → Dec (Some k P)
  some? zero P D = D []
  some? (suc k) P D = some_below? n _ (λ a. some_below? n _ (λ b. some? k _ (λ F. D ((a, b) ∷ F))))

  -- The search meets every list as P asks, and what it finds is such a list.
  pub to_some : (F : List Ends) (P : List Ends → Type 0) → ((a b : ℕ) → Has F a b → a < n) → P F → Some (length F) P
  to_some [] P i p = p
  to_some (l ∷ F) P i p =
      (l.0, i _ _ (ahead l F), (l.1, i _ _ (astern l F), to_some F (λ G. P (l ∷ G)) (λ a b h. i a b (inr h)) p))

  pub of_some : (k : ℕ) (P : List Ends → Type 0) → Some k P → (F : List Ends) × (length F ≡ k) × ((a b : ℕ) → Has F a b → a < n) × P F
  of_some zero P p = ([], refl, (λ a b h. absurd h), p)
  of_some (suc k) P (a, ha, (b, hb, s)) =
      let (F, e, i, p) = of_some k (λ F. P ((a, b) ∷ F)) s in
      ((a, b) ∷ F, ap suc e, inside_cons n (a, b) F ha hb i, p)
