-- One link of a tree taken out, and another put in its place.
use mathlib.Core.Path.{◌≡◌, refl, ap}
use mathlib.Core.Logic.{inl, inr, ⊎_map, ⊎_elim}
use mathlib.Core.List.{List, [], ◌∷◌, ◌++◌}
use Prim.Native.Nat.{ℕ, suc, ◌+◌, ◌≤◌, ◌<◌}
use native.Mathlib.Omega.{arith}
use lib.ListN.{length}
use Rattle.graph.specs.Tree.{Ends, Between, Has, Joined, Tree, cost, Cheapest}
use Rattle.graph.proofs.Walks.{single, expand}
use Rattle.graph.proofs.Links.{between, joined_back, inside_cons}

-- E with one link l taken out is R.
pub data Taken (l : Ends) : List Ends → List Ends → Type 0 where
  here : {R : List Ends} → Taken l (l ∷ R) R
  later : {m : Ends} {E R : List Ends} → Taken l E R → Taken l (m ∷ E) (m ∷ R)

-- A link can be taken out wherever it stands.
pub take_out : (l : Ends) (E L : List Ends) → Taken l (E ++ (l ∷ L)) (E ++ L)
take_out l [] L = here
take_out l (m ∷ E) L = later (take_out l E L)

-- Wherever E has a link between a and b, that link can be taken out.
pub find : (E : List Ends) (a b : ℕ) → Has E a b → (l : Ends) × (R : List Ends) × Between l a b × Taken l E R
find [] a b x' = elim x' [ ]
find (l ∷ E) a b (inl h) = (l, E, h, here)
find (m ∷ E) a b (inr h) = let (l, R, k, t) = find E a b h in (l, m ∷ R, k, later t)

module _ {l : Ends} where
  -- E has the link l and those of R, and no other.
  pub taken-apart : {E R : List Ends} → Taken l E R → (a b : ℕ) → Has E a b → Has (l ∷ R) a b
  unfolding ⊎_map
  taken-apart here a b h = h
  taken-apart (later t) a b (inl h) = inr (inl h)
  taken-apart (later t) a b (inr h) = ⊎_map (λ g. g) inr (taken-apart t a b h)

  pub taken_back : {E R : List Ends} → Taken l E R → (a b : ℕ) → Has (l ∷ R) a b → Has E a b
  taken_back here a b h = h
  taken_back (later t) a b (inl h) = inr (taken_back t a b (inl h))
  taken_back (later t) a b (inr (inl h)) = inl h
  taken_back (later t) a b (inr (inr h)) = inr (taken_back t a b (inr h))

  taken-length : {E R : List Ends} → Taken l E R → length E ≡ suc (length R)
  taken-length here = refl
  taken-length (later t) = ap suc (taken-length t)

  taken-cost : (d : ℕ → ℕ → ℕ) {E R : List Ends} → Taken l E R → cost d E ≡ d l.0 l.1 + cost d R
  taken-cost d here = refl
  taken-cost d (later t) = let r = taken-cost d t in omega arith

  module _ {n : ℕ} {E R : List Ends} (t : Taken l E R) (m : Ends) (from : m.0 < n) (to : m.1 < n) (p : Joined (m ∷ R) l.0 l.1) where
    -- A link m can take the place of l in a tree, if m and the other links join the ends of l.
    pub exchange : Tree n E → Tree n (m ∷ R)
    exchange T = record {
      inside = inside_cons n m R from to (λ a b h. T.inside a b (taken_back t a b (inr h)));
      joins = λ u v hu hv. expand round (T.joins u v hu hv);
      count = omega (arith, taken-length t, T.count);
    }
      where
        round : (a b : ℕ) → Has E a b → Joined (m ∷ R) a b
        round a b h =
            ⊎_elim (between (Joined (m ∷ R)) (λ x y. joined_back (m ∷ R)) l p a b) (λ g. single (inr g)) (taken-apart t a b h)

    -- In a cheapest tree, no such m is shorter than l.
    pub no_shorter : (d : ℕ → ℕ → ℕ) → Cheapest n d E → d l.0 l.1 ≤ d m.0 m.1
    no_shorter d c = omega (arith, c.least (m ∷ R) (exchange c.tree), taken-cost d t)

    -- If m is no longer than l, the tree with m is a cheapest one too.
    pub still_cheapest : (d : ℕ → ℕ → ℕ) → Cheapest n d E → d m.0 m.1 ≤ d l.0 l.1 → Cheapest n d (m ∷ R)
    still_cheapest d c h = record {
      tree = exchange c.tree;
      least = λ F T. omega (arith, c.least F T, taken-cost d t);
    }
