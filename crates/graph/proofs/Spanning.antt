-- The feasible links at ε = 0 are the links of the cheapest trees.
use mathlib.Core.Path.{◌≡◌, sym}
use mathlib.Core.Logic.{inr, ⊎_map, ⊎_elim, ◌↔◌, ◌≢◌}
use mathlib.Core.List.{List, [], ◌∷◌, ◌++◌, append-nil}
use Prim.Native.Nat.{ℕ, ◌≤◌, ◌<◌}
use native.Mathlib.Omega.{arith}
use native.Mathlib.Decide.{dec_lt}
use Rattle.graph.specs.Feasible.{Short, Feasible}
use Rattle.graph.specs.Tree.{Ends, Between, Has, Joined, Cheapest, InCheapest}
use Rattle.graph.proofs.Walks.{expand, relax, first_step}
use Rattle.graph.proofs.Links.{between, ahead, astern, widen, detour}
use Rattle.graph.proofs.Exchange.{Taken, here, later, take_out, find, taken-apart, taken_back, no_shorter, still_cheapest}
use Rattle.graph.proofs.Feasibility.{short_back, feasible-back}
use Rattle.graph.proofs.Exists.{cheapest-tree}

module _ (n : ℕ) (d : ℕ → ℕ → ℕ) (symmetric : (a b : ℕ) → d a b ≡ d b a) where
  -- A link of a cheapest tree is feasible. For else each step of the chain is joined by the other links, being too short to take the place
  -- of the link; so the other links join the ends of the link, and any step could take its place after all.
  taken-feasible : (l : Ends) (E R : List Ends) → Taken l E R → Cheapest n d E → l.0 ≢ l.1 → Feasible n d 0 l.0 l.1
  taken-feasible l E R t c ne p =
      let (w, s) = first_step ne p in
      omega (arith, no_shorter t (l.0, w) s.from s.to (widen _ R (expand others p)) d c)
    where
      others : (a b : ℕ) → Short n d 0 (d l.0 l.1) a b → Joined R a b
      others a b s =
          ⊎_elim (λ q. q) (λ q. absurd (let z : ⊥ = omega (arith, no_shorter t (a, b) s.from s.to q d c) in z))
          (detour l R (relax (taken-apart t) (c.tree.joins a b s.from s.to)))

  pub tree-links : (E : List Ends) → Cheapest n d E → (u v : ℕ) → u ≢ v → Has E u v → Feasible n d 0 u v
  tree-links E c u v ne h =
      let (l, R, k, t) = find E u v h in
      between (λ a b. a ≢ b → Feasible n d 0 a b) (λ a b f e. feasible-back n d symmetric 0 a b (f (λ g. e (sym g)))) l
      (taken-feasible l E R t c) u v k ne

  module _ (u v : ℕ) where
    -- A link of E that is no shorter than one between u and v, which can take its place among E and L.
    record Long (E L : List Ends) : Type 0 where
      link : Ends
      rest : List Ends
      taken : Taken link E rest
      long : d u v ≤ d link.0 link.1
      path : Joined ((u, v) ∷ (rest ++ L)) link.0 link.1

    past : (m : Ends) (E L K : List Ends) → ((R : List Ends) (a b : ℕ) → Has (R ++ K) a b → Has (m ∷ (R ++ L)) a b) → Long E K → Long (m ∷ E) L
    unfolding ⊎_map
    past m E L K f k = record {
      link = k.link;
      rest = m ∷ k.rest;
      taken = later k.taken;
      long = k.long;
      path = relax (λ a b. ⊎_map (λ h. h) (f k.rest a b)) k.path;
    }

    -- Links that join u and v, while no chain of short steps does, have a long one: go through them, and put the short ones aside, to L.
    long-one : Feasible n d 0 u v → (E L : List Ends) → ((a b : ℕ) → Has E a b → a < n) → ((a b : ℕ) → Has L a b → Short n d 0 (d u v) a b)
        → Joined (E ++ L) u v → Long E L
    long-one f [] L i s p = absurd (f (relax s p))
    long-one f (m ∷ E) L i s p = elim (dec_lt (d m.0 m.1) (d u v)) [
      | yes k ↦
          past m E L (m ∷ L) (λ R. taken-apart (take_out m R L))
          (long-one f E (m ∷ L) (λ a b h. i a b (inr h)) (λ a b. ⊎_elim (aside k a b) (s a b)) (relax (taken_back (take_out m E L)) p))
      | no k ↦
          ⊎_elim (λ q. past m E L L (λ R a b h. inr h) (long-one f E L (λ a b h. i a b (inr h)) s q))
          (λ q. record { link = m; rest = E; taken = here; long = omega arith; path = q }) (detour m (E ++ L) p)
    ]
      where
        aside : d m.0 m.1 < d u v → (a b : ℕ) → Between m a b → Short n d 0 (d u v) a b
        aside k =
            between (Short n d 0 (d u v)) (short_back n d symmetric 0 (d u v)) m
            (record { from = i _ _ (ahead m E); to = i _ _ (astern m E); below = omega arith })

    in_cheapest : u < n → v < n → Feasible n d 0 u v → InCheapest n d u v
    in_cheapest hu hv f =
        let (E, c) = cheapest-tree n d (omega arith) in
        let p : Joined (E ++ []) u v = rw append-nil (c.tree.joins u v hu hv) in
        let k = long-one f E [] c.tree.inside (λ a b h. absurd h) p in
        ((u, v) ∷ k.rest, still_cheapest k.taken (u, v) hu hv (rw (append-nil k.rest) at k.path) d c k.long, ahead (u, v) k.rest)

  pub spanned : (u v : ℕ) → u < n → v < n → u ≢ v → Feasible n d 0 u v ↔ InCheapest n d u v
  spanned u v hu hv ne = (in_cheapest u v hu hv, λ s. tree-links s.0 s.1 u v ne s.2)
