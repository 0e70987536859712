-- A cheapest tree exists: some tree does, and while a search through all lists of as many links finds a cheaper one, take that.
use mathlib.Core.Path.{◌≡◌, refl, ap, ◌∙◌}
use mathlib.Core.Logic.Dec
use mathlib.Core.List.{List, [], ◌∷◌}
use Prim.Native.Nat.{ℕ, zero, suc, ◌≤◌, ◌<◌}
use native.Mathlib.Omega.{arith}
use native.Mathlib.Decide.{dec_le, dec_lt}
use lib.ListN.{length}
use Rattle.graph.specs.Walk.{stop}
use Rattle.graph.specs.Tree.{Ends, Joined, Tree, cost, Cheapest}
use Rattle.graph.proofs.Below.{last_or}
use Rattle.graph.proofs.Walks.{single, join}
use Rattle.graph.proofs.Links.{joined_back, inside_cons, ahead, widen, joined?}
use Rattle.graph.proofs.Search.{all_below?, Some, some?, to_some, of_some}

-- A path from node 0 to every node joins every two.
hub : (n : ℕ) (E : List Ends) → ((w : ℕ) → w < n → Joined E 0 w) → (u v : ℕ) → u < n → v < n → Joined E u v
hub n E f u v hu hv = join (joined_back E (f u hu)) (f v hv)

-- A tree is still one with one more node, linked to node 0. So there is a tree over any number of nodes.
grown : (m : ℕ) (E : List Ends) → Tree (suc m) E → Tree (suc (suc m)) ((0, suc m) ∷ E)
grown m E T = record {
  inside = inside_cons _ l E (omega arith) (omega arith) (λ a b h. omega (arith, T.inside a b h));
  joins = hub _ (l ∷ E) spoke;
  count = ap suc T.count;
}
  where
    l : Ends
    l = (0, suc m)

    spoke : (w : ℕ) → w < suc (suc m) → Joined (l ∷ E) 0 w
    spoke w h = last_or (Joined (l ∷ E) 0) (suc m) w h (single (ahead l E)) (λ g. widen l E (T.joins 0 w (omega arith) g))

star : (m : ℕ) → (E : List Ends) × Tree (suc m) E
star zero = ([], record { inside = λ a b h. absurd h; joins = λ u v hu hv. let e : u ≡ v = omega arith in stop e; count = refl })
star (suc m) = let (E, T) = star m in ((0, suc m) ∷ E, grown m E T)

module _ (n : ℕ) (d : ℕ → ℕ → ℕ) where
  abbrev Cheaper : ℕ → List Ends → Type 0
  Cheaper c F = ((w : ℕ) → w < n → Joined F 0 w) × (cost d F < c)

  cheaper? : (c : ℕ) (F : List Ends) → Dec (Cheaper c F)
  cheaper? c F = Dec.and (all_below? n (Joined F 0) (joined? F 0)) (dec_lt (cost d F) c)

  -- By induction on a bound of the cost.
  cheapen : 0 < n → (c : ℕ) (E : List Ends) → Tree n E → cost d E < c → (F : List Ends) × Cheapest n d F
  cheapen pos zero E T h = elim h [ ]
  cheapen pos (suc c) E T h = elim (some? n (length E) (Cheaper (cost d E)) (cheaper? (cost d E))) [
    | yes s ↦
        let (F, e, i, p) = of_some n (length E) (Cheaper (cost d E)) s in
        cheapen pos c F (record { inside = i; joins = hub n F p.0; count = ap suc e ∙ T.count }) (omega arith)
    | no q ↦ (E, record { tree = T; least = least q })
  ]
    where
      least : ¬ Some n (length E) (Cheaper (cost d E)) → (F : List Ends) → Tree n F → cost d E ≤ cost d F
      least q F S = elim (dec_le (cost d E) (cost d F)) [
        | yes k ↦ k
        | no k ↦
            let e : length F ≡ length E = omega (arith, S.count, T.count) in
            absurd (q (rw e at (to_some n F (Cheaper (cost d E)) S.inside (λ w. S.joins 0 w pos, omega arith))))
      ]

pub cheapest-tree : (n : ℕ) (d : ℕ → ℕ → ℕ) → 0 < n → (E : List Ends) × Cheapest n d E
cheapest-tree zero d pos = elim pos [ ]
cheapest-tree (suc m) d pos = let (E, T) = star m in cheapen (suc m) d pos (suc (cost d E)) E T (omega arith)
