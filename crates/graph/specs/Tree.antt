-- RULES 19.3: trees over the nodes below n, what they cost, and the cheapest of them.
use Rattle.std.specs.Prelude.{◌≡◌, ◌⊎◌, List, [], ◌∷◌, ℕ, suc, ◌+◌, ◌≤◌, ◌<◌, length}
use Rattle.graph.specs.Walk.{Walk}

-- A link here is its two ends, in either order; its length is their distance.
abbrev pub Ends : Type 0
Ends = ℕ × ℕ

abbrev pub Between : Ends → ℕ → ℕ → Type 0
Between l a b = ((l.0 ≡ a) × (l.1 ≡ b)) ⊎ ((l.0 ≡ b) × (l.1 ≡ a))

-- E has a link between a and b.
abbrev pub Has : List Ends → ℕ → ℕ → Type 0
Has [] a b = ⊥
Has (l ∷ E) a b = Between l a b ⊎ Has E a b

-- Links of E lead from u to v.
abbrev pub Joined : List Ends → ℕ → ℕ → Type 0
Joined E u v = Walk (Has E) u v

-- A tree: its links lie between nodes (a is either end of a link, since Has holds both ways round), they join every two nodes,
-- and they are one fewer than the nodes.
pub record Tree (n : ℕ) (E : List Ends) : Type 0 where
  pub inside : (a b : ℕ) → Has E a b → a < n
  pub joins : (u v : ℕ) → u < n → v < n → Joined E u v
  pub count : suc (length E) ≡ n

-- The cost of links is the sum of their lengths.
abbrev pub cost : (ℕ → ℕ → ℕ) → List Ends → ℕ
cost d [] = 0
cost d (l ∷ E) = d l.0 l.1 + cost d E

-- A cheapest tree: no tree costs less.
pub record Cheapest (n : ℕ) (d : ℕ → ℕ → ℕ) (E : List Ends) : Type 0 where
  pub tree : Tree n E
  pub least : (F : List Ends) → Tree n F → cost d E ≤ cost d F

-- Some cheapest tree has a link between u and v.
abbrev pub InCheapest : ℕ → (ℕ → ℕ → ℕ) → ℕ → ℕ → Type 0
InCheapest n d u v = (E : List Ends) × Cheapest n d E × Has E u v
