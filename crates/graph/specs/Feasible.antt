-- RULES 7: feasible links between any nodes. The nodes are the numbers below n, and d is their distance.
use Rattle.std.specs.Prelude.{◌≢◌, ℕ, ◌+◌, ◌≤◌, ◌<◌}
use Rattle.graph.specs.Walk.{Walk}

-- RULES 7.1: a short step: from node a to node b, its distance plus ε less than x.
pub record Short (n : ℕ) (d : ℕ → ℕ → ℕ) (ε x a b : ℕ) : Type 0 where
  pub from : a < n
  pub to : b < n
  pub below : d a b + ε < x

-- RULES 7.1: a chain of short steps.
abbrev pub Chain : ℕ → (ℕ → ℕ → ℕ) → ℕ → ℕ → ℕ → ℕ → Type 0
Chain n d ε x u v = Walk (Short n d ε x) u v

-- RULES 7.2: no chain of short steps leads from u to v, where x is their own distance.
abbrev pub Feasible : ℕ → (ℕ → ℕ → ℕ) → ℕ → ℕ → ℕ → Type 0
Feasible n d ε u v = Chain n d ε (d u v) u v → ⊥

-- A feasible link between two different nodes that is no longer than x.
pub record Bridge (n : ℕ) (d : ℕ → ℕ → ℕ) (ε x a b : ℕ) : Type 0 where
  pub from : a < n
  pub to : b < n
  pub differ : a ≢ b
  pub feasible : Feasible n d ε a b
  pub within : d a b ≤ x
