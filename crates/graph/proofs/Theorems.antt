-- What is proved of feasible links and cheapest trees. The nodes are the numbers below n; their distance d is the same both ways.
use mathlib.Core.Path.{◌≡◌}
use mathlib.Core.Logic.{◌↔◌, ◌≢◌}
use mathlib.Core.Bool.{true}
use mathlib.Core.List.{List}
use Prim.Native.Nat.{ℕ, ◌≤◌, ◌<◌}
use native.Mathlib.Omega.{arith}
use lib.ListN.{length}
use Rattle.graph.specs.Walk.{Walk}
use Rattle.graph.specs.Feasible.{Feasible, Bridge}
use Rattle.graph.specs.Tree.{Ends, Has, Joined, Tree, Cheapest, InCheapest}
use Rattle.graph.specs.Spans.{spans, feasible}
use Rattle.graph.proofs.Spans as test
use Rattle.graph.proofs.Feasibility as feasibility
use Rattle.graph.proofs.Exists as existence
use Rattle.graph.proofs.Spanning as spanning
use Rattle.graph.proofs.Fewest.{fewest}

module _ (n : ℕ) (d : ℕ → ℕ → ℕ) (symmetric : (a b : ℕ) → d a b ≡ d b a) where
  -- The test that computes says true exactly of the feasible links.
  pub tested : (ε u v : ℕ) → u < n → v < n → u ≢ v → (feasible d (spans n d) ε u v ≡ true) ↔ Feasible n d ε u v
  tested = test.feasible-is n d

  -- Feasible links, none longer than the distance of two nodes, lead from one to the other, whatever ε is.
  pub links-join : (ε u v : ℕ) → u < n → v < n → Walk (Bridge n d ε (d u v)) u v
  links-join ε = feasibility.links-join n d ε (test.dec_chain n d ε)

  -- A feasible link stays feasible at every larger ε.
  pub wider : (ε δ u v : ℕ) → ε ≤ δ → Feasible n d ε u v → Feasible n d δ u v
  wider = feasibility.wider n d

  -- Every link no longer than ε is feasible: from the largest distance on, every two nodes are linked.
  pub short-links : (ε u v : ℕ) → u ≢ v → d u v ≤ ε → Feasible n d ε u v
  short-links = feasibility.short-links n d

  -- No fewer links than a tree's join all nodes; so no link of a tree can be spared.
  pub no_fewer : (E F : List Ends) → Tree n E → ((u v : ℕ) → u < n → v < n → Joined F u v) → length E ≤ length F
  no_fewer E F T f = omega (arith, T.count, fewest n F f)

  -- There is a cheapest tree.
  pub cheapest-tree : 0 < n → (E : List Ends) × Cheapest n d E
  cheapest-tree = existence.cheapest-tree n d

  -- Every link of every cheapest tree is feasible, whatever ε is.
  pub tree-links : (E : List Ends) → Cheapest n d E → (ε u v : ℕ) → u ≢ v → Has E u v → Feasible n d ε u v
  tree-links E c ε u v ne h = wider 0 ε u v (omega arith) (spanning.tree-links n d symmetric E c u v ne h)

  -- At ε = 0 the feasible links are exactly the links of the cheapest trees.
  pub spanned : (u v : ℕ) → u < n → v < n → u ≢ v → Feasible n d 0 u v ↔ InCheapest n d u v
  spanned = spanning.spanned n d symmetric
