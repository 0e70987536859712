-- A tree grows over the types from type 0 on. What the code holds of it: the order in which the types joined and the steps by which
-- they did; for each type outside how near it is; and for each type of the tree the longest step behind it.
use Rattle.std.specs.Prelude.{◌≡◌, ◌≢◌, ◌⊎◌, cond, List, ℕ, zero, suc, ◌≤◌, ◌<◌, min, max, leb, length, get_or}
use Rattle.rules.specs.Sizes.{most_types}
use Rattle.distances.specs.Area.{cell_at}
use Rattle.spans.specs.Tree.{span_of}

-- The cells of line j from `from` to `to`.
abbrev pub LinePart : ℕ → ℕ → ℕ → ℕ → ℕ → Type 0
LinePart j from to a b = (a ≡ j) × (from ≤ b) × (b < to)

-- The mirror cells of n types hold their distances.
abbrev pub Full : ℕ → List ℕ → Type 0
Full n area = (i j : ℕ) → j < i → i < n → cell_at area i j ≡ cell_at area j i

-- The first k numbers of a list are written.
pub record Filled (k : ℕ) (f : ℕ → ℕ) (before after : List ℕ) : Type 0 where
  pub size : length after ≡ length before
  pub holds : (u : ℕ) → u < k → get_or after u 0 ≡ f u
  pub kept : (u : ℕ) → k ≤ u → get_or after u 0 ≡ get_or before u 0

-- How near type u is with v in the tree.
abbrev pub nearer : ℕ → List ℕ → List ℕ → ℕ → ℕ
nearer v area near u = min (cell_at area v u) (get_or near u 0)

-- The least of the first k numbers, and of 65,535.
pub record Least (k : ℕ) (f : ℕ → ℕ) (r : ℕ) : Type 0 where
  pub at_most : (u : ℕ) → u < k → r ≤ f u
  pub taken : (r ≡ 65535) ⊎ ((u : ℕ) × (u < k) × (r ≡ f u))

-- A type outside at distance x, and type u if it is one, else 0.
abbrev pub IsOutside : ℕ → ℕ → ℕ → Type 0
IsOutside near inside x = (near ≡ x) × (inside ≡ 0)

abbrev pub OutsideAt : ℕ → ℕ → ℕ → ℕ → ℕ → Type 0
OutsideAt near inside x u r = (IsOutside near inside x × (r ≡ u)) ⊎ ((IsOutside near inside x → ⊥) × (r ≡ 0))

-- If one of the first k types is outside at distance x, type r is such a one.
pub record NearestFound (k : ℕ) (near inside : List ℕ) (x r : ℕ) : Type 0 where
  pub to : r ≤ k
  pub fits : (u : ℕ) → u < k → IsOutside (get_or near u 0) (get_or inside u 0) x → (r < k) × IsOutside (get_or near r 0) (get_or inside r 0) x

-- Every answer to what stood in a cell and how far is reached now is the number made of them.
abbrev pub Makes : (ℕ → ℕ → ℕ → Type 0) → (ℕ → ℕ → ℕ) → Type 0
Makes answers made = (old far new : ℕ) → answers old far new → new ≡ made old far

-- The longest of the steps behind a, up to b.
unfoldable pub longest : (ℕ → ℕ) → ℕ → ℕ → ℕ
longest w a zero = 0
longest w a (suc b) = max (longest w a b) (cond (leb a b) (w (suc b)) 0)

-- The longest step between the types at two places of the order.
abbrev pub stretch : List ℕ → ℕ → ℕ → ℕ
stretch steps = longest (λ k. get_or steps k 0)

-- The line of each type holds its stretches to the types before it, and nothing less than any stretch to those behind it.
pub record Lined (n : ℕ) (order steps spans : List ℕ) : Type 0 where
  pub types : (k : ℕ) → k < n → get_or order k 0 < n
  pub once : (i k : ℕ) → i < k → k < n → get_or order i 0 ≢ get_or order k 0
  pub earlier : (i k : ℕ) → i < k → k < n → cell_at spans (get_or order k 0) (get_or order i 0) ≡ stretch steps i k
  pub later : (i k : ℕ) → i < k → k < n → 65535 ≤ cell_at spans (get_or order i 0) (get_or order k 0)

-- All of n types are in the tree, and their spans are their stretches.
pub record TreeGrown (n : ℕ) (area before spans order steps : List ℕ) : Type 0 where
  pub size : length spans ≡ length before
  pub order_size : length order ≡ most_types
  pub steps_size : length steps ≡ most_types
  pub lined : Lined n order steps spans
  pub all : (u : ℕ) → u < n → (k : ℕ) × (k < n) × (get_or order k 0 ≡ u)
  pub spanned : (i k : ℕ) → i < k → k < n → span_of n area (get_or order i 0) (get_or order k 0) ≡ stretch steps i k

-- The stretches stand in both cells.
pub record Completed (n : ℕ) (order steps before spans : List ℕ) : Type 0 where
  pub size : length spans ≡ length before
  pub earlier : (i k : ℕ) → i < k → k < n → cell_at spans (get_or order k 0) (get_or order i 0) ≡ stretch steps i k
  pub later : (i k : ℕ) → i < k → k < n → cell_at spans (get_or order i 0) (get_or order k 0) ≡ stretch steps i k
