-- Of t types some stay and the others go: what is left of their distances, kinds and rows.
use Rattle.std.specs.Prelude.{◌≡◌, Bool, cond, not, ◌&&◌, List, ◌++◌, ℕ, ◌≤◌, ◌<◌, eqb, ltb, length, get_or}
use Rattle.graph.specs.Below.{gather, given, some}
use Rattle.rules.specs.Sizes.{most_types}
use Rattle.rules.specs.Job.{Bytes}
use Rattle.rules.specs.declared.Kind.{Kind}
use Rattle.types.specs.State.{stored_at, blank, rows_from}
use Rattle.distances.specs.Area.{cell_at}

-- Of t types those at the places `kept` stay, so many of them, in their order.
pub record Chosen (kept : List ℕ) (count t : ℕ) : Type 0 where
  pub size : length kept ≡ most_types
  pub few : count ≤ t
  pub rising : (a b : ℕ) → a < b → b < count → get_or kept a 0 < get_or kept b 0
  pub within : (a : ℕ) → a < count → get_or kept a 0 < t

-- The cells of t types, and what they hold of those that stay: the distances of the pairs, and else 0.
abbrev pub Among : ℕ → ℕ → ℕ → Type 0
Among t i j = (i < t) × (j < t)

abbrev pub squeezed : List ℕ → ℕ → List ℕ → ℕ → ℕ → ℕ
squeezed kept count area i j = cond (ltb i j && ltb j count) (cell_at area (get_or kept i 0) (get_or kept j 0)) 0

-- The kinds of those that stay, and blank ones behind them.
pub record KindsLeft (kinds : List Kind) (kept : List ℕ) (count : ℕ) (after : List Kind) : Type 0 where
  pub size : length after ≡ most_types
  pub stay : (a : ℕ) → a < count → get_or after a blank ≡ get_or kinds (get_or kept a 0) blank
  pub none : (a : ℕ) → count ≤ a → a < most_types → get_or after a blank ≡ blank

-- The rows of those that stay, the rows retired before, and the rows of those that go.
abbrev pub is_kept : List ℕ → ℕ → ℕ → Bool
is_kept kept count i = some count (λ a. eqb (get_or kept a 0) i)

unfoldable pub parted : List ℕ → ℕ → ℕ → ℕ → Bytes → Bytes
parted kept count t made states =
    gather t (λ i. given (is_kept kept count i) (stored_at states i)) ++ rows_from states t made
    ++ gather t (λ i. given (not (is_kept kept count i)) (stored_at states i))
