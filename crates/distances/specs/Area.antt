-- The distance area: line i has 128 cells, and cell j of it speaks of types i and j. Where i is below j it holds their distance.
-- The mirror cell belongs to the search for links.
use Rattle.std.specs.Prelude.{◌≡◌, ◌≢◌, List, ℕ, ◌+◌, ◌*◌, ◌≤◌, ◌<◌, length, get_or}
use Rattle.rules.specs.Sizes.{most_width, most_weight, line_size}
use Rattle.rules.specs.Job.{Bytes, Row}
use Rattle.rules.specs.Distance.{distance, apart}
use Rattle.types.specs.State.{stored_at}

abbrev pub cell_at : List ℕ → ℕ → ℕ → ℕ
cell_at area i j = get_or area (line_size * i + j) 0

-- The area measures rows: it holds their distances.
abbrev pub Measures : List ℕ → List Row → List ℕ → Type 0
Measures ws rs area = (i j : ℕ) → i < j → j < length rs → cell_at area i j ≡ apart ws rs i j

-- Cells are written: each that is asked for holds its number afterwards, and every other is as it was.
pub record CellsWritten (asked : ℕ → ℕ → Type 0) (f : ℕ → ℕ → ℕ) (before after : List ℕ) : Type 0 where
  pub size : length after ≡ length before
  pub holds : (i j : ℕ) → asked i j → cell_at after i j ≡ f i j
  pub kept : (p : ℕ) → ((i j : ℕ) → asked i j → p ≢ line_size * i + j) → get_or after p 0 ≡ get_or before p 0

-- The first n cells of line a.
abbrev pub Line : ℕ → ℕ → ℕ → ℕ → Type 0
Line a n i j = (i ≡ a) × (j < n)

-- Weights as the code holds them: 64 of them, none over 1,000.
pub record Weighed (ws : List ℕ) : Type 0 where
  pub size : length ws ≡ most_width
  pub at_most : (c : ℕ) → c < most_width → get_or ws c 0 ≤ most_weight

-- The pairs of a type below `to` and from `from` on with the types before it, and the distance of two stored rows.
pub record New (from to i j : ℕ) : Type 0 where
  pub rising : i < j
  pub first : from ≤ j
  pub last : j < to

abbrev pub stored_apart : List ℕ → Bytes → ℕ → ℕ → ℕ
stored_apart ws states i j = distance ws (stored_at states i) (stored_at states j)
