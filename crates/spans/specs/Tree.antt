-- What the distance area says of two types, and what is written of them: their distance in the mirror cell too, and their span.
use Rattle.std.specs.Prelude.{◌≡◌, ◌≢◌, List, ℕ, ◌+◌, ◌*◌, ◌<◌, min, max, length}
use Rattle.graph.specs.Spans.{cell, spans}
use Rattle.rules.specs.Sizes.{line_size}
use Rattle.distances.specs.Area.{cell_at}

-- The distance of two types in the distance area, whichever is the lower, and their mirror cell.
abbrev pub between : List ℕ → ℕ → ℕ → ℕ
between area i j = cell_at area (min i j) (max i j)

abbrev pub mirrored : ℕ → ℕ → ℕ
mirrored i j = line_size * max i j + min i j

-- The mirror cells of n types, and what stands opposite to a cell.
abbrev pub Mirror : ℕ → ℕ → ℕ → Type 0
Mirror n i j = (j < i) × (i < n)

abbrev pub opposite : List ℕ → ℕ → ℕ → ℕ
opposite area i j = cell_at area j i

-- The span of two types by the distances of an area.
abbrev pub span_of : ℕ → List ℕ → ℕ → ℕ → ℕ
span_of n area i j = cell (spans n (between area)) i j

-- The spans of n types are written, each in both of its cells.
pub record Spanned (n : ℕ) (area before after : List ℕ) : Type 0 where
  pub size : length after ≡ length before
  pub holds : (i j : ℕ) → i < n → j < n → i ≢ j → cell_at after i j ≡ span_of n area i j
