-- The lines of the links: the links of one type with higher ones, and how many links stand before a pair.
use Rattle.std.specs.Prelude.{◌≡◌, Bool, true, ◌&&◌, List, ℕ, ◌+◌, ◌≤◌, ◌<◌, ltb, length}
use Rattle.graph.specs.Below.{gather, only}
use Rattle.rules.specs.declared.Link.{Link}
use Rattle.distances.specs.Area.{cell_at}
use Rattle.links.specs.Marks.{marked}

-- Whether a pair is a link, the link, and what the pair adds to the line of its lower type.
abbrev pub is_link : List ℕ → ℕ → ℕ → Bool
is_link area i j = ltb i j && marked area i j

abbrev pub link_of : List ℕ → ℕ → ℕ → Link
link_of area i j = record { low = i; high = j; length = cell_at area i j }

abbrev pub pair_of : List ℕ → ℕ → ℕ → List Link
pair_of area i j = only (is_link area i j) (link_of area i j)

-- The links of type i with higher ones of t types.
unfoldable pub line_of : List ℕ → ℕ → ℕ → List Link
line_of area t i = gather t (pair_of area i)

-- How many links of t types stand before the pair i, j: the lines before line i, and what this has before j.
unfoldable pub links_before : List ℕ → ℕ → ℕ → ℕ → ℕ
links_before area t i j = length (gather i (line_of area t)) + length (gather j (pair_of area i))

-- The pair i, j stands behind p links, and it is a link itself unless line i has none left.
pub record Reached (area : List ℕ) (t p i j : ℕ) : Type 0 where
  pub within : j ≤ t
  pub behind : links_before area t i j ≡ p
  pub linked : j < t → is_link area i j ≡ true
