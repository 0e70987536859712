-- RULES 6: distance.
use Rattle.std.specs.Prelude.{cond, List, ℕ, eqb, length, get_or}
use Rattle.graph.specs.Below.{sum}
use Rattle.rules.specs.Job.{Row}
use Rattle.rules.specs.Types.{row_at}

-- RULES 6.1: what one character adds: its weight if the rows differ there, else 0.
abbrev pub difference : List ℕ → Row → Row → ℕ → ℕ
difference ws u v c = cond (eqb (get_or u c 0) (get_or v c 0)) 0 (get_or ws c 0)

-- RULES 6.1: what all characters add.
unfoldable pub distance : List ℕ → Row → Row → ℕ
distance ws u v = sum (length ws) (difference ws u v)

-- RULES 6.2: the same of two types, by their numbers.
abbrev pub apart : List ℕ → List Row → ℕ → ℕ → ℕ
apart ws rs i j = distance ws (row_at rs i) (row_at rs j)
