-- A text with marks, filled with numbers and a row of states.
use Rattle.std.specs.Prelude.{cond, List, [], ◌∷◌, ℕ, ltb, eqb, length, get_or}
use Rattle.graph.specs.Below.{gather}
use Rattle.rules.specs.Job.{Bytes}
use Rattle.rules.specs.Text.{decimal}

-- A byte below the count of the numbers gives the number of that place in decimals, the byte behind those the row, and any other itself.
abbrev pub piece : List ℕ → Bytes → ℕ → Bytes
piece ns row c = cond (ltb c (length ns)) (decimal (get_or ns c 0)) (cond (eqb c (length ns)) row (c ∷ []))

abbrev pub filled : Bytes → List ℕ → Bytes → Bytes
filled s ns row = gather (length s) (λ i. piece ns row (get_or s i 0))
