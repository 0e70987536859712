-- Rows sorted by their bytes, by putting one after the other into its place.
use Rattle.std.specs.Prelude.{Bool, true, false, cond, not, List, [], ◌∷◌, ◌++◌, ℕ, zero, suc, ◌*◌}
use Prim.Native.Nat.{Ordering}
use Rattle.graph.specs.Below.{first}
use Rattle.rules.specs.Sizes.{row_size}
use Rattle.rules.specs.Job.{Bytes, Row}
use Rattle.rules.specs.Round.{compare_rows}
use Rattle.types.specs.State.{stored_at, rows_from}
use Rattle.memory.specs.Placed.{placed}

-- A row stands before another: the first difference decides.
abbrev pub before : Row → Row → Bool
before x y = elim (compare_rows x y) [ Ordering.lt ↦ true | Ordering.eq ↦ false | Ordering.gt ↦ false ]

-- A row put in front of the first that does not stand before it.
unfoldable pub put : Row → List Row → List Row
put r [] = r ∷ []
put r (x ∷ xs) = cond (before x r) (x ∷ put r xs) (r ∷ x ∷ xs)

-- f 0, f 1, .. f (n - 1), sorted.
unfoldable pub sorted : ℕ → (ℕ → Row) → List Row
sorted zero f = []
sorted (suc n) f = put (f n) (sorted n f)

-- The same in memory, rows of 64 bytes one behind the other.
abbrev pub row_place : Bytes → ℕ → Bytes → ℕ
row_place rows count row = first count (λ i. not (before (stored_at rows i) row))

unfoldable pub with_row : Bytes → ℕ → Bytes → Bytes
with_row rows count row = let i = row_place rows count row in placed rows (row_size * i) (row ++ rows_from rows i count)
