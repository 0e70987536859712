-- RULES 5: types, and the refusal 8 for too many of them.
use Rattle.std.specs.Prelude.{◌≡◌, Bool, true, false, not, ◌&&◌, List, [], ◌∷◌, map, ℕ, ◌≤◌, eqb, ltb, length, get_or}
use Rattle.graph.specs.Below.{gather, only, count, some}
use Rattle.rules.specs.Sizes.{most_types}
use Rattle.rules.specs.Job.{Row}
use Rattle.rules.specs.declared.Origin.{Origin}
use Rattle.rules.specs.declared.Origin.TheVariants.{Sampled, Inferred}

-- RULES 5.3: a type as a node of the network. Its origin tells the two kinds apart.
pub record Node : Type 0 where
  pub row : Row
  pub origin : Origin

abbrev pub inferred : Origin → Bool
inferred (Sampled rows first) = false
inferred (Inferred round) = true

abbrev pub row_count : Origin → ℕ
row_count (Sampled rows first) = rows
row_count (Inferred round) = 0

-- RULES 5.3: inferred, and in one of so many rounds.
pub record InferredBy (rounds : ℕ) (o : Origin) : Type 0 where
  pub round : ℕ
  pub origin_is : o ≡ Inferred round
  pub not_zero : 1 ≤ round
  pub not_later : round ≤ rounds

-- RULES 5.4: the row and the node of a number, and all rows.
abbrev pub row_at : List Row → ℕ → Row
row_at rs i = get_or rs i []

abbrev pub node_at : List Node → ℕ → Node
node_at ts i = get_or ts i (record { row = []; origin = Sampled 0 0 })

abbrev pub rows_of : List Node → List Row
rows_of ts = map (λ t. t.row) ts

-- RULES 1.4, 5.1: rows are equal if they are so state by state.
unfoldable pub is_same_row : Row → Row → Bool
is_same_row [] [] = true
is_same_row [] (y ∷ ys) = false
is_same_row (x ∷ xs) [] = false
is_same_row (x ∷ xs) (y ∷ ys) = eqb x y && is_same_row xs ys

-- RULES 5.4, 11.1: a row is one of a list.
abbrev pub among : List Row → Row → Bool
among rs r = some (length rs) (λ i. is_same_row (row_at rs i) r)

-- RULES 5.2: a type's first row equals no row before it. The first rows of all types, in order.
abbrev pub is_first : List Row → ℕ → Bool
is_first rs k = not (some k (λ i. is_same_row (row_at rs i) (row_at rs k)))

unfoldable pub firsts : List Row → List ℕ
firsts rs = gather (length rs) (λ k. only (is_first rs k) k)

-- RULES 5.1, 5.3: the type whose first row is row k.
unfoldable pub sampled_at : List Row → ℕ → Node
sampled_at rs k =
    let rows = count (length rs) (λ i. is_same_row (row_at rs i) (row_at rs k)) in
    record { row = row_at rs k; origin = Sampled rows k }

-- RULES 5.2: all sampled types; the number of each is its index here.
unfoldable pub sampled : List Row → List Node
sampled rs = map (sampled_at rs) (firsts rs)

-- RULES 4.3 (TYPES), 4.7: more types than there is room for, and the row that is one too many.
abbrev pub has_too_many : List Row → Bool
has_too_many rs = ltb most_types (length (firsts rs))

abbrev pub row129 : List Row → ℕ
row129 rs = get_or (firsts rs) most_types 0
