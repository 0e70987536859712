-- How the code holds types: a row in the state area, 64 bytes to a type, its states and zeros behind them; an origin in a kind.
use Rattle.std.specs.Prelude.{List, ℕ, ◌+◌, ◌*◌, ◌-◌, length, get_or, take, drop}
use Rattle.graph.specs.Below.{table, gather}
use Rattle.rules.specs.Sizes.{most_types, row_size}
use Rattle.rules.specs.Job.{Bytes, Row}
use Rattle.rules.specs.Types.{Node, row_at, node_at}
use Rattle.rules.specs.Call.{padded}
use Rattle.rules.specs.declared.Kind.{Kind}
use Rattle.rules.specs.declared.Origin.{Origin}
use Rattle.rules.specs.declared.Origin.TheVariants.{Sampled, Inferred}

-- A row as it is stored, the 64 bytes of type i, and rows one behind the other.
abbrev pub stored : Row → Bytes
stored r = padded row_size r

abbrev pub stored_at : Bytes → ℕ → Bytes
stored_at area i = take row_size (drop (row_size * i) area)

-- The rows from number i on, up to one that is no more of them.
abbrev pub rows_from : Bytes → ℕ → ℕ → Bytes
rows_from area i end = take (row_size * (end - i)) (drop (row_size * i) area)

unfoldable pub laid : List Row → Bytes
laid rs = gather (length rs) (λ i. stored (row_at rs i))

-- A kind that is not in use, and the kinds of types.
abbrev pub blank : Kind
blank = record { origin = Sampled 0 0 }

abbrev pub kind_of : Node → Kind
kind_of t = record { origin = t.origin }

unfoldable pub kinds_of : List Node → List Kind
kinds_of ts = table most_types (λ i. kind_of (node_at ts i))

-- The kind of a type that has row k alone, and one with a row more.
abbrev pub single : ℕ → Kind
single k = record { origin = Sampled 1 k }

abbrev pub more : Origin → Origin
more (Sampled rows first) = Sampled (rows + 1) first
more (Inferred round) = Inferred round

abbrev pub one_more : Kind → Kind
one_more kind = record { origin = more kind.origin }

-- The types read back: t of them, of width m.
unfoldable pub row_in : ℕ → Bytes → ℕ → Row
row_in m area i = table m (λ c. get_or area (row_size * i + c) 0)

unfoldable pub nodes_in : ℕ → ℕ → Bytes → List Kind → List Node
nodes_in m t area kinds = table t (λ i. record { row = row_in m area i; origin = (get_or kinds i blank).origin })
