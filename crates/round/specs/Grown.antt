-- Rows, distances, kinds and state when a round has added types.
use Rattle.std.specs.Prelude.{◌≡◌, cond, ◌&&◌, List, ◌++◌, ℕ, ◌+◌, ◌*◌, leb, ltb, get_or, take}
use Rattle.graph.specs.Below.{table}
use Rattle.rules.specs.Sizes.{most_types, row_size}
use Rattle.rules.specs.Job.{Bytes}
use Rattle.rules.specs.declared.Kind.{Kind}
use Rattle.rules.specs.declared.Origin.TheVariants.{Inferred}
use Rattle.memory.specs.Placed.{placed}
use Rattle.types.specs.State.{blank, rows_from}
use Rattle.distances.specs.Area.{CellsWritten, New, stored_apart}
use Rattle.purge.specs.State.{grown}
use Rattle.purge.specs.declared.state.Held.{Held}

-- So many kinds behind the first t are those of types inferred in this round.
unfoldable pub kinds_with : List Kind → ℕ → ℕ → ℕ → List Kind
kinds_with kinds t count round = table most_types (λ i. cond (leb t i && ltb i (t + count)) (record { origin = Inferred round }) (get_or kinds i blank))

pub record Grew (ws : List ℕ) (states : Bytes) (area : List ℕ) (held : Held) (rows : Bytes) (count : ℕ) (states' : Bytes) (area' : List ℕ) (held' : Held) : Type 0 where
  pub rows_are : states' ≡ placed states (row_size * held.state.types) (take (row_size * count) rows ++ rows_from states held.state.types held.state.made)
  pub distances_are : CellsWritten (New held.state.types (held.state.types + count)) (stored_apart ws states') area area'
  pub kinds_are : held'.kinds ≡ kinds_with held.kinds held.state.types count (held.state.rounds + 1)
  pub state_is : held'.state ≡ grown held.state count
