-- What one purge of all that is obsolete leaves.
use Rattle.std.specs.Prelude.{◌≡◌, List, ℕ}
use Rattle.rules.specs.Job.{Bytes}
use Rattle.memory.specs.Placed.{placed}
use Rattle.distances.specs.Area.{CellsWritten}
use Rattle.purge.specs.Left.{Among, squeezed, KindsLeft, parted}
use Rattle.links.specs.Marks.{LinksFound}
use Rattle.purge.specs.State.{epsilon_of, keeping}
use Rattle.purge.specs.declared.state.Held.{Held}
use Rattle.purge.specs.Stay.{staying, Stays}
use Rattle.purge.specs.declared.stay.Stay.{Stay}

-- One time: rows, distances, kinds and state when those at the places of `stay` stay and the others go.
pub record Once (states : Bytes) (area : List ℕ) (held : Held) (stay : Stay) (states' : Bytes) (area' : List ℕ) (held' : Held) : Type 0 where
  pub rows_are : states' ≡ placed states 0 (parted stay.kept stay.count held.state.types held.state.made states)
  pub distances_are : CellsWritten (Among held.state.types) (squeezed stay.kept stay.count area) area area'
  pub kinds_are : KindsLeft held.kinds stay.kept stay.count held'.kinds
  pub state_is : held'.state ≡ keeping held.state stay.count

-- Links are found for the types that memory holds, and those that stay by them.
pub record Surveyed (area : List ℕ) (held : Held) (area' : List ℕ) (stay : Stay) : Type 0 where
  pub found : LinksFound held.state.types (epsilon_of held.state.phase) area area'
  pub stays : Stays (staying area' held.kinds held.state.types) stay
