-- What the writer of the result block needs and does.
use Rattle.std.specs.Prelude.{◌≡◌, List, ℕ, ◌≤◌, length}
use Rattle.rules.specs.Sizes.{most_width, most_types, state_area, distance_area}
use Rattle.rules.specs.Job.{Bytes}
use Rattle.rules.specs.Result.{block}
use Rattle.memory.specs.Placed.{placed}
use Rattle.purge.specs.declared.state.Held.{Held}
use Rattle.result.specs.Records.{OriginsFit}
use Rattle.purge.specs.Network.{links_in, network_in}
use Rattle.result.specs.Front.{front}
use Rattle.result.specs.declared.Front.{Front}

-- The network in memory can be written: its numbers fit 16 bits, and the part lent has room for its block, links and all.
pub record Writable (m : ℕ) (states : Bytes) (area : List ℕ) (held : Held) (out : Bytes) : Type 0 where
  pub narrow : m ≤ most_width
  pub few : held.state.types ≤ most_types
  pub states_fit : state_area ≤ length states
  pub cells_fit : distance_area ≤ length area
  pub origins_fit : OriginsFit held.kinds held.state.types
  pub rounds_fit : held.state.rounds ≤ 65535
  pub room : length (block m (network_in m states area held)) ≤ length out

-- The block stands at the front up to its links, and what lay behind is as it was. So many links follow, from that place on.
pub record FrontWritten (m : ℕ) (states : Bytes) (area : List ℕ) (held : Held) (out out' : Bytes) (r : Front) : Type 0 where
  pub is : out' ≡ placed out 0 (front m (network_in m states area held))
  pub links_are : r.links ≡ length (links_in held.state.types area)
  pub at_is : r.at ≡ length (front m (network_in m states area held))
