-- The network as memory holds it.
use Rattle.std.specs.Prelude.{◌&&◌, List, ℕ, ltb}
use Rattle.graph.specs.Below.{gather, only}
use Rattle.rules.specs.Job.{Bytes}
use Rattle.rules.specs.Run.{Network}
use Rattle.rules.specs.declared.Link.{Link}
use Rattle.types.specs.State.{nodes_in}
use Rattle.distances.specs.Area.{cell_at}
use Rattle.links.specs.Marks.{marked}
use Rattle.purge.specs.declared.state.Held.{Held}

-- The links of n types: those marked, with the distances in the area.
unfoldable pub links_in : ℕ → List ℕ → List Link
links_in n area = gather n (λ i. gather n (λ j. only (ltb i j && marked area i j) (record { low = i; high = j; length = cell_at area i j })))

-- The network read back from memory, at a width.
unfoldable pub network_in : ℕ → Bytes → List ℕ → Held → Network
network_in m states area held = record {
  types = nodes_in m held.state.types states held.kinds;
  links = links_in held.state.types area;
  rounds = held.state.rounds;
}
