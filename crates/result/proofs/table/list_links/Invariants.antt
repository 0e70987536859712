-- `table::list_links`: the first k links stand at the front of the table, and the last one listed is the k-th.
use mathlib.Core.Path.{◌≡◌}
use mathlib.Core.List.{◌∷◌}
use Rattle.rules.specs.Links.{link_at}
use Rattle.purge.specs.Network.{links_in}
use Rattle.result.specs.Order.{no_link}
use Rattle.result.proofs.table.Listed.{filled}
use Rattle.result.proofs.table.list_links.Given as goal

abbrev pub invariant-loop-k : goal.invariant-loop-k
invariant-loop-k l =
    (l.last ≡ link_at (no_link ∷ links_in l.t l.area) l.k) × (l.links ≡ filled l.initial.links (links_in l.t l.area) l.k)
