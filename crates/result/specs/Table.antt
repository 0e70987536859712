-- The link table: what listing asks, and the bytes that are written from it.
use Rattle.std.specs.Prelude.{◌≡◌, List, [], ◌∷◌, ℕ, ◌≤◌, length}
use Rattle.graph.specs.Below.{gather}
use Rattle.rules.specs.Sizes.{most_types, distance_area}
use Rattle.rules.specs.Job.{Bytes}
use Rattle.rules.specs.Links.{link_at}
use Rattle.rules.specs.Result.{words}
use Rattle.rules.specs.declared.Link.{Link}
use Rattle.purge.specs.Network.{links_in}

-- The n links of t types can be listed: the table has room, and the distance area is read only where there is a link.
pub record Listable (area : List ℕ) (t n : ℕ) (links : List Link) : Type 0 where
  pub few : t ≤ most_types
  pub counted : n ≡ length (links_in t area)
  pub room : n ≤ length links
  pub cells : 1 ≤ n → distance_area ≤ length area

-- The bytes of a link, and those of the first n links of a table.
abbrev pub link_bytes : Link → Bytes
link_bytes l = words (l.low ∷ l.high ∷ l.length ∷ [])

unfoldable pub table_bytes : ℕ → List Link → Bytes
table_bytes n links = gather n (λ k. link_bytes (link_at links k))
