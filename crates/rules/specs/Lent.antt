-- RULES 3: how much memory is lent. Nothing here asks what it held before (3.4).
use Rattle.std.specs.Prelude.{Bool, ◌||◌, ℕ, ltb}
use Rattle.rules.specs.Sizes.{most_links, result_area, state_area, distance_area}

-- RULES 3.1: the length of each area: bytes, bytes, distances, links.
pub record Lent : Type 0 where
  pub result : ℕ
  pub states : ℕ
  pub distances : ℕ
  pub links : ℕ

-- RULES 3.1: the least lengths.
abbrev pub least : Lent
least = record { result = result_area; states = state_area; distances = distance_area; links = most_links }

-- RULES 4.3 (AREA): some area falls short of its least length.
unfoldable pub area_short : Lent → Bool
area_short lent = ltb lent.result result_area || ltb lent.states state_area || ltb lent.distances distance_area || ltb lent.links most_links
