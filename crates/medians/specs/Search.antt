-- The state of a search, and what one candidate makes of it.
use Rattle.std.specs.Prelude.{true, false, cond, ℕ, ◌+◌, ◌*◌, ◌≤◌, ◌<◌, eqb, length}
use Rattle.rules.specs.Sizes.{most_types, row_size}
use Rattle.rules.specs.Job.{Bytes}
use Rattle.memory.specs.Placed.{placed}
use Rattle.triplets.specs.declared.Triplet.{Triplet}
use Rattle.medians.specs.declared.search.Search.{Search}

-- No connection cost is above 128,000.
abbrev pub above_all_costs : ℕ
above_all_costs = 128001

-- A search begins: for lambda, of any cost, or for all candidates below a cost.
abbrev pub for_lambda : ℕ → Search
for_lambda made = record { below = above_all_costs; made = made; count = 0; gathering = false; full = false }

abbrev pub for_all : ℕ → ℕ → Search
for_all made below = record { below = below; made = made; count = 0; gathering = true; full = false }

-- It goes on: a lower cost is known of, no room is left, one more was gathered.
abbrev pub lowered : Search → ℕ → Search
lowered s cost = record { below = cost; made = s.made; count = s.count; gathering = s.gathering; full = s.full }

abbrev pub filled : Search → Search
filled s = record { below = 0; made = s.made; count = s.count; gathering = s.gathering; full = true }

abbrev pub with_one : Search → Search
with_one s = record { below = s.below; made = s.made; count = s.count + 1; gathering = s.gathering; full = s.full }

-- A candidate of a cost that matters lowers the cost looked for, or is gathered if there is room.
abbrev pub taken : Search → ℕ → Search
taken s cost = cond s.gathering (cond (eqb (s.made + s.count) most_types) (filled s) (with_one s)) (lowered s cost)

abbrev pub gathered_after : Bytes → Search → Bytes → Bytes
gathered_after gathered s row = cond s.gathering (cond (eqb (s.made + s.count) most_types) gathered (placed gathered (row_size * s.count) row)) gathered

-- The types of a triplet are among the rows made, which lie in the state area; not more are made and gathered than there is room for.
pub record Inside (states : Bytes) (s : Search) (t : Triplet) : Type 0 where
  pub u_made : t.u < s.made
  pub v_made : t.v < s.made
  pub w_made : t.w < s.made
  pub room : s.made + s.count ≤ most_types
  pub lie : row_size * s.made ≤ length states
