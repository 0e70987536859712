-- What a search has done when it has looked at some median vectors.
use Rattle.std.specs.Prelude.{◌≡◌, ◌≢◌, ◌⊎◌, true, false, List, ℕ, ◌+◌, ◌*◌, ◌≤◌, ◌<◌, length, get_or}
use Rattle.rules.specs.Sizes.{most_types, row_size}
use Rattle.rules.specs.Job.{Bytes}
use Rattle.rules.specs.Types.{row_at}
use Rattle.rules.specs.Median.{medians, connection}
use Rattle.types.specs.State.{stored_at}
use Rattle.triplets.specs.declared.Triplet.{Triplet}
use Rattle.medians.specs.declared.search.Search.{Search}

-- A row is a median vector of a triplet of stored types.
pub record IsMedian (states : Bytes) (t : Triplet) (row : Bytes) : Type 0 where
  pub number : ℕ
  pub below_three : number < 3
  pub row_is : row ≡ row_at (medians (stored_at states t.u) (stored_at states t.v) (stored_at states t.w)) number

-- A triplet of stored types gives a row at a cost: it is a median vector of theirs, and none of the rows made.
pub record Gives (ws : List ℕ) (states : Bytes) (made : ℕ) (t : Triplet) (x : Bytes) (cost : ℕ) : Type 0 where
  pub median : IsMedian states t x
  pub cost_is : cost ≡ connection ws x (stored_at states t.u) (stored_at states t.v) (stored_at states t.w)
  pub unmade : (i : ℕ) → i < made → stored_at states i ≢ x

abbrev pub GivesRow : List ℕ → Bytes → ℕ → Triplet → Bytes → Bytes → ℕ → Type 0
GivesRow ws states made t row x cost = (x ≡ row) × Gives ws states made t x cost

-- A row at a cost is dealt with: its cost does not matter, or it is among those gathered.
abbrev pub Dealt : Bytes → Search → Bytes → ℕ → Type 0
Dealt gathered s x cost = (s.below ≤ cost) ⊎ ((k : ℕ) × (k < s.count) × (stored_at gathered k ≡ x))

-- There is no room: as many were made and gathered as can be, and here is one more, of a cost that mattered.
pub record Crowd (given : Bytes → ℕ → Type 0) (bound : ℕ) (gathered : Bytes) (s : Search) : Type 0 where
  pub closed : s.below ≡ 0
  pub all_used : s.made + s.count ≡ most_types
  pub row : Bytes
  pub cost : ℕ
  pub is_given : given row cost
  pub matters : cost < bound
  pub another : (k : ℕ) → k < s.count → stored_at gathered k ≢ row

-- Looking for lambda: the cost looked for is as before, or that of a row given.
abbrev pub Lowered : (Bytes → ℕ → Type 0) → Search → Search → Type 0
Lowered given s s' = (s'.below ≡ s.below) ⊎ ((x : Bytes) × given x s'.below)

-- Gathering: the rows gathered before stay, and each one more is given at a cost that matters and is no other's row.
pub record Gathered (given : Bytes → ℕ → Type 0) (gathered : Bytes) (s : Search) (found' : Bytes) (s' : Search) : Type 0 where
  pub no_fewer : s.count ≤ s'.count
  pub older : (k : ℕ) → k < s.count → stored_at found' k ≡ stored_at gathered k
  pub newer : (k : ℕ) → s.count ≤ k → k < s'.count → (cost : ℕ) × given (stored_at found' k) cost × (cost < s.below)
  pub differ : (i k : ℕ) → i < k → s.count ≤ k → k < s'.count → stored_at found' i ≢ stored_at found' k
  pub still_open : s'.full ≡ false → (s.full ≡ false) × (s'.below ≡ s.below)
  pub crowd : s.full ≡ false → s'.full ≡ true → Crowd given s.below found' s'

-- Every row asked for is dealt with, and whatever the search has come to, it has from rows given. Behind the rows gathered nothing changes.
pub record Swept (asked given : Bytes → ℕ → Type 0) (gathered : Bytes) (s : Search) (found' : Bytes) (s' : Search) : Type 0 where
  pub size : length found' ≡ length gathered
  pub rest_stays : (p : ℕ) → row_size * s'.count ≤ p → get_or found' p 0 ≡ get_or gathered p 0
  pub made_stays : s'.made ≡ s.made
  pub aim_stays : s'.gathering ≡ s.gathering
  pub room : s'.made + s'.count ≤ most_types
  pub no_higher : s'.below ≤ s.below
  pub deals : (x : Bytes) (cost : ℕ) → asked x cost → Dealt found' s' x cost
  pub keeps : (x : Bytes) (cost : ℕ) → Dealt gathered s x cost → Dealt found' s' x cost
  pub count_stays : s.gathering ≡ false → s'.count ≡ s.count
  pub lowers : s.gathering ≡ false → Lowered given s s'
  pub gathers : s.gathering ≡ true → Gathered given gathered s found' s'
