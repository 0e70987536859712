-- Candidates as memory tells them, and which of them a sweep through the triplets meets.
use Rattle.std.specs.Prelude.{◌≡◌, ◌≢◌, ◌⊎◌, true, false, List, ℕ, ◌+◌, ◌*◌, ◌≤◌, ◌<◌, length, get_or}
use Rattle.medians.specs.Guesses.{guesses_size}
use Rattle.rules.specs.Sizes.{most_width, most_types, row_size, state_area, distance_area}
use Rattle.rules.specs.Job.{Bytes}
use Rattle.rules.specs.Median.{two_of}
use Rattle.types.specs.State.{stored_at}
use Rattle.distances.specs.Area.{cell_at, Weighed, stored_apart}
use Rattle.links.specs.Marks.{marked}
use Rattle.triplets.specs.Followers.{Followers}
use Rattle.triplets.specs.Triplet.{in_order, no_cost}
use Rattle.triplets.specs.declared.Triplet.{Triplet}
use Rattle.triplets.specs.Mismatches.{Narrow, Cached}
use Rattle.medians.specs.Swept.{Gives}
use Rattle.medians.specs.declared.search.Search.{Search}
use Rattle.sweep.specs.declared.Size.{Size}

-- RULES 9.1: a triplet of the n types; its numbers ascend.
pub record IsTriplet (area : List ℕ) (n : ℕ) (t : Triplet) : Type 0 where
  pub rising : (t.u < t.v) × (t.v < t.w)
  pub current : t.w < n
  pub two_linked : two_of (marked area t.u t.v) (marked area t.u t.w) (marked area t.v t.w) ≡ true

-- A candidate at a cost: a triplet gives it.
pub record Candidate (ws : List ℕ) (states : Bytes) (area : List ℕ) (n made : ℕ) (x : Bytes) (cost : ℕ) : Type 0 where
  pub triplet : Triplet
  pub is_triplet : IsTriplet area n triplet
  pub gives : Gives ws states made triplet x cost

-- The distance area tells the truth of the first n stored types, and every character weighs something or is the same in all of them.
pub record Faithful (ws : List ℕ) (states : Bytes) (area : List ℕ) (n : ℕ) : Type 0 where
  pub measured : (i j : ℕ) → i < j → j < n → cell_at area i j ≡ stored_apart ws states i j
  pub telling : (c : ℕ) → c < most_width →
      (get_or ws c 0 ≢ 0) ⊎ ((i j : ℕ) → i < n → j < n → get_or (stored_at states i) c 0 ≡ get_or (stored_at states j) c 0)

-- What the triplets of type c with a and a higher type below `to` give; of type c with two others, the lower one below `to`; of all
-- types below `to` with two others.
pub record WithFirst (ws : List ℕ) (states : Bytes) (area : List ℕ) (n made c a to : ℕ) (x : Bytes) (cost : ℕ) : Type 0 where
  pub faithful : Faithful ws states area n
  pub b : ℕ
  pub higher : a < b
  pub within : b < to
  pub linked : marked area c b ≡ true
  pub met_here : (c < a) ⊎ (marked area a b ≡ false)
  pub gives : Gives ws states made (in_order c a b) x cost

pub record AtCentre (ws : List ℕ) (states : Bytes) (area : List ℕ) (n made c to : ℕ) (x : Bytes) (cost : ℕ) : Type 0 where
  pub a : ℕ
  pub within : a < to
  pub linked : marked area c a ≡ true
  pub rest : WithFirst ws states area n made c a n x cost

pub record Everywhere (ws : List ℕ) (states : Bytes) (area : List ℕ) (n made to : ℕ) (x : Bytes) (cost : ℕ) : Type 0 where
  pub c : ℕ
  pub within : c < to
  pub rest : AtCentre ws states area n made c n x cost

-- Mismatches of the rows made, of the characters below m, that are right where they are known; from m on the rows hold zeros.
pub record Remembered (states : Bytes) (mismatches : List ℕ) (m made : ℕ) : Type 0 where
  pub narrow : Narrow states made m
  pub cached : Cached states m made mismatches

-- What a search through the triplets of the current types needs, and what it keeps besides the rows gathered.
pub record Sweepable (states : Bytes) (area ws next mismatches : List ℕ) (gathered : Bytes) (guesses : List ℕ) (size : Size) (s : Search) : Type 0 where
  pub weighed : Weighed ws
  pub follows : Followers area size.types next
  pub remembered : Remembered states mismatches size.width s.made
  pub current : size.types ≤ s.made
  pub room : s.made + s.count ≤ most_types
  pub lie : row_size * s.made ≤ length states
  pub cells : distance_area ≤ length area
  pub gathered_size : length gathered ≡ state_area
  pub guesses_sized : length guesses ≡ guesses_size
  pub low : s.below ≤ no_cost

pub record TablesKept (states : Bytes) (m made : ℕ) (mismatches words' guesses : List ℕ) : Type 0 where
  pub remembered : Remembered states words' m made
  pub mismatches_size : length words' ≡ length mismatches
  pub guesses_sized : length guesses ≡ guesses_size
