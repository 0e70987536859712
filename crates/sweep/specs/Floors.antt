-- What is known of costs before a candidate is met: floors, below which none of them lies.
use Rattle.std.specs.Prelude.{◌≡◌, ◌⊎◌, List, ℕ, ◌≤◌, ◌<◌, length, get_or}
use Rattle.rules.specs.Sizes.{most_types}
use Rattle.rules.specs.Job.{Bytes}
use Rattle.triplets.specs.Triplet.{cost_floor, no_cost}
use Rattle.triplets.specs.declared.Triplet.{Triplet}
use Rattle.triplets.specs.Settled.{Settled}
use Rattle.medians.specs.Swept.{Swept}
use Rattle.medians.specs.declared.search.Search.{Search}
use Rattle.sweep.specs.declared.Size.{Size}
use Rattle.sweep.specs.declared.Met.{Met}
use Rattle.sweep.specs.declared.Survey.{Survey}
use Rattle.sweep.specs.Candidate.{Candidate, AtCentre, Everywhere, TablesKept}

-- A triplet's outlook: the cost that its distances leave; or more than any, where all its median vectors are rows made.
abbrev pub Outlook : Bytes → List ℕ → ℕ → Triplet → ℕ → Type 0
Outlook states area made t r = (r ≡ cost_floor area t) ⊎ (Settled states made t × (r ≡ no_cost))

-- None of some rows costs less than a floor, which is no higher than the one before.
pub record Floored (asked : Bytes → ℕ → Type 0) (before after : ℕ) : Type 0 where
  pub no_higher : after ≤ before
  pub no_less : (x : Bytes) (cost : ℕ) → asked x cost → after ≤ cost

-- A search, and a floor of what it met.
abbrev pub met : Search → ℕ → Met
met search floor = record { search = search; floor = floor }

-- What it comes to when some triplets are passed: the rows asked for are met, and none of them costs less than the floor.
pub record Passed (ws : List ℕ) (states : Bytes) (area : List ℕ) (size : Size) (before : Met) (asked : Bytes → ℕ → Type 0)
    (mismatches : List ℕ) (gathered : Bytes) (mismatches' : List ℕ) (gathered' : Bytes) (guesses' : List ℕ) (after : Met) : Type 0 where
  pub kept : TablesKept states size.width before.search.made mismatches mismatches' guesses'
  pub swept : Swept asked (Candidate ws states area size.types before.search.made) gathered before.search gathered' after.search
  pub floored : Floored asked before.floor after.floor

-- A floor for each of n types: nothing that is met there costs less.
pub record Floors (ws : List ℕ) (states : Bytes) (area : List ℕ) (n made : ℕ) (floors : List ℕ) : Type 0 where
  pub size : length floors ≡ most_types
  pub each : (c : ℕ) → c < n → (x : Bytes) (cost : ℕ) → AtCentre ws states area n made c n x cost → get_or floors c 0 ≤ cost

-- What a sweep through all triplets comes to: each candidate is met, and there is a floor for each type still.
pub record Surveyed (ws : List ℕ) (states : Bytes) (area : List ℕ) (v : Survey) (mismatches : List ℕ) (gathered : Bytes)
    (mismatches' : List ℕ) (gathered' : Bytes) (guesses' : List ℕ) (v' : Survey) : Type 0 where
  pub size_stays : v'.size ≡ v.size
  pub kept : TablesKept states v.size.width v.search.made mismatches mismatches' guesses'
  pub swept : Swept (Everywhere ws states area v.size.types v.search.made v.size.types)
      (Candidate ws states area v.size.types v.search.made) gathered v.search gathered' v'.search
  pub floors : Floors ws states area v.size.types v.search.made v'.floors
