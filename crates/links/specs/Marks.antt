-- What the distance area says of links: the mirror cell of two types is 1 if they are linked, and else 0.
use Rattle.std.specs.Prelude.{◌≡◌, ◌↔◌, ◌≢◌, Bool, cond, not, ◌&&◌, List, ℕ, ◌+◌, ◌*◌, ◌≤◌, ◌<◌, eqb, leb, length, get_or}
use Rattle.graph.specs.Below.{count}
use Rattle.graph.specs.Feasible.{Feasible}
use Rattle.rules.specs.Sizes.{line_size}
use Rattle.rules.specs.Job.{Row}
use Rattle.rules.specs.Links.{FeasibleLink}
use Rattle.distances.specs.Area.{cell_at}
use Rattle.spans.specs.Tree.{between, mirrored}

abbrev pub marked : List ℕ → ℕ → ℕ → Bool
marked area i j = not (eqb i j) && eqb (get_or area (mirrored i j) 0) 1

-- How many of n types are linked with type i.
abbrev pub mark_count : List ℕ → ℕ → ℕ → ℕ
mark_count area n i = count n (marked area i)

-- The mark of a pair by its distance and its span.
abbrev pub mark_of : ℕ → ℕ → ℕ → ℕ
mark_of e distance span = cond (leb distance (span + e)) 1 0

abbrev pub mark : ℕ → List ℕ → List ℕ → ℕ → ℕ → ℕ
mark e spans area i j = mark_of e (cell_at area i j) (cell_at spans i j)

-- RULES 7.2: the links of n types at epsilon are found: a pair is marked exactly if it is linked. Every cell but the mirror cells of the n
-- types is as it was.
pub record LinksFound (n e : ℕ) (before after : List ℕ) : Type 0 where
  pub size : length after ≡ length before
  pub linked : (i j : ℕ) → i < j → j < n → (cell_at after j i ≡ 1) ↔ Feasible n (between before) e i j
  pub or_not : (i j : ℕ) → i < j → j < n → cell_at after j i ≤ 1
  pub kept : (p : ℕ) → ((i j : ℕ) → i < j → j < n → p ≢ line_size * j + i) → get_or after p 0 ≡ get_or before p 0

-- The area tells the links of rows at epsilon.
pub record TellsLinks (ws : List ℕ) (e : ℕ) (rs : List Row) (area : List ℕ) : Type 0 where
  pub linked : (i j : ℕ) → i < j → j < length rs → (cell_at area j i ≡ 1) ↔ FeasibleLink ws e rs i j
  pub or_not : (i j : ℕ) → i < j → j < length rs → cell_at area j i ≤ 1
