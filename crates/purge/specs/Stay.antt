-- Which types stay.
use Rattle.std.specs.Prelude.{◌≡◌, Bool, not, ◌&&◌, List, ℕ, ◌<◌, leb, length, get_or}
use Rattle.graph.specs.Below.{gather, only}
use Rattle.rules.specs.Sizes.{most_types}
use Rattle.rules.specs.Types.{inferred}
use Rattle.rules.specs.declared.Kind.{Kind}
use Rattle.types.specs.State.{blank}
use Rattle.links.specs.Marks.{mark_count}
use Rattle.purge.specs.declared.stay.Stay.{Stay}

-- Obsolete as memory tells it: an inferred type with at most two marks among t types.
abbrev pub obsolete_in : List ℕ → ℕ → Kind → ℕ → Bool
obsolete_in area t kind i = inferred kind.origin && leb (mark_count area t i) 2

-- The places of the types that stay, ascending.
unfoldable pub staying : List ℕ → List Kind → ℕ → List ℕ
staying area kinds t = gather t (λ i. only (not (obsolete_in area t (get_or kinds i blank) i)) i)

-- They stand in front of an array of 128.
pub record Stays (places : List ℕ) (stay : Stay) : Type 0 where
  pub size : length stay.kept ≡ most_types
  pub count_is : stay.count ≡ length places
  pub kept_is : (a : ℕ) → a < length places → get_or stay.kept a 0 ≡ get_or places a 0
