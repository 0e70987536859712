-- The order of the links: which of them comes next.
use Rattle.std.specs.Prelude.{◌≡◌, List, ◌∷◌, ℕ, ◌<◌, length}
use Rattle.rules.specs.Links.{link_at}
use Rattle.rules.specs.declared.Link.{Link}

-- No link: a record of zeros. It stands before the first link.
abbrev pub no_link : Link
no_link = record { low = 0; high = 0; length = 0 }

-- Behind this one, a link or none, comes another.
pub record HasNext (ls : List Link) (last : Link) : Type 0 where
  pub place : ℕ
  pub within : place < length ls
  pub is : last ≡ link_at (no_link ∷ ls) place

-- r comes next behind it.
pub record Next (ls : List Link) (last r : Link) : Type 0 where
  pub is : (k : ℕ) → k < length ls → last ≡ link_at (no_link ∷ ls) k → r ≡ link_at ls k
