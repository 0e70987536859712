-- The kinds of types that stay, stored one after the other.
use mathlib.Core.Path.{◌≡◌}
use mathlib.Core.List.{List}
use Prim.Native.Nat.{ℕ}
use native.Mathlib.Nat.{not-suc-le-zero}
use lib.ListN.{replicate, length-replicate, get_or-replicate}
use Rattle.rules.specs.declared.Kind.{Kind}
use Rattle.types.specs.State.{blank}
use Rattle.purge.specs.Left.{KindsLeft}

-- None is stored.
pub no_kind : {kinds left : List Kind} {kept : List ℕ} → left ≡ replicate 128 blank → KindsLeft kinds kept 0 left
no_kind e = record {
  size = rw e (length-replicate 128 blank);
  stay = λ a h. absurd (not-suc-le-zero h);
  none = λ a l h. rw e (get_or-replicate 128 a blank blank h);
}
