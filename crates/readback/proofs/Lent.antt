-- Where check 1 refuses nothing every area is long enough.
use mathlib.Core.Path.{◌≡◌, refl}
use mathlib.Core.Bool.{Bool, true, false, ◌||◌, true≢false}
use Prim.Native.Nat.{◌≤◌}
use borrow.Author.Tests.{ltb-false}
use Rattle.rules.specs.Lent.{Lent, area_short}

pub record Enough (lent : Lent) : Type 0 where
  pub result-long : 57680 ≤ lent.result
  pub states-long : 8192 ≤ lent.states
  pub distances-long : 16384 ≤ lent.distances
  pub links-long : 8128 ≤ lent.links

neither : (a b : Bool) → a || b ≡ false → (a ≡ false) × (b ≡ false)
neither true b e = absurd (true≢false e)
neither false b e = (refl, e)

pub enough : (lent : Lent) → area_short lent ≡ false → Enough lent
unfolding area_short
enough lent e =
    let (rsd, l) = neither _ _ e in
    let (rs, d) = neither _ _ rsd in
    let (r, s) = neither _ _ rs in
    record {
      result-long = ltb-false _ _ r;
      states-long = ltb-false _ _ s;
      distances-long = ltb-false _ _ d;
      links-long = ltb-false _ _ l;
    }
