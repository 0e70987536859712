-- The types are passed one by one: what `survivors` holds after i of them, and what one more makes of it.
use mathlib.Core.Path.{◌≡◌, sym, ap, ◌∙◌}
use mathlib.Core.Bool.{Bool, true, false, not}
use mathlib.Core.List.{List}
use Prim.Native.Nat.{ℕ, ◌+◌, ◌≤◌, ◌<◌}
use native.Mathlib.Omega.{arith}
use lib.ListN.{length, get_or, set}
use Rattle.rules.specs.declared.Kind.{Kind}
use Rattle.types.specs.State.{blank}
use Rattle.purge.specs.Stay.{obsolete_in, staying, Stays}
use Rattle.purge.proofs.stay.Places.{places, none_passed, one-goes, one-stays}

abbrev pub stay_in : List ℕ → List Kind → ℕ → ℕ → Bool
stay_in area kinds t i = not (obsolete_in area t (get_or kinds i blank) i)

pub record Passed (area : List ℕ) (kinds : List Kind) (t : ℕ) (kept : List ℕ) (count i : ℕ) : Type 0 where
  pub few : t ≤ 128
  pub read : i ≤ t
  pub count-few : count ≤ i
  pub stays : Stays (places i (stay_in area kinds t)) (record { kept = kept; count = count })

pub passed_none : {area : List ℕ} {kinds : List Kind} {t : ℕ} {kept : List ℕ} → t ≤ 128 → length kept ≡ 128 → Passed area kinds t kept 0 0
passed_none {area} {kinds} {t} {kept} few e = record { few = few; read = omega arith; count-few = omega arith; stays = none_passed (stay_in area kinds t) kept e }

module _ {area : List ℕ} {kinds : List Kind} {t : ℕ} {kept : List ℕ} {count i : ℕ} (passed : Passed area kinds t kept count i) where
  abbrev stay : ℕ → Bool
  stay = stay_in area kinds t

  -- By what the test said of type i.
  module _ {r : Bool} (h : i < t) (is : r ≡ obsolete_in area t (get_or kinds i blank) i) where
    pub passed-goes : not r ≡ false → Passed area kinds t kept count (i + 1)
    passed-goes e =
        record { few = passed.few; read = omega arith; count-few = omega arith; stays = one-goes stay passed.stays (ap not (sym is) ∙ e) }

    pub passed-stays : not r ≡ true → Passed area kinds t (set kept count i) (count + 1) (i + 1)
    passed-stays e =
        record { few = passed.few; read = omega arith; count-few = omega arith; stays = one-stays stay passed.stays (omega arith) (ap not (sym is) ∙ e) }

  pub all-passed : t ≤ i → Stays (staying area kinds t) (record { kept = kept; count = count })
  unfolding staying
  all-passed l = let e : i ≡ t = omega (arith, passed.read) in rw e at passed.stays
