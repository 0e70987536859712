-- Every candidate is met, at one type of its triplet, and whatever is met there is a candidate.
use mathlib.Core.Path.{◌≡◌}
use mathlib.Core.Bool.{true}
use mathlib.Core.List.{List}
use Prim.Native.Nat.{ℕ, ◌<◌}
use native.Mathlib.Omega.{arith}
use Rattle.rules.specs.Job.{Bytes}
use Rattle.links.specs.Marks.{marked}
use Rattle.triplets.specs.Triplet.{in_order}
use Rattle.triplets.proofs.Order.{marked_other, in_order-rising, in_order-below, in_order-two, seat}
use Rattle.sweep.specs.Candidate.{IsTriplet, Candidate, Faithful, Everywhere}

-- A type c and two that are linked with it are a triplet.
pub met-triplet : {area : List ℕ} {n : ℕ} (c a b : ℕ) → marked area c a ≡ true → marked area c b ≡ true → a < b → b < n → c < n →
    IsTriplet area n (in_order c a b)
met-triplet {area} {n} c a b p q h l m = record {
  rising = in_order-rising c a b h (marked_other area c a p) (marked_other area c b q);
  current = (in_order-below c a b n (omega arith) l m).2;
  two_linked = in_order-two area c a b p q;
}

-- The triplet of a candidate has its seat, where it is met.
pub candidate-met : {ws : List ℕ} {states : Bytes} {area : List ℕ} {n made : ℕ} → Faithful ws states area n → (x : Bytes) (cost : ℕ) →
    Candidate ws states area n made x cost → Everywhere ws states area n made n x cost
candidate-met {ws} {states} {area} {n} {made} faithful x cost k =
    let t = k.triplet in
    let i = k.is_triplet in
    let s = seat area t.u t.v t.w i.rising.0 i.rising.1 i.two_linked in
    let inside = s.inside n i.current in
    record {
      c = s.c;
      within = inside.0;
      rest = record {
        a = s.a;
        within = inside.1;
        linked = s.linked-a;
        rest = record {
          faithful = faithful;
          b = s.b;
          higher = s.rising;
          within = inside.2;
          linked = s.linked-b;
          met_here = s.once;
          gives = rw s.ordered k.gives;
        };
      };
    }
