-- Distance: it is the same both ways, 0 from a row to itself, and at most the widest weight for each character, so that it fits 16 bits.
use mathlib.Core.Path.{◌≡◌, refl, sym}
use mathlib.Core.Bool.{Bool, true, false, cond}
use mathlib.Core.List.{List}
use Prim.Native.Nat.{ℕ, ◌*◌, ◌≤◌, ◌<◌}
use native.Mathlib.Omega.{arith}
use lib.Dec.{eqb}
use lib.ListN.{length, get_or}
use borrow.Author.Tests.{eqb-true, eqb-false, eq-eqb, ne_eqb}
use Rattle.graph.proofs.Below.{sum_ext, sum_zero, sum_bound}
use Rattle.rules.specs.Job.{Bytes, Row, weights}
use Rattle.rules.specs.Types.{row_at}
use Rattle.rules.specs.Distance.{distance, apart}
use Rattle.rules.proofs.Job.{Passed, length-weights, weight-within}

pub eqb_sym : (a b : ℕ) → eqb a b ≡ eqb b a
eqb_sym a b = go (eqb a b) refl
  where
    go : (t : Bool) → eqb a b ≡ t → t ≡ eqb b a
    go true e = sym (eq-eqb b a (sym (eqb-true a b e)))
    go false e = sym (ne_eqb b a (λ h. eqb-false a b e (sym h)))

pub distance_sym : (ws : List ℕ) (u v : Row) → distance ws u v ≡ distance ws v u
unfolding distance
distance_sym ws u v = sum_ext (length ws) _ _ (λ c h. rw (eqb_sym (get_or u c 0) (get_or v c 0)))

pub apart_sym : (ws : List ℕ) (rs : List Row) (i j : ℕ) → apart ws rs i j ≡ apart ws rs j i
apart_sym ws rs i j = distance_sym ws (row_at rs i) (row_at rs j)

pub distance_self : (ws : List ℕ) (u : Row) → distance ws u u ≡ 0
unfolding distance
distance_self ws u = sum_zero (length ws) _ (λ c h. rw (eq-eqb (get_or u c 0) (get_or u c 0) refl))

difference_le : (t : Bool) (w k : ℕ) → w ≤ k → cond t 0 w ≤ k
difference_le true w k h = omega arith
difference_le false w k h = h

-- With weights of at most k, a distance is at most k for each character.
pub distance_bound : (ws : List ℕ) (u v : Row) (k : ℕ) → ((c : ℕ) → c < length ws → get_or ws c 0 ≤ k) → distance ws u v ≤ length ws * k
unfolding distance
distance_bound ws u v k b =
    sum_bound (length ws) k _ (λ c h. difference_le (eqb (get_or u c 0) (get_or v c 0)) (get_or ws c 0) k (b c h))

-- Of a job that passes its checks: at most 64 characters of a weight of at most 1,000 each.
pub distance-fits : (job : Bytes) → Passed job → (u v : Row) → distance (weights job) u v ≤ 64000
distance-fits job p u v = omega (
  arith,
  distance_bound (weights job) u v 1000 (λ c h. (weight-within job p c (rw length-weights at h)).at_most),
  length-weights job,
  p.width-within.at_most,
)
