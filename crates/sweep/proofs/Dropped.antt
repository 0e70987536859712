-- What a triplet of stored types gives: its cost, which is small, and no less than the distances tell.
use mathlib.Core.Path.{◌≡◌, sym, ◌∙◌}
use mathlib.Core.Logic.{◌≢◌, ◌⊎◌, ⊎_elim, ⊎_map}
use mathlib.Core.List.{List}
use Prim.Native.Nat.{ℕ, ◌*◌, ◌≤◌, ◌<◌}
use native.Mathlib.Omega.{arith}
use lib.ListN.{length, get_or}
use Rattle.rules.specs.Job.{Bytes}
use Rattle.rules.specs.Types.{row_at}
use Rattle.rules.specs.Median.{medians}
use Rattle.rules.proofs.Between.{half_way, middle-u, middle-v, middle-w}
use Rattle.types.specs.State.{stored_at}
use Rattle.types.proofs.State.{length-stored_at}
use Rattle.distances.specs.Area.{cell_at, Weighed}
use Rattle.medians.proofs.Stored.{cost_bound}
use Rattle.triplets.specs.Triplet.{cost_floor}
use Rattle.triplets.specs.declared.Triplet.{Triplet}
use Rattle.triplets.proofs.Order.{Between, least-cost-is}
use Rattle.medians.specs.Swept.{Gives}
use Rattle.medians.proofs.search.Considering.{gives-cost}
use Rattle.sweep.specs.Candidate.{Faithful}

-- Three types that ascend, of those made.
module _ {ws : List ℕ} {states : Bytes} {made : ℕ} {t : Triplet} (weighed : Weighed ws) (lie : 64 * made ≤ length states)
    (rising : (t.u < t.v) × (t.v < t.w)) (inside : t.w < made) where
  -- What they give costs little.
  pub gives-small : {x : Bytes} {cost : ℕ} → Gives ws states made t x cost → cost ≤ 128000
  gives-small g =
      omega (arith, gives-cost weighed lie (omega arith) (omega arith) inside g, cost_bound ws states t.u t.v t.w weighed (omega arith) (omega arith) (omega arith))

  -- The distance area tells the truth of them.
  module _ {area : List ℕ} {n : ℕ} (faithful : Faithful ws states area n) (current : t.w < n) where
    long : (i : ℕ) → i ≤ t.w → length (stored_at states i) ≡ length ws
    long i h = length-stored_at states i (omega arith) ∙ sym weighed.size

    telling : (c : ℕ) → c < length ws →
        (get_or ws c 0 ≢ 0)
        ⊎ ((get_or (stored_at states t.u) c 0 ≡ get_or (stored_at states t.v) c 0)
        × (get_or (stored_at states t.v) c 0 ≡ get_or (stored_at states t.w) c 0))
    telling c h =
        ⊎_map (λ ne. ne) (λ same. (same t.u t.v (omega arith) (omega arith), same t.v t.w (omega arith) (omega arith)))
        (faithful.telling c (omega (arith, weighed.size)))

    module _ {x : Bytes} {cost : ℕ} (g : Gives ws states made t x cost) where
      -- A type that is every median vector is no new row.
      not_new : (i : ℕ) → i ≤ t.w →
          ((k : ℕ) → k < 3 → row_at (medians (stored_at states t.u) (stored_at states t.v) (stored_at states t.w)) k ≡ stored_at states i) → ⊥
      not_new i h all = g.unmade i (omega arith) (sym (g.median.row_is ∙ all g.median.number g.median.below_three))

      -- So no type lies between the other two.
      not-between : Between (cell_at area t.u t.v) (cell_at area t.u t.w) (cell_at area t.v t.w) → ⊥
      not-between b =
          let u = stored_at states t.u in
          let v = stored_at states t.v in
          let w = stored_at states t.w in
          let lu = long t.u (omega arith) in
          let lv = long t.v (omega arith) in
          let lw = long t.w (omega arith) in
          let uv = faithful.measured t.u t.v (omega arith) (omega arith) in
          let uw = faithful.measured t.u t.w (omega arith) current in
          let vw = faithful.measured t.v t.w (omega arith) current in
          ⊎_elim
          (λ e. not_new t.v (omega arith) (middle-v ws u v w lu lv lw telling (omega arith)))
          (⊎_elim
          (λ e. not_new t.u (omega arith) (middle-u ws u v w lu lv lw telling (omega arith)))
          (λ e. not_new t.w (omega arith) (middle-w ws u v w lu lv lw telling (omega arith))))
          b

      -- What a triplet gives costs no less than its distances tell.
      pub no_less : cost_floor area t ≤ cost
      no_less =
          ⊎_elim
          (λ half. omega (
            arith,
            gives-cost weighed lie (omega arith) (omega arith) inside g,
            half_way ws (stored_at states t.u) (stored_at states t.v) (stored_at states t.w) (long t.u (omega arith)),
            faithful.measured t.u t.v (omega arith) (omega arith),
            faithful.measured t.u t.w (omega arith) current,
            faithful.measured t.v t.w (omega arith) current,
          ))
          (λ b. absurd (not-between b))
          (least-cost-is area t)
