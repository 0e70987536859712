-- A triplet in the order of its types' numbers, and what its distances tell.
use Rattle.std.specs.Prelude.{cond, ◌||◌, List, ℕ, ◌+◌, ◌/◌, ltb, eqb}
use Rattle.distances.specs.Area.{cell_at}
use Rattle.triplets.specs.declared.Triplet.{Triplet}

-- Types c, a and b in order, where a is below b.
abbrev pub in_order : ℕ → ℕ → ℕ → Triplet
in_order c a b = cond (ltb c a) (record { u = c; v = a; w = b }) (cond (ltb c b) (record { u = a; v = c; w = b }) (record { u = a; v = b; w = c }))

-- More than any cost: what stands for no cost at all.
abbrev pub no_cost : ℕ
no_cost = 200000

-- Half the sum of the three distances; where a type lies between the other two, more than any cost.
abbrev pub cost_floor : List ℕ → Triplet → ℕ
cost_floor area t =
    let uv = cell_at area t.u t.v in
    let uw = cell_at area t.u t.w in
    let vw = cell_at area t.v t.w in
    cond (eqb (uv + vw) uw || eqb (uv + uw) vw || eqb (uw + vw) uv) no_cost ((uv + uw + vw) / 2)
