-- The distances of stored rows are those of the rows, where the weights are padded too: past the width nothing weighs.
use mathlib.Core.Path.{◌≡◌, refl, sym, ap, ◌∙◌}
use mathlib.Core.Bool.{Bool, true, false, cond}
use mathlib.Core.List.{List, ◌++◌}
use Prim.Native.Nat.{ℕ, ◌+◌, ◌-◌, ◌≤◌, ◌<◌}
use native.Mathlib.Decide.{dec_lt}
use native.Mathlib.Omega.{arith}
use lib.Dec.{eqb}
use lib.ListN.{length, get_or, replicate, get_or-replicate}
use lib.Seq.{get_or-append-add}
use Rattle.graph.specs.Below.{sum}
use Rattle.graph.proofs.Below.{sum_add, sum_ext, sum_zero}
use Rattle.rules.specs.Job.{Bytes, Row}
use Rattle.rules.specs.Types.{row_at}
use Rattle.rules.specs.Distance.{difference, distance, apart}
use Rattle.rules.specs.Call.{padded}
use Rattle.types.specs.State.{stored, stored_at}
use Rattle.types.proofs.State.{OfWidth, length-stored, stored-state}
use Rattle.distances.specs.Area.{cell_at, Measures, CellsWritten, New, stored_apart}
use Rattle.distances.proofs.Area.{cell-kept, new-narrow}

-- A character that weighs nothing makes no difference.
weightless : (ws : List ℕ) (u v : Row) (c : ℕ) → get_or ws c 0 ≡ 0 → difference ws u v c ≡ 0
weightless ws u v c e = go (eqb (get_or u c 0) (get_or v c 0))
  where
    go : (t : Bool) → cond t 0 (get_or ws c 0) ≡ 0
    go true = refl
    go false = e

pub behind_zero : (ws : List ℕ) (n c : ℕ) → c < n → get_or (ws ++ replicate n 0) (length ws + c) 0 ≡ 0
behind_zero ws n c h = get_or-append-add ws (replicate n 0) c 0 ∙ get_or-replicate n c 0 0 h

-- Rows and weights of one width, as they are stored.
pub distance-stored : (ws : List ℕ) (u v : Row) → length ws ≤ 64 → length u ≡ length ws → length v ≡ length ws →
    distance (padded 64 ws) (stored u) (stored v) ≡ distance ws u v
unfolding distance
distance-stored ws u v h eu ev =
    let m = length ws in
    let all : 64 ≡ m + (64 - m) = omega arith in
    let f = difference (padded 64 ws) (stored u) (stored v) in
    let front = sum_ext m f (difference ws u v)
    (λ c l. rw (stored-state u c (omega arith), stored-state v c (omega arith), stored-state ws c l)) in
    let behind = sum_zero (64 - m) (λ c. f (m + c))
    (λ c l. weightless (padded 64 ws) (stored u) (stored v) (m + c) (behind_zero ws (64 - m) c l)) in
    ap (λ (n : ℕ). sum n f) (length-stored ws h ∙ all) ∙ sum_add m (64 - m) f ∙ omega (arith, front, behind)

-- Rows of one width, at most 64, where they lie in the state area.
module _ (m : ℕ) (rs : List Row) (small : m ≤ 64) (wide : OfWidth m rs) (ws : List ℕ) (weighed : length ws ≡ m)
    (states : Bytes) (lie : (i : ℕ) → i < length rs → stored_at states i ≡ stored (row_at rs i)) where
  pub measured : (i j : ℕ) → i < length rs → j < length rs → stored_apart (padded 64 ws) states i j ≡ apart ws rs i j
  measured i j hi hj =
      rw (lie i hi, lie j hj)
      (distance-stored ws (row_at rs i) (row_at rs j) (omega arith) (wide i hi ∙ sym weighed) (wide j hj ∙ sym weighed))

  -- An area that measures the first k rows measures all of them once the pairs of the others are written.
  pub measures_new : (k : ℕ) (before after : List ℕ) → length rs ≤ 128 → ((i j : ℕ) → i < j → j < k → cell_at before i j ≡ apart ws rs i j) →
      CellsWritten (New k (length rs)) (stored_apart (padded 64 ws) states) before after → Measures ws rs after
  measures_new k before after few known w i j h l = elim (dec_lt j k) [
    | yes g ↦ cell-kept w (new-narrow k (length rs) few) i j (omega arith) (λ t. omega (arith, t.first)) ∙ known i j h g
    | no g ↦ w.holds i j (record { rising = h; first = omega arith; last = l }) ∙ measured i j (omega arith) l
  ]

  pub measures_all : (before after : List ℕ) → length rs ≤ 128 → CellsWritten (New 0 (length rs)) (stored_apart (padded 64 ws) states) before after →
      Measures ws rs after
  measures_all before after few = measures_new 0 before after few (λ i j h g. absurd (omega arith))
