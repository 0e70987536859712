-- Median vectors and connection costs of stored rows: they are those of the rows, and a cost is small and the same for all three.
use mathlib.Core.Path.{◌≡◌, refl, sym, ◌∙◌}
use mathlib.Core.Logic.{inl}
use mathlib.Core.List.{List, [], ◌∷◌, ◌++◌}
use Prim.Native.Nat.{ℕ, zero, suc, ◌+◌, ◌*◌, ◌≤◌, ◌<◌}
use native.Mathlib.Decide.{dec_lt}
use native.Mathlib.Omega.{arith}
use lib.ListN.{length, get_or, replicate, get_or-eq_default}
use Rattle.graph.specs.Below.{sum}
use Rattle.rules.specs.Job.{Bytes, Row}
use Rattle.rules.specs.Types.{row_at}
use Rattle.rules.specs.Distance.{distance}
use Rattle.rules.specs.Median.{median, medians, connection}
use Rattle.rules.specs.Call.{padded}
use Rattle.rules.proofs.Median.{same-connection, median-state, length-median}
use Rattle.rules.proofs.Between.{median-is, common-held, each-median, one_of_length}
use Rattle.types.specs.State.{stored, stored_at}
use Rattle.types.proofs.State.{length-stored, length-stored_at}
use Rattle.distances.specs.Area.{Weighed}
use Rattle.distances.proofs.Measured.{distance-stored}
use Rattle.medians.specs.Cost.{cost_at}
use Rattle.medians.proofs.Costed.{Costed, cost_of, costed_small, all_costed}

-- Zeros behind a row change no state of it.
zeros-behind : (r : Row) (n c : ℕ) → get_or (r ++ replicate n 0) c 0 ≡ get_or r c 0
zeros-behind [] zero c = refl
zeros-behind [] (suc n) zero = refl
zeros-behind [] (suc n) (suc c) = zeros-behind [] n c
zeros-behind (x ∷ r) n zero = refl
zeros-behind (x ∷ r) n (suc c) = zeros-behind r n c

-- Rows of one width, at most 64, as they are stored.
module _ (m : ℕ) (small : m ≤ 64) (u v w : Row) (lu : length u ≡ m) (lv : length v ≡ m) (lw : length w ≡ m) where
  pub stored-median : (x : Row) → length x ≡ m → median (stored x) (stored u) (stored v) (stored w) ≡ stored (median x u v w)
  stored-median x lx =
      let r = median x u v w in
      let lr : length r ≡ m = length-median x u v w ∙ lx in
      median-is (stored x) (stored u) (stored v) (stored w) (stored r)
      (length-stored x (omega arith) ∙ sym (length-stored r (omega arith)))
      (λ c h. rw (zeros-behind x, zeros-behind u, zeros-behind v, zeros-behind w, zeros-behind r) (elim (dec_lt c m) [
        | yes l ↦ sym (median-state x u v w c (omega arith))
        | no f ↦
            let past : (y : Row) → length y ≡ m → get_or y c 0 ≡ 0 = λ y e. get_or-eq_default y 0 (omega arith) in
            common-held (get_or x c 0) 0 _ _ _ (inl (sym (past u lu), sym (past v lv))) ∙ sym (past r lr)
      ]))

  pub stored-medians : (k : ℕ) → k < 3 → row_at (medians (stored u) (stored v) (stored w)) k ≡ stored (row_at (medians u v w) k)
  stored-medians zero h = stored-median u lu
  stored-medians (suc zero) h = stored-median v lv
  stored-medians (suc (suc zero)) h = stored-median w lw
  stored-medians (suc (suc (suc k))) h = absurd (omega arith)

  -- The same for the cost, where the weights are padded too.
  pub stored-connection : (ws : List ℕ) (x : Row) → length ws ≡ m → length x ≡ m →
      connection (padded 64 ws) (stored x) (stored u) (stored v) (stored w) ≡ connection ws x u v w
  stored-connection ws x l lx = rw (to u lu, to v lv, to w lw)
    where
      to : (y : Row) → length y ≡ m → distance (padded 64 ws) (stored x) (stored y) ≡ distance ws x y
      to y e = distance-stored ws x y (omega arith) (lx ∙ sym l) (e ∙ sym l)

-- Types that lie in the state area.
module _ (ws : List ℕ) (states : Bytes) (u v w : ℕ) (weighed : Weighed ws) (iu : 64 * u + 64 ≤ length states)
    (iv : 64 * v + 64 ≤ length states) (iw : 64 * w + 64 ≤ length states) where
  -- At most twice the widest weight for each of 64 characters.
  pub cost_bound : cost_at ws states u v w ≤ 128000
  cost_bound =
      let all : Costed ws states u v w 64 (sum 64 (cost_of ws states u v w)) = record { passed = omega arith; so_far = refl } in
      omega (arith, costed_small ws states u v w weighed 64 _ all, all_costed ws states u v w weighed 64 _ iu (omega arith) all)

  pub cost_any : (k : ℕ) → k < 3 →
      connection ws (row_at (medians (stored_at states u) (stored_at states v) (stored_at states w)) k) (stored_at states u) (stored_at states v) (stored_at states w)
      ≡ cost_at ws states u v w
  cost_any =
      let long : (i : ℕ) → 64 * i + 64 ≤ length states → length (stored_at states i) ≡ length ws =
      λ i h. length-stored_at states i h ∙ sym weighed.size in
      each-median (λ r. connection ws r (stored_at states u) (stored_at states v) (stored_at states w) ≡ cost_at ws states u v w) _ _ _ (λ x o.
      same-connection ws _ _ _ x (stored_at states u) (one_of_length (length ws) (long u iu) (long v iv) (long w iw) o) (long u iu) o (inl refl))
