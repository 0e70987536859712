-- A median vector of stored types as it is made: its first c states stand in the row.
use mathlib.Core.Path.{◌≡◌, sym, ◌∙◌}
use Prim.Native.Nat.{ℕ, ◌+◌, ◌*◌, ◌≤◌, ◌<◌}
use native.Mathlib.Omega.{arith}
use lib.ListN.{length, get_or}
use Rattle.rules.specs.Job.{Bytes}
use Rattle.rules.specs.Median.{common, median}
use Rattle.rules.proofs.Between.{median-is}
use Rattle.types.specs.State.{stored_at}
use Rattle.types.proofs.State.{length-stored_at, stored_at-state}

module _ (states : Bytes) (x y z : ℕ) where
  -- Its state in character c.
  abbrev pub state_of : ℕ → ℕ
  state_of c = common (get_or states (64 * x + c) 0) (get_or states (64 * x + c) 0) (get_or states (64 * y + c) 0) (get_or states (64 * z + c) 0)

  pub record Taken (c : ℕ) (row : Bytes) : Type 0 where
    pub passed : c ≤ 64
    pub size : length row ≡ 64
    pub so_far : (k : ℕ) → k < c → get_or row k 0 ≡ state_of k

  pub all-taken : (c : ℕ) (row : Bytes) → 64 * x + 64 ≤ length states → 64 ≤ c → Taken c row →
      row ≡ median (stored_at states x) (stored_at states x) (stored_at states y) (stored_at states z)
  all-taken c row inside h t =
      sym (median-is _ _ _ _ row (length-stored_at states x inside ∙ sym t.size) (λ k l.
      let n : k < 64 = omega (arith, t.size) in
      rw (stored_at-state states x k n, stored_at-state states y k n, stored_at-state states z k n)
      (sym (t.so_far k (omega arith)))))
