-- Laws of what is written: records and rows, each behind the one before, and how long they are together.
use mathlib.Core.Path.{◌≡◌}
use mathlib.Core.List.{List}
use Prim.Native.Nat.{ℕ, suc, ◌+◌, ◌*◌, ◌-◌, ◌≤◌, ◌<◌}
use native.Mathlib.Nat.{suc-mul, sub_self, mul-le-mul_right}
use native.Mathlib.Omega.{arith}
use lib.ListN.{length, take, drop}
use Rattle.graph.specs.Below.{gather}
use Rattle.graph.proofs.Below.{length-table}
use Rattle.rules.specs.Job.{Bytes}
use Rattle.rules.specs.Result.{words, record_of}
use Rattle.rules.specs.declared.Kind.{Kind}
use Rattle.rules.proofs.Job.{part-table}
use Rattle.rules.proofs.Block.{length-words, length-parts, three-numbers}
use Rattle.memory.specs.Placed.{placed, Follows}
use Rattle.memory.proofs.Placed.{placed-none}
use Rattle.memory.proofs.Follows.{follows-once, follows-more}
use Rattle.types.specs.State.{row_in}
use Rattle.result.specs.Records.{kind_at, records_of, inferred_rows}

-- ── Records ──

module _ (kinds : List Kind) (s : ℕ) where
  pub length-records : (t : ℕ) → length (records_of kinds t s) ≡ t * 6
  unfolding records_of
  length-records t = length-parts 6 t _ (λ k _. rw (length-words, three-numbers))

  module _ (b : Bytes) (at : ℕ) where
    pub records-none : b ≡ placed b at (records_of kinds 0 s)
    unfolding records_of gather
    records-none = placed-none b at

    pub records-more : (k index : ℕ) {now after : Bytes} → at ≤ length b → index ≡ k - s → now ≡ placed b at (records_of kinds k s) →
        after ≡ placed now (at + 6 * k) (words (record_of (kind_at kinds k).origin index)) → after ≡ placed b at (records_of kinds (k + 1) s)
    unfolding records_of
    records-more k index room e written more =
        (follows-more _ k (record { is = written; behind = omega (arith, length-records k) }) room (follows-once (rw e at more))).is

-- ── Rows ──

-- Row k ends within the rows up to t.
pub row_room : (m : ℕ) {s k t : ℕ} → s ≤ k → k < t → (k - s) * m + m ≤ (t - s) * m
row_room m {s} {k} {t} l h =
    let e : suc (k - s) ≤ t - s = omega arith in
    omega (arith, suc-mul (k - s) m, mul-le-mul_right m e)

module _ (m : ℕ) (states : Bytes) (s : ℕ) where
  pub length-rows_from : (n : ℕ) → length (inferred_rows m states s n) ≡ n * m
  unfolding inferred_rows row_in
  length-rows_from n = length-parts m n _ (λ i _. length-table m _)

  module _ (b : Bytes) (at : ℕ) where
    pub rows_none : b ≡ placed b at (inferred_rows m states s (s - s))
    unfolding inferred_rows gather
    rows_none = rw sub_self (placed-none b at)

    pub rows_more : (k : ℕ) {now after : Bytes} → s ≤ k → at ≤ length b → 64 * k + m ≤ length states →
        now ≡ placed b at (inferred_rows m states s (k - s)) →
        after ≡ placed now (at + (k - s) * m) (take (64 * k + m - 64 * k) (drop (64 * k) states)) →
        after ≡ placed b at (inferred_rows m states s (k + 1 - s))
    unfolding inferred_rows row_in
    rows_more k {now} {after} l room within written more =
        let width : 64 * k + m - 64 * k ≡ m = omega arith in
        let number : s + (k - s) ≡ k = omega arith in
        let next : k + 1 - s ≡ k - s + 1 = omega arith in
        let before : Follows b at (inferred_rows m states s (k - s)) now (at + (k - s) * m) = record { is = written; behind = omega (arith, length-rows_from (k - s)) } in
        let row : after ≡ placed now (at + (k - s) * m) (row_in m states (s + (k - s))) = rw (number, ← part-table states (64 * k) m within) (rw width at more) in
        rw next (follows-more (λ i. row_in m states (s + i)) (k - s) before room (follows-once row)).is
