-- A row goes behind the others, and those behind it move down by a row.
use mathlib.Core.Path.{◌≡◌, refl, sym, ap, ◌∙◌}
use mathlib.Core.List.{List, ◌++◌, append_assoc}
use Prim.Native.Nat.{ℕ, ◌+◌, ◌*◌, ◌-◌, ◌≤◌, ◌<◌}
use native.Mathlib.Omega.{arith}
use lib.ListN.{length, take, drop, length-append, length-drop}
use lib.Seq.{length-take-le, drop-drop}
use borrow.Rule.Slice.PartMut.{put_mid}
use Rattle.std.specs.List.{copy_within}
use Rattle.rules.specs.Job.{Bytes}
use Rattle.rules.proofs.Block.{Stands, stands_in, stands_front, stands_rear, stands_part}
use Rattle.types.specs.State.{stored_at, rows_from}
use Rattle.memory.specs.Placed.{placed}
use Rattle.memory.proofs.Placed.{stands_placed, placed_over, placed-twice, length-placed}

-- A part of what is lent, written through a slice of its own.
pub part-placed : {A : Type 0} (b xs : List A) (at n : ℕ) → length xs ≡ n → put_mid at n b xs ≡ placed b at xs
unfolding placed
part-placed b xs at n e =
    sym (append_assoc (take at b) xs _) ∙ ap (λ (rest : _). take at b ++ xs ++ rest) (drop-drop n at b ∙ ap (λ (k : ℕ). drop (at + k) b) (sym e))

module _ (b : Bytes) (i made : ℕ) (below : i < made) (room : 64 * made ≤ length b) where
  -- The rows behind row i, copied to where that one stood.
  pub moved_down : (now : Bytes) → now ≡ copy_within b (64 * i + 64) (64 * made) (64 * i) → now ≡ placed b (64 * i) (rows_from b (i + 1) made)
  unfolding placed
  moved_down now e =
      let n : 64 * made - (64 * i + 64) ≡ 64 * (made - (i + 1)) = omega arith in
      let from : 64 * i + 64 ≡ 64 * (i + 1) = omega arith in
      let size = length-take-le (64 * (made - (i + 1))) (drop (64 * (i + 1)) b) (rw length-drop (omega arith)) in
      rw size (rw (n, from) at e)

  -- The row, put behind them.
  pub row-behind : (now row : Bytes) → now ≡ placed b (64 * i) (rows_from b (i + 1) made) →
      placed now (64 * made - 64) row ≡ placed b (64 * i) (rows_from b (i + 1) made ++ row)
  row-behind now row e =
      let size = length-take-le (64 * (made - (i + 1))) (drop (64 * (i + 1)) b) (rw length-drop (omega arith)) in
      rw e (placed-twice b (rows_from b (i + 1) made) (64 * i) (omega arith) (64 * made - 64) row (omega (arith, size)))

-- Of what stands at the front, a row behind xs goes behind all that follows it.
pub row-to-end : (b xs row ys : Bytes) (a made : ℕ) → length xs ≡ 64 * a → length row ≡ 64 → length ys ≡ 64 * (made - (a + 1)) →
    a < made → 64 * made ≤ length b → (area : Bytes) → area ≡ placed b 0 (xs ++ (row ++ ys)) →
    placed area (64 * a) (rows_from area (a + 1) made ++ stored_at area a) ≡ placed b 0 (xs ++ (ys ++ row))
row-to-end b xs row ys a made ex er ey h l area is =
    let all = stands_placed b (xs ++ (row ++ ys)) 0 (omega arith) in
    let behind = stands_in all (stands_rear xs (row ++ ys) ex) refl in
    let whole = placed b 0 (xs ++ (row ++ ys)) in
    let first : Stands whole (64 * a) row = stands_in behind (stands_front row ys) (omega arith) in
    let later : Stands whole (64 * (a + 1)) ys = stands_in behind (stands_rear row ys er) (omega arith) in
    let here : stored_at area a ≡ row = rw is (rw er at (stands_part first)) in
    let rest : rows_from area (a + 1) made ≡ ys = rw is (rw ey at (stands_part later)) in
    let base = placed b 0 xs in
    let size = length-placed b xs 0 (omega arith) in
    let twice : (zs : Bytes) → placed base (64 * a) zs ≡ placed b 0 (xs ++ zs) =
    λ zs. placed-twice b xs 0 (omega arith) (64 * a) zs (omega arith) in
    rw (here, rest, is, ← twice (row ++ ys))
    (placed_over base (row ++ ys) (64 * a) (omega arith) (ys ++ row) (omega (arith, length-append row ys, length-append ys row)) ∙ twice (ys ++ row))
