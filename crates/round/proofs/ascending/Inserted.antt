-- A row put into its place in memory: the rows from there on move up by one, and what is laid out is the list with the row put in.
use mathlib.Core.Path.{◌≡◌, refl, sym, ap, ◌∙◌}
use mathlib.Core.Bool.{Bool, true, false, cond, not}
use mathlib.Core.List.{List, [], ◌∷◌, ◌++◌, append-nil, append_assoc}
use Prim.Native.Nat.{ℕ, suc, ◌+◌, ◌*◌, ◌-◌, ◌≤◌, ◌<◌}
use native.Mathlib.Numerals.{add-one}
use native.Mathlib.Omega.{arith}
use lib.ListN.{length, take, drop, take-append-drop, length-append, length-take, length-drop}
use lib.Seq.{length-take-le, drop_at, get_or-take, get_or-drop}
use Rattle.std.specs.List.{copy_within}
use Rattle.graph.specs.Below.{first, gather}
use Rattle.graph.proofs.Below.{In, in_at, first-is, first_le, first-before, first-hits}
use Rattle.rules.specs.Job.{Bytes, Row}
use Rattle.rules.specs.Types.{row_at}
use Rattle.rules.proofs.Block.{Stands, stands_in, stands_rear, stands_part}
use Rattle.types.specs.State.{stored, stored_at, laid, rows_from}
use Rattle.types.proofs.State.{length-stored_at, OfWidth, laid_both, laid_none, length-laid, laid-at}
use Rattle.memory.specs.Placed.{placed}
use Rattle.memory.proofs.Placed.{stands_placed, take-placed, drop-placed, placed_over, placed-twice, length-placed}
use Rattle.round.specs.Sorted.{before, put, sorted, row_place, with_row}
use Rattle.round.proofs.ascending.Sorted.{length-sorted, sorted-wide}

-- The first is within the numbers searched.
pub within : (n : ℕ) (p : ℕ → Bool) (r : ℕ) → r ≡ first n p → r ≤ n
within n p r e = rw e (first_le n p)

-- Where a row is put among others, and what that makes of them.
abbrev spot : Row → List Row → ℕ
spot r ys = first (length ys) (λ k. not (before (row_at ys k) r))

put-parts : (r : Row) (ys : List Row) → put r ys ≡ take (spot r ys) ys ++ (r ∷ drop (spot r ys) ys)
unfolding put first
put-parts r [] = refl
put-parts r (y ∷ ys) = go (before y r) (put-parts r ys)
  where
    go : (t : Bool) → put r ys ≡ take (spot r ys) ys ++ (r ∷ drop (spot r ys) ys) →
        cond t (y ∷ put r ys) (r ∷ y ∷ ys)
        ≡ take (cond (not t) 0 (suc (spot r ys))) (y ∷ ys) ++ (r ∷ drop (cond (not t) 0 (suc (spot r ys))) (y ∷ ys))
    go true e = ap (λ (zs : List Row). y ∷ zs) e
    go false e = refl

-- The rows with this one as number i, and those from there on moved up.
abbrev inserted : Bytes → ℕ → Bytes → ℕ → Bytes
inserted rows count row i = placed rows (64 * i) (row ++ rows_from rows i count)

-- Bytes placed in front of others that were.
pub placed-front : (b xs ys : Bytes) (at k : ℕ) → at + length xs ≡ k → k ≤ length b → placed (placed b k ys) at xs ≡ placed b at (xs ++ ys)
unfolding placed
placed-front b xs ys at k e h =
    let rest = drop (k + length ys) b in
    let behind : drop k (take k b ++ ys ++ rest) ≡ ys ++ rest =
    rw (append_assoc (take k b) ys rest) (drop_at (take k b) (ys ++ rest) k (length-take-le k b h)) in
    let all : at + length (xs ++ ys) ≡ k + length ys = omega (arith, length-append xs ys) in
    rw (take-placed b ys k h at (omega arith), e, behind, all) (simp append_assoc)

-- The rows from number i on, copied to a place.
pub copied_to : (rows after : Bytes) (count i at : ℕ) → 64 * count ≤ length rows → after ≡ copy_within rows (64 * i) (64 * count) at →
    after ≡ placed rows at (rows_from rows i count)
unfolding placed
copied_to rows after count i at room e =
    let n : 64 * count - 64 * i ≡ 64 * (count - i) = omega arith in
    let size = length-take-le (64 * (count - i)) (drop (64 * i) rows) (rw length-drop (omega arith)) in
    rw size (rw n at e)

-- The rows from its place on moved up, and the row put there.
pub moved_with_row : (rows row moved after : Bytes) (count i : ℕ) → length rows ≡ 8192 → length row ≡ 64 → count < 128 → i ≡ row_place rows count row →
    moved ≡ placed rows (64 * i + 64) (rows_from rows i count) → after ≡ placed moved (64 * i) row → after ≡ with_row rows count row
unfolding with_row
moved_with_row rows row moved after count i size wide small p m e =
    let le = within _ _ i p in
    e ∙ ap (λ (b : Bytes). placed b (64 * i) row) m
    ∙ placed-front rows row (rows_from rows i count) (64 * i) (64 * i + 64) (omega arith) (omega arith)
    ∙ ap (inserted rows count row) p

-- Bytes put between two parts of what stands at the front: the second part moves up.
between : (b xs row ys : Bytes) (at n : ℕ) → length xs ≡ at → length ys ≡ n → at ≤ length b → (area : Bytes) → area ≡ placed b 0 (xs ++ ys) →
    placed area at (row ++ take n (drop at area)) ≡ placed b 0 (xs ++ (row ++ ys))
between b xs row ys at n ex ey h area is =
    let base = placed b 0 xs in
    let twice : (zs : Bytes) → placed base at zs ≡ placed b 0 (xs ++ zs) = λ zs. placed-twice b xs 0 (omega arith) at zs (omega arith) in
    let later : Stands (placed b 0 (xs ++ ys)) at ys = stands_in (stands_placed b (xs ++ ys) 0 (omega arith)) (stands_rear xs ys ex) (omega arith) in
    let rest : take n (drop at area) ≡ ys = rw (is, ← ey) (stands_part later) in
    let size = length-placed b xs 0 (omega arith) in
    rw (rest, is, ← twice ys)
    (placed_over base ys at (omega arith) (row ++ ys) (omega (arith, length-append row ys)) ∙ twice (row ++ ys))

-- A row of 64 bytes is stored as it is.
stored-whole : (r : Row) → length r ≡ 64 → stored r ≡ r
stored-whole r e = rw e (append-nil r)

laid_one : (r : Row) → length r ≡ 64 → laid (r ∷ []) ≡ r
unfolding laid gather
laid_one r e = stored-whole r e

-- Rows of 64 bytes, with zeros behind them: the list with a row put in.
module _ (ys : List Row) (wide : (y : Row) → In y ys → length y ≡ 64) where
  of_width : OfWidth 64 ys
  of_width i h = wide (row_at ys i) (in_at ys i [] h)

  front-width : (i : ℕ) → OfWidth 64 (take i ys)
  front-width i k h =
      let n = length-take i ys in rw (get_or-take i ys k [] (omega arith)) (of_width k (omega arith))

  rear_width : (i : ℕ) → OfWidth 64 (drop i ys)
  rear_width i k h =
      let n = length-drop i ys in rw (get_or-drop i ys k []) (of_width (i + k) (omega arith))

  -- They lie in front of some memory.
  module _ (b rows : Bytes) (is : rows ≡ placed b 0 (laid ys)) where
    laid-row : (k : ℕ) → k < length ys → stored_at rows k ≡ row_at ys k
    laid-row k h = rw (is, laid-at 64 ys (omega arith) of_width b k h) (stored-whole (row_at ys k) (of_width k h))

    spot_is : (row : Row) → row_place rows (length ys) row ≡ spot row ys
    spot_is row =
        let n = length ys in
        let q : ℕ → Bool = λ k. not (before (row_at ys k) row) in
        let same : (k : ℕ) → k < n → not (before (stored_at rows k) row) ≡ q k = λ k h. ap (λ (x : Row). not (before x row)) (laid-row k h) in
        let le = first_le n q in
        first-is n _ (first n q) le (λ k h. same k (omega arith) ∙ first-before n q k h) (λ h. same (first n q) h ∙ first-hits n q h)

    pub row-inserted : (count : ℕ) (row : Row) → count ≡ length ys → 64 * count ≤ length b → length row ≡ 64 →
        with_row rows count row ≡ placed b 0 (laid (put row ys))
    unfolding with_row
    row-inserted count row c h r =
        let i = spot row ys in
        let le = first_le (length ys) (λ k. not (before (row_at ys k) row)) in
        let xs = laid (take i ys) in
        let zs = laid (drop i ys) in
        let front : length xs ≡ 64 * i = length-laid 64 (take i ys) (omega arith) (front-width i) ∙ rw (length-take-le i ys le) in
        let rear : length zs ≡ 64 * (count - i) = length-laid 64 (drop i ys) (omega arith) (rear_width i) ∙ rw (length-drop, c) in
        let parts : laid ys ≡ xs ++ zs = ap laid (sym (take-append-drop i ys)) ∙ laid_both (take i ys) (drop i ys) in
        let more : laid (put row ys) ≡ xs ++ (row ++ zs) =
        rw (put-parts row ys, laid_both (take i ys) (row ∷ drop i ys), laid_both (row ∷ []) (drop i ys), laid_one row r) in
        ap (inserted rows count row) (rw c (spot_is row))
        ∙ between b xs row zs (64 * i) (64 * (count - i)) front rear (omega arith) rows (is ∙ ap (placed b 0) parts)
        ∙ ap (placed b 0) (sym more)

-- Turn by turn: no row, and one more of the rows found.
module _ (found : Bytes) where
  sorted-found : (k : ℕ) → 64 * k ≤ length found → (y : Row) → In y (sorted k (stored_at found)) → length y ≡ 64
  sorted-found k h = sorted-wide k (stored_at found) 64 (λ i g. length-stored_at found i (omega arith))

  pub length-laid-sorted : (k : ℕ) → 64 * k ≤ length found → length (laid (sorted k (stored_at found))) ≡ 64 * k
  length-laid-sorted k h =
      length-laid 64 (sorted k (stored_at found)) (omega arith) (of_width (sorted k (stored_at found)) (sorted-found k h)) ∙ rw (length-sorted k (stored_at found))

  pub sorted_none : found ≡ placed found 0 (laid (sorted 0 (stored_at found)))
  unfolding sorted
  sorted_none = laid_none found

  module _ (k : ℕ) (l : 64 * k + 64 ≤ length found) where
    pub sorted_more : (rows row : Bytes) → rows ≡ placed found 0 (laid (sorted k (stored_at found))) → row ≡ stored_at rows k →
        with_row rows k row ≡ placed found 0 (laid (sorted (k + 1) (stored_at found)))
    unfolding sorted
    sorted_more rows row is read =
        let f = stored_at found in
        let ys = sorted k f in
        let long = length-laid-sorted k (omega arith) in
        let own : row ≡ f k = read ∙ rw is (ap (take 64) (drop-placed found (laid ys) 0 (omega arith) (64 * k) (omega arith))) in
        rw (add-one, ← own) (row-inserted ys (sorted-found k (omega arith)) found rows is k row (sym (length-sorted k f)) (omega arith)
        (ap length own ∙ length-stored_at found k l))
