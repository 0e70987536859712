-- New rows go behind the current ones, and the rows retired before move up behind them.
use mathlib.Core.Path.{◌≡◌, refl, sym, ap, ap₂, ◌∙◌}
use mathlib.Core.List.{List, [], ◌∷◌, ◌++◌, map, append-nil}
use Prim.Native.Nat.{ℕ, suc, ◌+◌, ◌*◌, ◌-◌, ◌≤◌}
use native.Mathlib.Omega.{arith}
use lib.ListN.{length, take, drop, replicate, length-append, length-drop, length-replicate}
use lib.Seq.{length-take-le, take_at}
use Rattle.rules.specs.Job.{Bytes, Row}
use Rattle.rules.specs.Call.{padded}
use Rattle.rules.proofs.Block.{stands_part}
use Rattle.memory.specs.Placed.{placed}
use Rattle.memory.proofs.Placed.{stands_placed, placed_over, placed-twice, length-placed, placed-padded}
use Rattle.types.specs.State.{stored, laid, rows_from}
use Rattle.types.proofs.State.{OfWidth, length-stored, length-laid, laid-append, laid_both}

-- What is placed, with all that stands before it.
taken-placed : (b xs : Bytes) (at n : ℕ) → at ≤ length b → at + length xs ≡ n → take n (placed b at xs) ≡ take at b ++ xs
unfolding placed
taken-placed b xs at n room e =
    take_at (take at b ++ xs) (drop (at + length xs) b) n (rw (length-append, length-take-le at b room) e)

-- The rows from t on to before `made`.
module _ (b : Bytes) (t made : ℕ) (l : t ≤ made) (room : 64 * made ≤ length b) where
  rows-size : length (rows_from b t made) ≡ 64 * (made - t)
  rows-size = length-take-le (64 * (made - t)) (drop (64 * t) b) (rw length-drop (omega arith))

  module _ (rows : Bytes) (count : ℕ) (fits : 64 * count ≤ length rows) where
    -- They are copied behind the new ones, and both are read as one.
    pub rows_behind : (all : Bytes) → all ≡ placed rows (64 * count) (take (64 * made - 64 * t) (drop (64 * t) b)) →
        take (64 * count + 64 * made - 64 * t) all ≡ take (64 * count) rows ++ rows_from b t made
    rows_behind all e =
        let n : 64 * made - 64 * t ≡ 64 * (made - t) = omega arith in
        rw (e, n) (taken-placed rows (rows_from b t made) (64 * count) (64 * count + 64 * made - 64 * t) fits (omega (arith, rows-size)))

    pub between-size : length (take (64 * count) rows ++ rows_from b t made) ≡ 64 * count + 64 * made - 64 * t
    between-size = rw (length-append, length-take-le (64 * count) rows fits) (omega (arith, rows-size))

-- Where xs and zs stand at the front of an area, ys goes between them.
module _ (b xs zs area : Bytes) (n : ℕ) (size : length xs ≡ n) (room : n + length zs ≤ length b) (is : area ≡ placed b 0 (xs ++ zs)) where
  twice : (ys : Bytes) → placed (placed b 0 xs) n ys ≡ placed b 0 (xs ++ ys)
  twice ys = placed-twice b xs 0 (omega arith) n ys (omega arith)

  base_size : length (placed b 0 xs) ≡ length b
  base_size = length-placed b xs 0 (omega arith)

  rear_is : take (length zs) (drop n area) ≡ zs
  rear_is = rw (is, ← twice zs) (stands_part (stands_placed (placed b 0 xs) zs n (omega (arith, base_size))))

  put-between : (ys : Bytes) → placed area n (ys ++ zs) ≡ placed b 0 (xs ++ (ys ++ zs))
  put-between ys =
      rw (is, ← twice zs)
      (placed_over (placed b 0 xs) zs n (omega (arith, base_size)) (ys ++ zs) (omega (arith, length-append ys zs)) ∙ twice (ys ++ zs))

-- Rows as they are stored are stored as the rows are.
stored-twice : (r : Row) → length r ≤ 64 → stored (stored r) ≡ stored r
stored-twice r h = rw (length-stored r h) (append-nil (stored r))

pub laid-stored : (m : ℕ) (xs : List Row) → m ≤ 64 → OfWidth m xs → laid (map stored xs) ≡ laid xs
laid-stored m [] small wide = refl
laid-stored m (x ∷ xs) small wide =
    let first : laid (stored x ∷ []) ≡ laid (x ∷ []) =
    laid-append [] (stored x) ∙ ap (λ (b : Bytes). laid [] ++ b) (stored-twice x (omega (arith, wide 0 (omega arith)))) ∙ sym (laid-append [] x) in
    laid_both (stored x ∷ []) (map stored xs) ∙ ap₂ ◌++◌ first (laid-stored m xs small (λ i h. wide (suc i) (omega arith)))
    ∙ sym (laid_both (x ∷ []) xs)

-- So the state area that holds current rows and retired ones holds the new rows between them.
pub rows-between : (m : ℕ) (cs xs ds : List Row) → m ≤ 64 → OfWidth m cs → OfWidth m xs → OfWidth m ds → (N count t made : ℕ) → 64 * made ≤ N →
    length cs ≡ t → length xs ≡ count → t + length ds ≡ made → (states rows : Bytes) → states ≡ padded N (laid (cs ++ ds)) →
    rows ≡ padded 8192 (laid (map stored xs)) →
    placed states (64 * t) (take (64 * count) rows ++ rows_from states t made) ≡ padded N (laid (cs ++ (xs ++ ds)))
rows-between m cs xs ds small wc wx wd N count t made room nc nx nd states rows es er =
    let zeros : Bytes = replicate N 0 in
    let full = length-replicate {A = ℕ} N 0 in
    let lc = length-laid m cs small wc in
    let lx = length-laid m xs small wx in
    let ld = length-laid m ds small wd in
    let is : states ≡ placed zeros 0 (laid cs ++ laid ds) = es ∙ sym (placed-padded N (laid (cs ++ ds))) ∙ ap (placed zeros 0) (laid_both cs ds) in
    let size : length (laid cs) ≡ 64 * t = omega arith in
    let fits : 64 * t + length (laid ds) ≤ length zeros = omega arith in
    let k : length ds ≡ made - t = omega arith in
    let behind : rows_from states t made ≡ laid ds = rw (ld, k) at (rear_is zeros (laid cs) (laid ds) states (64 * t) size fits is) in
    let front : take (64 * count) rows ≡ laid xs = rw (er, laid-stored m xs small wx) (take_at (laid xs) _ (64 * count) (omega arith)) in
    rw (behind, front, laid_both, laid_both)
    (put-between zeros (laid cs) (laid ds) states (64 * t) size fits is (laid xs) ∙ placed-padded N _)
