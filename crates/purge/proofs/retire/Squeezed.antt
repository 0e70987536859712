-- Distances move together in place: a cell's number comes from a cell that is not yet written, line after line.
use mathlib.Core.Path.{◌≡◌, refl, ◌∙◌}
use mathlib.Core.Bool.{Bool, true, false, cond, ◌&&◌, and-eq-true_iff}
use mathlib.Core.List.{List}
use Prim.Native.Nat.{ℕ, ◌+◌, ◌*◌, ◌≤◌, ◌<◌}
use native.Mathlib.Omega.{arith}
use borrow.Author.Tests.{ltb-true, lt-ltb}
use lib.Dec.{ltb}
use lib.ListN.{length, get_or, set}
use Rattle.graph.proofs.Below.{is_false}
use Rattle.distances.specs.Area.{cell_at, CellsWritten, Line}
use Rattle.distances.proofs.Area.{Asked, Narrow, Passed, by_line, by_column, cell-kept, part-passed, cell-passed}
use Rattle.purge.specs.Left.{Chosen, Among, squeezed}
use Rattle.purge.proofs.retire.Kept.{at_least}

both-stay : (i j count : ℕ) → (ltb i j && ltb j count) ≡ true → (i < j) × (j < count)
both-stay i j count e = let both = (and-eq-true_iff (ltb i j) (ltb j count)).0 e in (ltb-true i j both.0, ltb-true j count both.1)

-- A cell's number: where both types stay, what stood at their places, and else 0.
pub squeezed-stays : (kept : List ℕ) (count : ℕ) (area : List ℕ) (i j : ℕ) → i < j → j < count →
    squeezed kept count area i j ≡ cell_at area (get_or kept i 0) (get_or kept j 0)
squeezed-stays kept count area i j h l = rw (lt-ltb i j h, lt-ltb j count l)

pub squeezed-none : (kept : List ℕ) (count : ℕ) (area : List ℕ) (i j : ℕ) → (i < j → j < count → ⊥) → squeezed kept count area i j ≡ 0
squeezed-none kept count area i j h = rw (is_false (ltb i j && ltb j count) (λ e. let (a, b) = both-stay i j count e in h a b))

module _ {kept : List ℕ} {count t : ℕ} (chosen : Chosen kept count t) (narrow : t ≤ 128) {before area : List ℕ} where
  -- It comes from what stood there before, where its places are not yet written.
  from-before : {asked : Asked} {f : ℕ → ℕ → ℕ} → CellsWritten asked f before area → Narrow asked → (i j : ℕ) →
      (i < j → j < count → asked (get_or kept i 0) (get_or kept j 0) → ⊥) → squeezed kept count area i j ≡ squeezed kept count before i j
  from-before w n i j free = go (ltb i j && ltb j count) (both-stay i j count)
    where
      go : (t : Bool) → (t ≡ true → (i < j) × (j < count)) →
          cond t (cell_at area (get_or kept i 0) (get_or kept j 0)) 0 ≡ cond t (cell_at before (get_or kept i 0) (get_or kept j 0)) 0
      go true stay = let (h, l) = stay refl in cell-kept w n (get_or kept i 0) (get_or kept j 0) (omega (arith, chosen.within j l)) (free h l)
      go false stay = refl

  -- One cell more of a line, and one line more.
  pub cell-squeezed : {a b : ℕ} → CellsWritten (Passed by_column (Line a t) b) (squeezed kept count before) before area →
      (a < t) × (b < t) × (16384 ≤ length before) → (v : ℕ) → v ≡ squeezed kept count area a b →
      CellsWritten (Passed by_column (Line a t) (b + 1)) (squeezed kept count before) before (set area (128 * a + b) v)
  cell-squeezed {a} {b} w h v e =
      cell-passed w (omega arith) (omega arith) (e ∙ from-before w (omega arith) a b (λ g k u. omega (arith, at_least chosen b k)))

  pub line-squeezed : {a : ℕ} {after : List ℕ} → CellsWritten (Passed by_line (Among t) a) (squeezed kept count before) before area → a < t →
      CellsWritten (Line a t) (squeezed kept count area) area after →
      CellsWritten (Passed by_line (Among t) (a + 1)) (squeezed kept count before) before after
  line-squeezed w h x =
      part-passed w (omega arith) x
      (λ i j u. from-before w (omega arith) i j (λ g k v. omega (arith, at_least chosen i (omega arith))))
