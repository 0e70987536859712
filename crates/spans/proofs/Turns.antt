-- One turn of each loop that passes the types by number: what it has shown of the types passed, and of one type more.
use mathlib.Core.Path.{◌≡◌, ◌∙◌}
use mathlib.Core.Logic.{inl, inr, ⊎_elim}
use mathlib.Core.List.{List}
use Prim.Native.Nat.{ℕ, ◌+◌, ◌*◌, ◌≤◌, ◌<◌, min, max}
use native.Mathlib.Omega.{arith}
use native.Mathlib.Decide.{dec_lt}
use lib.ListN.{length, get_or, set, length-set}
use lib.Seq.{get_or-set_same, get_or-set_other}
use borrow.Author.Count.{below_more}
use Rattle.distances.specs.Area.{cell_at, CellsWritten, Line}
use Rattle.distances.proofs.Area.{Asked, Passed, by_column, Stride, cell-kept, part-passed, cell-passed}
use Rattle.spans.specs.Tree.{opposite}
use Rattle.spans.specs.Growth.{Filled, Least}

-- One number more is written.
pub filled_more : {f : ℕ → ℕ} {before after : List ℕ} {k v : ℕ} → Filled k f before after → k < length before → v ≡ f k →
    Filled (k + 1) f before (set after k v)
filled_more {after = after} {k} {v} w h e = record {
  size = length-set after k v ∙ w.size;
  holds = below_more _ k
      (λ u b. get_or-set_other after k u v 0 (omega arith) ∙ w.holds u b)
      (get_or-set_same after k v 0 (omega (arith, w.size)) ∙ e);
  kept = λ u b. get_or-set_other after k u v 0 (omega arith) ∙ w.kept u (omega arith);
}

-- The least of one number more.
pub least_more : {f : ℕ → ℕ} {k r x : ℕ} → Least k f r → x ≡ min (f k) r → Least (k + 1) f x
least_more {f} {k} {r} {x} l e = record {
  at_most = below_more _ k (λ u h. omega (arith, l.at_most u h)) (omega arith);
  taken = elim (dec_lt (f k) r) [
    | yes h ↦ inr (k, omega arith, omega arith)
    | no h ↦ ⊎_elim (λ t. inl (omega arith)) (λ t. inr (t.0, omega (arith, t.1), omega (arith, t.2))) l.taken
  ];
}

-- A part of the mirror cells more: what stands opposite to it has not changed, since that is no mirror cell.
pub mirror_passed : {by : ℕ → ℕ → ℕ} {asked part : Asked} {k m : ℕ} {before mid after : List ℕ} →
    CellsWritten (Passed by asked k) (opposite before) before mid → Stride by asked part k m →
    ((i j : ℕ) → part i j → (i < 128) × ¬ Passed by asked k j i) → CellsWritten part (opposite mid) mid after →
    CellsWritten (Passed by asked m) (opposite before) before after
mirror_passed w turn free x =
    part-passed w turn x (λ i j t. cell-kept w (λ a b u. turn.narrow a b u.is) j i (free i j t).0 (free i j t).1)

-- A cell of a line more is written: it is made of what stood there and how far is reached now.
pub line_more : (made : ℕ → ℕ → ℕ) (step : ℕ) (reach : List ℕ) {v wide u far new : ℕ} {spans₀ spans : List ℕ} →
    CellsWritten (Passed by_column (Line v wide) u) (λ i x. made (cell_at spans₀ i x) (max (get_or reach x 0) step)) spans₀ spans →
    (u < wide) × (wide ≤ 128) × (128 * v + 128 ≤ length spans₀) → far ≡ max (get_or reach u 0) step → new ≡ made (cell_at spans v u) far →
    CellsWritten (Passed by_column (Line v wide) (u + 1)) (λ i x. made (cell_at spans₀ i x) (max (get_or reach x 0) step)) spans₀
    (set spans (128 * v + u) new)
line_more made step reach {v} {u = u} w h e g =
    let was = cell-kept w (omega arith) v u (omega arith) (omega arith) in
    cell-passed w (omega arith) (omega arith) (g ∙ rw (was, e))
