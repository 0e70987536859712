-- The state area holds rows one behind the other: parted, it holds the rows that stay, those retired before, and those that go.
use mathlib.Core.Path.{◌≡◌, sym, ap, ◌∙◌}
use mathlib.Core.Logic.{inr, ⊎_elim}
use mathlib.Core.Bool.{Bool, not}
use mathlib.Core.List.{List, [], ◌++◌, append_assoc}
use Prim.Native.Nat.{ℕ, ◌+◌, ◌*◌, ◌-◌, ◌≤◌}
use native.Mathlib.Omega.{arith}
use lib.ListN.{length, take, drop, replicate, take-append-drop, length-drop, length-replicate}
use lib.Seq.{length-take-le, get_or-take, get_or-drop}
use Rattle.graph.specs.Below.{gather, given, only}
use Rattle.graph.proofs.Below.{gather_ext, In, in_at, in_append, in_gather, in_only, each-place}
use Rattle.rules.specs.Job.{Bytes, Row}
use Rattle.rules.specs.Types.{row_at}
use Rattle.rules.specs.Call.{padded}
use Rattle.rules.proofs.Block.{Stands, stands_in, stands_rear, stands_part}
use Rattle.memory.specs.Placed.{placed}
use Rattle.memory.proofs.Placed.{stands_placed, placed_over, length-placed, placed-padded}
use Rattle.types.specs.State.{stored, stored_at, laid, rows_from}
use Rattle.types.proofs.State.{OfWidth, length-laid, laid_both, laid-gather, laid-at}
use Rattle.purge.specs.Left.{is_kept, parted}
use Rattle.purge.proofs.retire.Parted.{parted-size}

-- Of the first t rows those that a test chooses. The rows that stay, the rows retired before, and the rows that go.
abbrev chosen_rows : ℕ → List Row → (ℕ → Bool) → List Row
chosen_rows t rs p = gather t (λ k. only (p k) (row_at rs k))

abbrev pub parted_rows : List ℕ → ℕ → ℕ → List Row → List Row
parted_rows kept count t rs = chosen_rows t rs (is_kept kept count) ++ (drop t rs ++ chosen_rows t rs (λ k. not (is_kept kept count k)))

-- Each of them is one of the rows, so their width is kept.
module _ (kept : List ℕ) (count t : ℕ) (rs : List Row) (l : t ≤ length rs) where
  in_chosen : (r : Row) (p : ℕ → Bool) → In r (chosen_rows t rs p) → In r rs
  in_chosen r p h =
      let (k, m, i) = (in_gather r t (λ k. only (p k) (row_at rs k))).0 h in
      rw ((in_only r (p k) (row_at rs k)).0 i).1 (in_at rs k [] (omega arith))

  in_parted : (r : Row) → In r (parted_rows kept count t rs) → In r rs
  in_parted r h =
      let gone : ℕ → Bool = λ k. not (is_kept kept count k) in
      let behind = drop t rs ++ chosen_rows t rs gone in
      ⊎_elim (in_chosen r (is_kept kept count))
      (λ g. ⊎_elim (λ d. rw (take-append-drop t rs) at ((in_append r (take t rs) (drop t rs)).1 (inr d))) (in_chosen r gone)
      ((in_append r (drop t rs) (chosen_rows t rs gone)).0 g))
      ((in_append r (chosen_rows t rs (is_kept kept count)) behind).0 h)

  pub parted-wide : (m : ℕ) → OfWidth m rs → OfWidth m (parted_rows kept count t rs)
  parted-wide m wide =
      (each-place (λ r. length r ≡ m) (parted_rows kept count t rs) []).1 (λ r h. (each-place (λ r. length r ≡ m) rs []).0 wide r (in_parted r h))

module _ (m : ℕ) (rs : List Row) (small : m ≤ 64) (wide : OfWidth m rs) (b : Bytes) where
  -- The rows from t on.
  laid_from : (t : ℕ) → t ≤ length rs → rows_from (placed b 0 (laid rs)) t (length rs) ≡ laid (drop t rs)
  laid_from t l =
      let n = length-take-le t rs l in
      let k = length-drop t rs in
      let before : length (laid (take t rs)) ≡ 64 * t =
      length-laid m (take t rs) small (λ i h. rw (get_or-take t rs i [] (omega arith)) (wide i (omega arith))) ∙ ap (λ (n : ℕ). 64 * n) n in
      let behind : length (laid (drop t rs)) ≡ 64 * (length rs - t) =
      length-laid m (drop t rs) small (λ i h. rw (get_or-drop t rs i []) (wide (t + i) (omega arith))) ∙ ap (λ (n : ℕ). 64 * n) k in
      let both = laid_both (take t rs) (drop t rs) in
      let all : Stands (placed b 0 (laid rs)) 0 (laid (take t rs) ++ laid (drop t rs)) =
      rw (← both, take-append-drop) (stands_placed b (laid rs) 0 (omega arith)) in
      let s : Stands (placed b 0 (laid rs)) (64 * t) (laid (drop t rs)) =
      stands_in all (stands_rear (laid (take t rs)) (laid (drop t rs)) before) (omega arith) in
      rw behind at (stands_part s)

  -- What is chosen of the first t stored rows.
  laid-chosen : (t : ℕ) (p : ℕ → Bool) → t ≤ length rs →
      gather t (λ k. given (p k) (stored_at (placed b 0 (laid rs)) k)) ≡ laid (chosen_rows t rs p)
  laid-chosen t p l =
      gather_ext t _ (λ k. given (p k) (stored (row_at rs k))) (λ k h. ap (given (p k)) (laid-at m rs small wide b k (omega arith)))
      ∙ sym (laid-gather t p (row_at rs))

  parted-is : (kept : List ℕ) (count t : ℕ) → t ≤ length rs →
      parted kept count t (length rs) (placed b 0 (laid rs)) ≡ laid (parted_rows kept count t rs)
  unfolding parted
  parted-is kept count t l =
      rw (laid-chosen t (is_kept kept count) l, laid_from t l, laid-chosen t (λ k. not (is_kept kept count k)) l)
      (rw (laid_both, laid_both, append_assoc))

-- Parted, the area that holds rows and zeros behind them holds the same rows in another order.
pub parted-laid : (m : ℕ) (rs : List Row) → m ≤ 64 → OfWidth m rs → (kept : List ℕ) (count t N : ℕ) → t ≤ length rs → 64 * length rs ≤ N →
    (states : Bytes) → states ≡ padded N (laid rs) →
    placed states 0 (parted kept count t (length rs) states) ≡ padded N (laid (parted_rows kept count t rs))
parted-laid m rs small wide kept count t N l room states e =
    let zeros : Bytes = replicate N 0 in
    let area = placed zeros 0 (laid rs) in
    let is : states ≡ area = e ∙ sym (placed-padded N (laid rs)) in
    let full = length-replicate {A = ℕ} N 0 in
    let n = length-laid m rs small wide in
    let k = length-placed zeros (laid rs) 0 (omega arith) in
    let size = parted-size kept count area t (length rs) l (omega arith) in
    rw is (placed_over zeros (laid rs) 0 (omega arith) (parted kept count t (length rs) area) (omega arith)
    ∙ ap (placed zeros 0) (parted-is m rs small wide zeros kept count t l) ∙ placed-padded N _)
