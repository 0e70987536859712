-- Rows made, one behind the other: their width, and where they lie in a state area with zeros behind them.
use mathlib.Core.Path.{◌≡◌, sym, ap, ◌∙◌}
use mathlib.Core.List.{List, [], ◌++◌}
use Prim.Native.Nat.{ℕ, ◌+◌, ◌-◌, ◌≤◌, ◌<◌}
use native.Mathlib.Decide.{dec_lt}
use native.Mathlib.Omega.{arith}
use lib.ListN.{length, replicate, length-append, get_or-append}
use lib.Seq.{get_or-append-add}
use Rattle.rules.specs.Job.{Bytes, Row}
use Rattle.rules.specs.Types.{row_at, rows_of}
use Rattle.rules.specs.Purge.{Run}
use Rattle.rules.specs.Round.{made}
use Rattle.rules.specs.Call.{padded}
use Rattle.memory.proofs.Placed.{placed-padded}
use Rattle.types.specs.State.{stored, stored_at, laid}
use Rattle.types.proofs.State.{OfWidth, laid-at}

-- The width of rows behind others.
module _ (m : ℕ) (xs ys : List Row) where
  pub wide-front : OfWidth m (xs ++ ys) → OfWidth m xs
  wide-front w i h = rw (← get_or-append xs ys [] i h) (w i (omega (arith, length-append xs ys)))

  pub wide_rear : OfWidth m (xs ++ ys) → OfWidth m ys
  wide_rear w i h = rw (← get_or-append-add xs ys i []) (w (length xs + i) (omega (arith, length-append xs ys)))

  pub wide_both : OfWidth m xs → OfWidth m ys → OfWidth m (xs ++ ys)
  wide_both a b i h = elim (dec_lt i (length xs)) [
    | yes l ↦ rw (get_or-append xs ys [] i l) (a i l)
    | no l ↦ let at : i ≡ length xs + (i - length xs) = omega arith in
        ap (λ (k : ℕ). length (row_at (xs ++ ys) k)) at ∙ ap length (get_or-append-add xs ys (i - length xs) [])
        ∙ b (i - length xs) (omega (arith, length-append xs ys))
  ]

-- The current rows stand in front of the rows made.
pub current-row : (run : Run) (i : ℕ) → i < length (rows_of run.current) → row_at (made run) i ≡ row_at (rows_of run.current) i
current-row run i h = get_or-append (rows_of run.current) run.retired [] i h

module _ (m : ℕ) (run : Run) (narrow : m ≤ 64) (wide : OfWidth m (made run)) (states : Bytes) (N : ℕ) (is : states ≡ padded N (laid (made run))) where
  pub lies_made : (i : ℕ) → i < length (made run) → stored_at states i ≡ stored (row_at (made run) i)
  lies_made i h = rw (is ∙ sym (placed-padded N (laid (made run)))) (laid-at m (made run) narrow wide (replicate N 0) i h)

  pub lies-current : (i : ℕ) → i < length (rows_of run.current) → stored_at states i ≡ stored (row_at (rows_of run.current) i)
  lies-current i h = rw (← current-row run i h) (lies_made i (omega (arith, length-append (rows_of run.current) run.retired)))
