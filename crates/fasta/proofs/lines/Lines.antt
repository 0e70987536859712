-- Laws of a text's lines.
use mathlib.Core.Path.{◌≡◌, refl}
use mathlib.Core.Bool.{Bool, true, false, cond, not, ◌&&◌, and-eq-true_iff}
use Prim.Native.Nat.{ℕ, zero, suc, ◌≤◌}
use native.Mathlib.Omega.{arith}
use lib.Dec.{eqb}
use borrow.Author.Tests.{not-true}
use Rattle.rules.specs.Job.{Bytes}
use Rattle.fasta.specs.Lines.{lf, byte_at, line_start, in_header, ends_line, opens, is_state}

-- A line starts no later than its bytes.
pub start-within : (text : Bytes) (i : ℕ) → line_start text i ≤ i
unfolding line_start
start-within text zero = omega arith
start-within text (suc i) = go (eqb (byte_at text i) lf) (start-within text i)
  where
    go : (t : Bool) → line_start text i ≤ i → cond t (suc i) (line_start text i) ≤ suc i
    go true h = omega arith
    go false h = omega arith

and_false : (a : Bool) → a && false ≡ false
and_false true = refl
and_false false = refl

-- A byte of a line that opens a sequence is no state, and a state opens none.
pub no_opener : (text : Bytes) (i : ℕ) → is_state text i ≡ true → opens text i ≡ false
no_opener text i s =
    let out : in_header text i ≡ false = not-true _ ((and-eq-true_iff (not (in_header text i)) (not (ends_line text i))).0 s).0 in
    rw out (and_false (eqb (line_start text i) i))
