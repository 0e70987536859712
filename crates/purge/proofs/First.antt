-- Memory begins to hold a run: types lie in a state area with zeros behind them, and their distances are filled into an area of
-- zeros. So there is memory that holds a run, whatever its types are.
use mathlib.Core.Path.{◌≡◌, refl, sym, ◌∙◌}
use mathlib.Core.List.{List, [], append-nil}
use Prim.Native.Nat.{ℕ, zero, suc, ◌≤◌}
use native.Mathlib.Omega.{arith}
use lib.ListN.{length, get_or, replicate, length-map}
use Rattle.rules.specs.Job.{Bytes}
use Rattle.rules.specs.Types.{Node, rows_of}
use Rattle.rules.specs.Call.{padded}
use Rattle.memory.proofs.Placed.{placed-padded}
use Rattle.types.specs.State.{laid, kinds_of}
use Rattle.types.proofs.State.{OfWidth, laid-at}
use Rattle.distances.specs.Area.{CellsWritten, New, stored_apart}
use Rattle.distances.proofs.Measured.{measures_all}
use Rattle.purge.specs.Holds.{Holds}
use Rattle.purge.specs.declared.state.Phase.{Phase}

all_zero : (n p : ℕ) → get_or {A = ℕ} (replicate n 0) p 0 ≡ 0
all_zero zero p = refl
all_zero (suc n) zero = refl
all_zero (suc n) (suc p) = all_zero n p

module _ (m : ℕ) (ws : List ℕ) (ts : List Node) (few : length ts ≤ 128) (narrow : m ≤ 64) (wide : OfWidth m (rows_of ts)) (weighed : length ws ≡ m)
    (states : Bytes) (lie : states ≡ padded (length states) (laid (rows_of ts))) where
  pub holds-first : (N : ℕ) (area : List ℕ) (phase : Phase) →
      CellsWritten (New 0 (length ts)) (stored_apart (padded 64 ws) states) (replicate N 0) area →
      Holds m ws (record { current = ts; retired = []; rounds = 0 }) states area
      (record { state = record { types = length ts; made = length ts; rounds = 0; phase = phase }; kinds = kinds_of ts })
  holds-first N area phase w =
      let n = length-map ts (λ (t : Node). t.row) in
      let at = lie ∙ sym (placed-padded (length states) (laid (rows_of ts))) in
      record {
        narrow = narrow;
        wide = rw append-nil wide;
        types_are = refl;
        made_are = rw append-nil (sym n);
        rounds_are = refl;
        kinds_are = refl;
        states_are = rw append-nil lie;
        distances_are = measures_all m (rows_of ts) narrow wide ws weighed states
            (λ i h. rw at (laid-at m (rows_of ts) narrow wide (replicate (length states) 0) i h)) (replicate N 0) area (omega arith) (rw n w);
        rest_zero = λ p other. w.kept p (λ i j t. other i j (omega (arith, t.rising, t.last)) t.last (omega (arith, t.rising))) ∙ all_zero N p;
      }
