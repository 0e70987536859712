-- The rows made guess their own numbers, one after the other.
use mathlib.Core.Path.{◌≡◌, refl}
use Prim.Native.Nat.{ℕ, ◌+◌}
use native.Mathlib.Numerals.{add-one}
use lib.ListN.{replicate, set}
use Rattle.rules.specs.Job.{Bytes}
use Rattle.types.specs.State.{stored_at}
use Rattle.medians.specs.Guesses.{slot_of, guesses_of}

pub guesses_none : (states : Bytes) → replicate 4096 256 ≡ guesses_of states 0
unfolding guesses_of
guesses_none states = refl

pub guesses_more : (states : Bytes) (i : ℕ) → set (guesses_of states i) (slot_of (stored_at states i)) i ≡ guesses_of states (i + 1)
unfolding guesses_of
guesses_more states i = rw (add-one i)
