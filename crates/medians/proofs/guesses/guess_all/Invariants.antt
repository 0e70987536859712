-- `guesses::guess_all` meets its contract: after i rows, the guesses are those of the first i.
use mathlib.Core.Path.{◌≡◌}
use Rattle.medians.specs.Guesses.{guesses_of}
use Rattle.medians.proofs.guesses.guess_all.Given as goal

abbrev pub invariant-loop-i : goal.invariant-loop-i
invariant-loop-i l = l.guesses ≡ guesses_of l.states l.i
