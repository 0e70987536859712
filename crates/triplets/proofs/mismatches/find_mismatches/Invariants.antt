-- `mismatches::find_mismatches` meets its contract: from character c on the bits are those asked for.
use Rattle.memory.proofs.Digits.{Spelt}
use Rattle.triplets.specs.Mismatches.{bit, differ}
use Rattle.triplets.proofs.mismatches.find_mismatches.Given as goal

abbrev pub invariant-loop-c : goal.invariant-loop-c
invariant-loop-c l = Spelt 2 (λ k. bit (differ l.states l.i l.j k)) l.m l.c l.bits
