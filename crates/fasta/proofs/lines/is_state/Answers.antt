-- `lines::is_state` meets its contract: a line starts no later than its bytes.
use native.Mathlib.Omega.{arith}
use Rattle.fasta.proofs.lines.Lines.{start-within}
use Rattle.fasta.proofs.lines.is_state.Goals as goal

pub bounds-text-line : goal.bounds-text-line
bounds-text-line c = omega (arith, start-within c.args.text.now c.args.i)
