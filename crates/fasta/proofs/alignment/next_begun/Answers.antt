-- `alignment::next_begun` meets its contract: an opener is one more.
use mathlib.Core.Path.{◌≡◌, sym, ap, ◌∙◌}
use mathlib.Core.Bool.{Bool, true, false, cond}
use Prim.Native.Nat.{ℕ, ◌+◌}
use native.Mathlib.Omega.{arith}
use Rattle.rules.specs.Job.{Bytes}
use Rattle.fasta.specs.Lines.{opens}
use Rattle.fasta.specs.Sequences.{opened}
use Rattle.fasta.proofs.alignment.Faults.{opened-more}
use Rattle.fasta.proofs.alignment.next_begun.Goals as goal

-- What is told of byte i, said of the count behind it.
next : (text : Bytes) (i : ℕ) (t : Bool) → opens text i ≡ t → opened text (i + 1) ≡ opened text i + cond t 1 0
next text i t e = opened-more text i ∙ ap (λ (b : Bool). opened text i + cond b 1 0) e

pub returns-then-opens : goal.returns-then-opens
returns-then-opens c = omega (arith, c.requires.1, next c.args.text.now c.args.i true (sym c.opens.ensures ∙ c.if-opens.true))

pub returns : goal.returns
returns c = omega (arith, c.requires.1, next c.args.text.now c.args.i false (sym c.opens.ensures ∙ c.if-opens.false))
