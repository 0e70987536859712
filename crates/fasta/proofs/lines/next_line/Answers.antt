-- `lines::next_line` meets its contract.
use native.Mathlib.Numerals.{add-one}
use borrow.Author.Tests.{eq-eqb, ne_eqb}
use Rattle.fasta.specs.Lines.{line_start}
use Rattle.fasta.proofs.lines.next_line.Goals as goal

pub returns-then-text-i-eq10 : goal.returns-then-text-i-eq10
unfolding line_start
returns-then-text-i-eq10 c = rw (add-one, eq-eqb _ _ c.if-text-i-eq10.true)

pub returns : goal.returns
unfolding line_start
returns c = rw (add-one, ne_eqb _ _ c.if-text-i-eq10.false) c.requires.starts
