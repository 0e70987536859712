-- `alignment::read_all` meets its contract: before byte i there is no fault, and everything is counted.
use mathlib.Core.Path.{◌≡◌, refl, sym, ap, ◌∙◌}
use Rattle.std.proofs.Common.{rules, Err}
use Rattle.fasta.specs.Answers.{refuses}
use native.Mathlib.Numerals.{add-one}
use native.Mathlib.Omega.{arith}
use borrow.Author.Count.{below_none, below_more}
use Rattle.graph.specs.Below.{sum}
use Rattle.fasta.specs.Lines.{line_start}
use Rattle.fasta.proofs.alignment.Faults.{few-opened}
use Rattle.fasta.proofs.alignment.Counted.{lengths_none, fault-left, passed-left}
use Rattle.fasta.proofs.alignment.Answered.{read-fault, read_whole}
use Rattle.fasta.proofs.alignment.read_all.Goals as goal

pub loop-i-init : goal.loop-i-init
unfolding line_start sum
loop-i-init c = (refl, refl, c.requires ∙ lengths_none _, below_none _)

pub take_byte-requires : goal.take_byte-requires
take_byte-requires c =
    let (starts, begun, lengths, clear) = c.loop-i.invariant in (
      record { starts = starts; within = omega arith },
      record { inside = omega arith; begun_is = begun; few = omega (arith, few-opened c.args.text.now c.loop-i.i clear); lengths_are = lengths },
    )

pub returns-in_err-take_byte : goal.returns-in_err-take_byte
returns-in_err-take_byte c =
    let taken = c.in_err-take_byte.ensures in
    let (starts, begun, lengths, clear) = c.loop-i.invariant in
    let e : c.from_residual.result ≡ Err c.in_err-take_byte.field-0.0 = search rules in
    rw e (read-fault _ _ (omega arith) clear (sym taken.fault_is) (fault-left _ _ taken))

pub next_begun-begun-requires : goal.next_begun-begun-requires
next_begun-begun-requires c =
    let (starts, begun, lengths, clear) = c.loop-i.invariant in
    (record { starts = starts; within = omega arith }, begun, omega (arith, few-opened c.args.text.now c.loop-i.i clear))

pub loop-i-preserved : goal.loop-i-preserved
loop-i-preserved c =
    let taken = c.in_ok-take_byte.ensures in (
      c.next_line-line.ensures,
      c.next_begun-begun.ensures,
      passed-left _ _ taken ∙ rw add-one,
      below_more _ _ c.loop-i.invariant.3 (sym (ap refuses taken.fault_is)),
    )

pub returns : goal.returns
returns c =
    let (starts, begun, lengths, clear) = c.loop-i.invariant in
    read_whole _ c.loop-i.i (omega arith) clear begun lengths
