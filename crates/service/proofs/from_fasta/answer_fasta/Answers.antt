-- `from_fasta::answer_fasta` meets its contract: each of its two ends leaves what Left.antt says.
use mathlib.Core.Path.{refl, sym, ap, ◌∙◌}
use native.Mathlib.Omega.{arith}
use lib.Seq.{length-take-le}
use Rattle.fasta.proofs.Ready.{ready, not-ready}
use Rattle.fasta.proofs.conversion.Answers.{fault-refuses}
use Rattle.fasta.specs.Answers.{conversion_number, conversion_place, refuses}
use Rattle.text.proofs.Left.{used_is}
use Rattle.service.proofs.from_fasta.Left.{job-left, refusal-left}
use Rattle.service.proofs.from_fasta.answer_fasta.Goals as goal

pub slice_bounds-job-end : goal.slice_bounds-job-end
slice_bounds-job-end c = (ready c.in-Ok.ensures (omega arith) refl refl).within

pub slice_bounds-answer_text-end : goal.slice_bounds-answer_text-end
slice_bounds-answer_text-end c = sym (length-take-le _ _ (ready c.in-Ok.ensures (omega arith) refl refl).within)

pub returns-in-Ok : goal.returns-in-Ok
returns-in-Ok c = job-left _ _ (ready c.in-Ok.ensures (omega arith) refl refl) c.answer_text.ensures

pub returns : goal.returns
returns c =
    let told = c.tell_conversion-told.ensures in
    let m = not-ready c.make_job-conversion.ensures (omega arith) (ap refuses c.in_default.is ∙ fault-refuses c.in_default.field-0) in
    refusal-left _ _ m.1 (told.number_is ∙ ap conversion_number m.0) (told.place_is ∙ ap conversion_place m.0) c.refusal_text.ensures (c.unwrap_or.ensures ∙ used_is c.refusal_text.result)
