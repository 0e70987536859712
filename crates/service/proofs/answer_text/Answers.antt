-- `service::answer_text` meets its contract: its result has the least length.
use mathlib.Core.Path.{◌∙◌}
use Prim.Native.Nat.{ℕ}
use lib.ListN.{length-replicate}
use Rattle.text.proofs.Left.{used_is}
use Rattle.service.proofs.Text.{least-text}
use Rattle.service.proofs.answer_text.Goals as goal

pub returns : goal.returns
returns c =
    least-text c.answer_job-answer.ensures (length-replicate {A = ℕ} 57680 0) c.text.ensures (c.unwrap_or.ensures ∙ used_is c.text.result)
