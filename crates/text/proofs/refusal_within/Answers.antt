-- `text::refusal_within` meets its contract: where there is room, it leaves what Left.antt says.
use Rattle.std.specs.Prelude.{Err}
use mathlib.Core.Path.{refl, ap, ◌∙◌}
use native.Mathlib.Omega.{arith}
use Rattle.rules.proofs.Answers.{err-same, handed_on}
use Rattle.text.proofs.Left.{no_room, line-left}
use Rattle.text.proofs.refusal_within.Goals as goal

pub returns-in_err-make_room : goal.returns-in_err-make_room
returns-in_err-make_room c =
    let h = c.in_err-make_room.ensures in
    no_room _ _ _ _ h.zeros (omega (arith, h.roomy)) (handed_on c.from_residual.ensures.1 ∙ ap Err (err-same (h.short refl)))

pub returns : goal.returns
returns c = line-left _ _ _ _ c.make_room.ensures.zeros c.in_ok-make_room.ensures.roomy.0 c.put_refusal.ensures
