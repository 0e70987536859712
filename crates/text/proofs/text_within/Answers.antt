-- `text::text_within` meets its contract: where a network is printed, it leaves what Left.antt says.
use Rattle.std.specs.Prelude.{Err}
use mathlib.Core.Path.{refl, sym, ap, ◌∙◌}
use native.Mathlib.Omega.{arith}
use Rattle.rules.proofs.Answers.{refused-number, passed-number, err-same, handed_on}
use Rattle.text.proofs.Left.{refusal-left, room-left, network-left}
use Rattle.text.proofs.Room.{line-fits, network-fits}
use Rattle.text.proofs.text_within.Goals as goal

pub refusal_within-requires : goal.refusal_within-requires
refusal_within-requires c = line-fits _ _ _ c.requires (refused-number _ (sym c.is_err.ensures.value ∙ c.if-is_err.true))

pub returns-then-is_err : goal.returns-then-is_err
returns-then-is_err c =
    let told = c.tell-told.ensures in
    let refused = refused-number _ (sym c.is_err.ensures.value ∙ c.if-is_err.true) in
    refusal-left _ _ _ _ _ told.number_is told.place_is (λ z. refused (sym told.number_is ∙ z)) c.refusal_within.ensures

-- For a network.
pub returns-in_err-make_room : goal.returns-in_err-make_room
returns-in_err-make_room c =
    let h = c.in_err-make_room.ensures in
    room-left _ _ _ _ _ h.zeros (passed-number _ (sym c.is_err.ensures.value ∙ c.if-is_err.false)) (omega (arith, h.roomy)) (handed_on c.from_residual.ensures.1 ∙ ap Err (err-same (h.short refl)))

pub put_network-requires : goal.put_network-requires
put_network-requires c =
    let l = sym c.is_legible.ensures ∙ c.if-not-is_legible.false in
    let passed = passed-number _ (sym c.is_err.ensures.value ∙ c.if-is_err.false) in
    (l, omega (arith, c.in_ok-make_room.ensures.roomy.0, network-fits _ _ _ c.requires passed l))

pub returns : goal.returns
returns c =
    network-left _ _ _ _ _ c.make_room.ensures.zeros (passed-number _ (sym c.is_err.ensures.value ∙ c.if-is_err.false))
    c.in_ok-make_room.ensures.roomy.0 (sym c.is_legible.ensures ∙ c.if-not-is_legible.false) c.put_network.ensures
