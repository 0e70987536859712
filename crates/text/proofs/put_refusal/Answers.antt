-- `text::put_refusal` meets its contract: the line is a text with two numbers.
use native.Mathlib.Omega.{arith}
use Rattle.rules.specs.Text.{text}
use Rattle.text.proofs.Lines.{refusal-filled}
use Rattle.text.proofs.Room.{refusal-most}
use Rattle.text.proofs.put_refusal.Goals as goal

pub fill-requires : goal.fill-requires
unfolding text
fill-requires c =
    let most = refusal-most c.args.number c.args.place c.ranges.number.fits c.ranges.place.fits in
    rw (refusal-filled c.args.number c.args.place) (omega (arith, c.requires, most))

pub returns : goal.returns
unfolding text
returns c = rw (← refusal-filled _ _) c.fill.ensures
