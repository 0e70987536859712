-- `listing::put_type_line` meets its contract: the line is a text with two numbers and the states, one for either kind of type.
use Rattle.rules.specs.Text.{text}
use Rattle.text.proofs.Lines.{sampled-filled, inferred-filled}
use Rattle.text.proofs.listing.Legible.{read_is}
use Rattle.text.proofs.listing.put_type_line.Goals as goal

pub fill-requires : goal.fill-requires
unfolding text
fill-requires c =
    let r = read_is c.args.job.now c.args.block.now c.requires.0 in
    rw (sampled-filled r c.word_at.ensures.is c.states_in-states.ensures c.if-k-word_at.true c.word_at-then-k-word_at.ensures.is) c.requires.2

pub returns-then-k-word_at : goal.returns-then-k-word_at
unfolding text
returns-then-k-word_at c =
    let r = read_is c.args.job.now c.args.block.now c.requires.0 in
    rw (← sampled-filled r c.word_at.ensures.is c.states_in-states.ensures c.if-k-word_at.true c.word_at-then-k-word_at.ensures.is) c.fill.ensures

pub fill-requires-2 : goal.fill-requires-2
unfolding text
fill-requires-2 c =
    let r = read_is c.args.job.now c.args.block.now c.requires.0 in
    rw (inferred-filled r c.word_at.ensures.is c.states_in-states.ensures c.if-k-word_at.false c.word_at-2.ensures.is) c.requires.2

pub returns : goal.returns
unfolding text
returns c =
    let r = read_is c.args.job.now c.args.block.now c.requires.0 in
    rw (← inferred-filled r c.word_at.ensures.is c.states_in-states.ensures c.if-k-word_at.false c.word_at-2.ensures.is) c.fill-2.ensures
