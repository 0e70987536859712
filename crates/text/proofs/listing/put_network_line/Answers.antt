-- `listing::put_network_line` meets its contract: the line is a text with four numbers.
use Rattle.rules.specs.Text.{text}
use Rattle.text.proofs.Lines.{network-filled}
use Rattle.text.proofs.listing.put_network_line.Goals as goal

pub fill-requires : goal.fill-requires
unfolding text
fill-requires c = rw (network-filled c.args.block.now c.word_at.ensures.is c.word_at-2.ensures.is c.word_at-3.ensures.is c.word_at-4.ensures.is) c.requires.1

pub returns : goal.returns
unfolding text
returns c = rw (← network-filled c.args.block.now c.word_at.ensures.is c.word_at-2.ensures.is c.word_at-3.ensures.is c.word_at-4.ensures.is) c.fill.ensures
