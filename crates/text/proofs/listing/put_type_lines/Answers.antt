-- `listing::put_type_lines` meets its contract: after k types their lines stand behind what was written.
use mathlib.Core.Path.{refl}
use native.Mathlib.Omega.{arith}
use Rattle.memory.proofs.decimals.Upto.{upto-none, upto_all, upto-room, upto-more}
use Rattle.text.specs.Lines.{type_lines_of}
use Rattle.text.proofs.listing.put_type_lines.Goals as goal

pub loop-k-init : goal.loop-k-init
unfolding type_lines_of
loop-k-init c = upto-none _ _ _ _ c.requires.1

pub put_type_line-at-requires : goal.put_type_line-at-requires
put_type_line-at-requires c = (c.requires.0, omega arith, upto-room c.loop-k.invariant (omega arith) refl)

pub loop-k-preserved : goal.loop-k-preserved
loop-k-preserved c = upto-more c.loop-k.invariant (omega arith) refl c.put_type_line-at.ensures

pub returns : goal.returns
unfolding type_lines_of
returns c = upto_all c.loop-k.invariant (omega arith)
