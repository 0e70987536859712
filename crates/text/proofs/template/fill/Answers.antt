-- `template::fill` meets its contract: after i bytes what they give stands behind what was written.
use mathlib.Core.Path.{refl}
use native.Mathlib.Omega.{arith}
use Rattle.memory.proofs.decimals.Upto.{upto-none, upto-room, upto-more}
use Rattle.text.proofs.template.fill.Goals as goal

pub loop-byte-init : goal.loop-byte-init
loop-byte-init c = upto-none _ _ _ _ c.requires

pub put_piece-at-requires : goal.put_piece-at-requires
put_piece-at-requires c = upto-room c.loop-byte.invariant (omega arith) refl

pub loop-byte-preserved : goal.loop-byte-preserved
loop-byte-preserved c = upto-more c.loop-byte.invariant (omega arith) refl c.put_piece-at.ensures
