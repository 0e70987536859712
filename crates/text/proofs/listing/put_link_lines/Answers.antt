-- `listing::put_link_lines` meets its contract: after k links their lines stand behind what was written.
use mathlib.Core.Path.{◌≡◌}
use Prim.Native.Nat.{ℕ, ◌+◌, ◌*◌}
use native.Mathlib.Omega.{arith}
use Rattle.rules.specs.Job.{Bytes, word}
use Rattle.rules.specs.Text.{link_line}
use Rattle.memory.proofs.decimals.Upto.{upto-none, upto_all, upto-room, upto-more}
use Rattle.readback.specs.ReadBack.{read_link}
use Rattle.text.specs.Lines.{link_line_of, link_lines_of}
use Rattle.text.proofs.listing.put_link_lines.Goals as goal

-- The line that is written is that of link k.
line : (block : Bytes) (k : ℕ) {from : ℕ} → from ≡ word block 14 → link_line_of block (from + 6 * k) ≡ link_line (read_link block k)
line block k e = rw e

pub loop-k-init : goal.loop-k-init
unfolding link_lines_of
loop-k-init c = upto-none _ _ _ _ c.requires.block_in_bounds

pub put_link_line-at-requires : goal.put_link_line-at-requires
put_link_line-at-requires c = (omega arith, upto-room c.loop-k.invariant (omega arith) (line _ _ c.word_at-from.ensures.is))

pub loop-k-preserved : goal.loop-k-preserved
loop-k-preserved c = upto-more c.loop-k.invariant (omega arith) (line _ _ c.word_at-from.ensures.is) c.put_link_line-at.ensures

pub returns : goal.returns
unfolding link_lines_of
returns c = upto_all c.loop-k.invariant (omega arith)
