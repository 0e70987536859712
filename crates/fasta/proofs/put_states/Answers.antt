-- `fasta::put_states` meets its contract: at byte i the states before it stand there.
use mathlib.Core.Path.{◌≡◌, refl, ◌∙◌}
use native.Mathlib.Omega.{arith}
use lib.ListN.{length}
use Rattle.graph.specs.Below.{gather}
use Rattle.fasta.specs.Lines.{line_start}
use Rattle.fasta.specs.Sequences.{states}
use Rattle.memory.proofs.Follows.{follows-none, follows-more, follows-room}
use Rattle.fasta.proofs.Written.{state_at}
use Rattle.fasta.proofs.put_states.Goals as goal

pub loop-i-init : goal.loop-i-init
unfolding line_start gather
loop-i-init c = (refl, follows-none _ _)

pub put_state-to-requires : goal.put_state-to-requires
unfolding states
put_state-to-requires c =
    let text = c.args.text.now in
    let room = follows-room (state_at text) c.loop-i.i c.loop-i.invariant.1 (length text) c.loop-i-test.true c.requires in
    (record { starts = c.loop-i.invariant.0; within = c.loop-i-test.true }, omega (arith, room))

pub loop-i-preserved : goal.loop-i-preserved
loop-i-preserved c = (
  c.next_line-line.ensures,
  follows-more (state_at c.args.text.now) c.loop-i.i c.loop-i.invariant.1 (omega arith) c.put_state-to.ensures,
)

pub returns : goal.returns
unfolding states
returns c =
    let e : c.loop-i.i ≡ length c.args.text.now = omega arith in
    c.loop-i.invariant.1.is ∙ rw e
