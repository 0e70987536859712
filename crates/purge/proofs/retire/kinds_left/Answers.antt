-- `retire::kinds_left` meets its contract: so many kinds are stored.
use Rattle.purge.proofs.retire.Staying.{no_kind}
use Rattle.purge.proofs.retire.kinds_left.Goals as goal

pub loop-a-init : goal.loop-a-init
loop-a-init c = no_kind c.no_kinds-left.ensures
