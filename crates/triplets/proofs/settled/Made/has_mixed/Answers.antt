-- `settled::Made::has_mixed` meets its contract: where no character is asked for, row u is the row.
use mathlib.Core.Path.{refl}
use Rattle.triplets.proofs.settled.Mixing.{mixed_none}
use Rattle.triplets.proofs.settled.Made.has_mixed.Goals as goal

pub returns-then-k-eq0 : goal.returns-then-k-eq0
returns-then-k-eq0 c = (λ e. mixed_none _ _ _ _ _ _ c.requires.1 c.if-k-eq0.true, c.requires.0, refl)
