-- `run::phases` meets its contract: Phase I had no room, or settled; then Phase II.
use mathlib.Core.Path.{refl}
use Rattle.run.proofs.Ending.{ended-full, ended-kept}
use Rattle.run.proofs.phases.Goals as goal

pub returns-in-Err : goal.returns-in-Err
returns-in-Err c = ended-full c.in-Err.ensures refl c.clear.ensures c.clear-in-Err.ensures

pub returns : goal.returns
returns c = ended-kept c.in_default.ensures refl (rw c.second_phase.ensures at c.purge.ensures)
