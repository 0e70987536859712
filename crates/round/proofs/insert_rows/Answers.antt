-- `round::put_rows` meets its contract: the rows behind the first t are copied behind the new ones, and both come back as one.
use mathlib.Core.Path.{ap, ◌∙◌}
use Prim.Native.Nat.{◌*◌}
use native.Mathlib.Omega.{arith}
use Rattle.memory.specs.Placed.{placed}
use Rattle.round.proofs.Behind.{rows_behind}
use Rattle.round.proofs.insert_rows.Goals as goal

-- What is read of the local array is the new rows and those behind.
pub returns : goal.returns
returns c =
    let a = c.args in
    let read = rows_behind a.states.now a.t a.made (omega arith) (omega arith) a.rows a.count (omega arith) _ c.copy.ensures in
    c.copy-2.ensures ∙ ap (placed a.states.now (64 * a.t)) read
