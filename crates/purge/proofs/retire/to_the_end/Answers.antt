-- `retire::to_the_end` meets its contract: so many rows have moved down, and the row goes behind them.
use mathlib.Core.Path.{◌≡◌, ap, ◌∙◌}
use mathlib.Core.List.{◌++◌}
use Prim.Native.Nat.{◌+◌, ◌*◌}
use native.Mathlib.Omega.{arith}
use Rattle.rules.specs.Job.{Bytes}
use Rattle.memory.specs.Placed.{placed}
use Rattle.types.specs.State.{rows_from}
use Rattle.purge.proofs.retire.Moved.{moved_down, row-behind}
use Rattle.purge.proofs.retire.to_the_end.Goals as goal

pub returns : goal.returns
returns c =
    let a = c.args in
    let b = a.states.now in
    c.copy.ensures
    ∙ row-behind b a.i a.made (omega arith) (omega arith) _ _ (moved_down b a.i a.made (omega arith) (omega arith) _ c.copy_within.ensures.after)
    ∙ ap (λ (r : Bytes). placed b (64 * a.i) (rows_from b (a.i + 1) a.made ++ r)) c.row_at-row.ensures
