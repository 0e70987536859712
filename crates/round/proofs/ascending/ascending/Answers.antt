-- `ascending::ascending` meets its contract: the first k rows are sorted.
use mathlib.Core.Path.{◌∙◌}
use native.Mathlib.Omega.{arith}
use Rattle.round.proofs.ascending.Inserted.{sorted_none, sorted_more}
use Rattle.round.proofs.ascending.ascending.Goals as goal

pub loop-k-init : goal.loop-k-init
loop-k-init c = record { size = omega arith; is = sorted_none _ }

pub loop-k-preserved : goal.loop-k-preserved
loop-k-preserved c =
    let l = c.loop-k in
    record {
      size = omega arith;
      is = c.insert.ensures ∙ sorted_more c.args.rows.now l.k (omega arith) l.rows _ l.invariant.is c.row_at-row.ensures;
    }
