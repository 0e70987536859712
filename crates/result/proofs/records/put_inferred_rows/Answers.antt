-- `records::put_inferred_rows` meets its contract: at type k the rows of the types from s to k stand there.
use mathlib.Core.Path.{refl}
use native.Mathlib.Omega.{arith}
use Rattle.result.proofs.records.RecordBytes.{rows_none, rows_more}
use Rattle.result.proofs.records.put_inferred_rows.Goals as goal

pub loop-k-init : goal.loop-k-init
loop-k-init c = let a = c.args in (omega arith, refl, rows_none a.m a.states.now a.s a.out.now a.at)

pub loop-k-preserved : goal.loop-k-preserved
loop-k-preserved c =
    let p = c in
    let l = p in
    let a = l.args in (
      omega arith,
      omega arith,
      rows_more a.m a.states.now a.s a.out.now a.at l.loop-k.k (omega arith) (omega arith) (omega arith) l.loop-k.invariant.2
          p.copy.ensures,
    )
