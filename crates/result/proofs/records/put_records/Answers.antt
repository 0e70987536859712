-- `records::put_records` meets its contract: after k types the records of the first k stand there.
use mathlib.Core.Path.{refl}
use native.Mathlib.Omega.{arith}
use Rattle.result.proofs.records.RecordBytes.{records-none, records-more}
use Rattle.result.proofs.records.put_records.Goals as goal

pub loop-k-init : goal.loop-k-init
loop-k-init c = let a = c.args in (refl, records-none a.kinds a.s a.out.now a.at)

pub loop-k-preserved : goal.loop-k-preserved
loop-k-preserved c =
    let l = c.loop-k in
    let a = c.args in
    (omega arith, records-more a.kinds a.s a.out.now a.at l.k _ (omega arith) c.saturating_sub.ensures l.invariant.1 c.put_record.ensures)
