-- `table::put_links` meets its contract: each turn writes the bytes of one more link.
use mathlib.Core.Path.{ap, ◌∙◌}
use Prim.Native.Nat.{◌+◌, ◌*◌}
use native.Mathlib.Omega.{arith}
use Rattle.std.proofs.Common.{add-one}
use Rattle.rules.specs.Links.{link_at}
use Rattle.memory.specs.Placed.{placed}
use Rattle.result.specs.Table.{link_bytes}
use Rattle.result.proofs.table.Bytes.{after_none, after_more}
use Rattle.result.proofs.table.put_links.Goals as goal

pub loop-k-init : goal.loop-k-init
loop-k-init c = after_none c.args.links.now c.args.out.now c.args.at

pub loop-k-preserved : goal.loop-k-preserved
loop-k-preserved c =
    let l = c.loop-k in
    let a = c.args in
    let one = link_bytes (link_at a.links.now l.k) in
    c.put_link.ensures ∙ ap (λ out. placed out (a.at + 6 * l.k) one) l.invariant ∙ rw add-one (after_more a.links.now a.out.now a.at l.k (omega arith))
