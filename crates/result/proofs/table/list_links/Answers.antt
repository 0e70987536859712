-- `table::list_links` meets its contract: each turn asks `next_link` for the link behind the last one, and stores it.
use mathlib.Core.Path.{◌≡◌, refl, sym}
use Prim.Native.Nat.{◌<◌}
use native.Mathlib.Omega.{arith}
use lib.ListN.{length}
use Rattle.std.proofs.Common.{add-one}
use Rattle.rules.specs.Links.{link_at}
use Rattle.purge.specs.Network.{links_in}
use Rattle.result.proofs.table.Listed.{filled_none, filled_next}
use Rattle.result.proofs.table.list_links.Goals as goal

pub loop-k-init : goal.loop-k-init
loop-k-init c = (refl, filled_none c.args.links.now (links_in c.args.t c.args.area.now))

pub loop-k-preserved : goal.loop-k-preserved
loop-k-preserved c =
    let l = c.loop-k in
    let can = c.requires in
    let ls = links_in c.args.t c.args.area.now in
    let within : l.k < length ls = omega (arith, can.counted) in
    let next : c.next_link-last.result ≡ link_at ls l.k = c.next_link-last.ensures.is l.k within l.invariant.0 in
    (rw add-one next, filled_next c.args.links.now ls (omega (arith, can.room, can.counted)) l.k c.next_link-last.result within (sym next) l.invariant.1)
