-- `result::write_front` meets its contract: the header, and records and rows behind it, are the block up to its links.
use Prim.Native.Nat.{◌≤◌}
use native.Mathlib.Omega.{arith}
use lib.ListN.{length}
use Rattle.rules.specs.Result.{links_offset}
use Rattle.purge.specs.Network.{network_in}
use Rattle.result.proofs.Parts.{links-short, few-links, block_size, front_length, parts-written}
use Rattle.result.proofs.write_front.Goals as goal

pub sampled-s-requires : goal.sampled-s-requires
sampled-s-requires c = c.requires.few

pub count_links-links-requires : goal.count_links-links-requires
count_links-links-requires c = (c.requires.cells_fit, c.requires.few)

-- Once the sampled types are counted, the offset of the links is small, and there is room up to it.
pub put_header-requires : goal.put_header-requires
put_header-requires c =
    let a = c.args in
    let ready = c.requires in
    let few = few-links a.area.now _ ready.few in
    let s = c.sampled-s in
    let short : links_offset a.held.state.types s.result a.m ≤ 8976 = links-short _ ready.few ready.narrow in
    let room : links_offset a.held.state.types s.result a.m ≤ length a.out.now =
    omega (arith, ready.room, block_size a.m (network_in a.m a.states.now a.area.now a.held), front_length a.m a.states.now a.area.now a.held s.result s.ensures.0) in
    (ready.narrow, ready.few, s.ensures.1, omega (arith, c.count_links-links.ensures, few), ready.rounds_fit, omega arith)

pub put_records-requires : goal.put_records-requires
put_records-requires c =
    let a = c.args in
    let ready = c.requires in
    let s = c.sampled-s in
    let room : links_offset a.held.state.types s.result a.m ≤ length a.out.now =
    omega (arith, ready.room, block_size a.m (network_in a.m a.states.now a.area.now a.held), front_length a.m a.states.now a.area.now a.held s.result s.ensures.0) in
    (ready.few, ready.origins_fit, omega arith)

pub put_inferred_rows-requires : goal.put_inferred_rows-requires
put_inferred_rows-requires c =
    let a = c.args in
    let ready = c.requires in
    let s = c.sampled-s in
    let room : links_offset a.held.state.types s.result a.m ≤ length a.out.now =
    omega (arith, ready.room, block_size a.m (network_in a.m a.states.now a.area.now a.held), front_length a.m a.states.now a.area.now a.held s.result s.ensures.0) in
    (ready.states_fit, ready.narrow, ready.few, s.ensures.1, omega arith)

pub returns : goal.returns
returns c =
    let a = c.args in
    parts-written a.m a.states.now a.area.now a.held c.sampled-s.result c.sampled-s.ensures.0 c.count_links-links.ensures c.put_header.ensures
    c.put_records.ensures c.put_inferred_rows.ensures
