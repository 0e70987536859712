-- `text::put_network` meets its contract: three pieces, one behind the other.
use mathlib.Core.List.{◌++◌}
use Prim.Native.Nat.{ℕ, ◌+◌, ◌≤◌, ◌<◌}
use native.Mathlib.Omega.{arith}
use lib.ListN.{length, get_or, length-append}
use Rattle.rules.specs.Job.{Bytes}
use Rattle.memory.proofs.Follows.{room_next, follows_on}
use Rattle.text.specs.Lines.{Legible, network_line_of, type_lines_of, link_lines_of, network_of}
use Rattle.text.specs.Printed.{network_room}
use Rattle.text.proofs.listing.Legible.{read_is}
use Rattle.text.proofs.Room.{network-most}
use Rattle.text.proofs.put_network.Goals as goal

-- From the front on there is room for the network, for the first two of its three pieces and for the first.
module _ (job block : Bytes) {room : ℕ} (l : Legible job block) (bytes : (i : ℕ) → get_or block i 0 < 256) (h : network_room block ≤ room) where
  all : 0 + length (network_of job block) ≤ room
  all = omega (arith, network-most (read_is job block l) bytes)

  two : 0 + length (network_line_of block ++ type_lines_of job block) ≤ room
  two = omega (arith, all, length-append (network_line_of block ++ type_lines_of job block) (link_lines_of block))

  one : 0 + length (network_line_of block) ≤ room
  one = omega (arith, two, length-append (network_line_of block) (type_lines_of job block))

pub put_network_line-at-requires : goal.put_network_line-at-requires
put_network_line-at-requires c =
    let (l, h) = c.requires in
    ((read_is _ _ l).head, one c.args.job.now c.args.block.now l (λ i. (c.type_inv.block i).fits) h)

pub put_type_lines-at-requires : goal.put_type_lines-at-requires
put_type_lines-at-requires c =
    let (l, h) = c.requires in
    (l, room_next c.put_network_line-at.ensures _ (two c.args.job.now c.args.block.now l (λ i. (c.type_inv.block i).fits) h))

pub put_link_lines-requires-clause-block_in_bounds : goal.put_link_lines-requires-clause-block_in_bounds
put_link_lines-requires-clause-block_in_bounds c =
    let (l, h) = c.requires in
    room_next (follows_on c.put_network_line-at.ensures (omega arith) c.put_type_lines-at.ensures) _
    (all c.args.job.now c.args.block.now l (λ i. (c.type_inv.block i).fits) h)

pub returns : goal.returns
returns c =
    follows_on (follows_on c.put_network_line-at.ensures (omega arith) c.put_type_lines-at.ensures) (omega arith) c.put_link_lines.ensures
