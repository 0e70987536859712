-- `mismatches::mismatches_of` meets its contract: what is kept is right, and what is found is kept for both orders.
use lib.ListN.{length-set}
use Rattle.triplets.proofs.mismatches.Cached.{room-both}
use Rattle.triplets.proofs.mismatches.mismatches_of.Goals as goal

pub returns : goal.returns
returns c =
    let p = c.requires in
    let found = c.find_mismatches-found.ensures in
    (found, room-both _ _ _ _ _ _ _ p.1 p.2 found p.0, simp length-set)
