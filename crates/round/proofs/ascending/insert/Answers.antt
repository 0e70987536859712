-- `ascending::insert` meets its contract: the place is within the rows, those from there on move up, and the row is put there.
use Prim.Native.Nat.{◌+◌, ◌*◌}
use native.Mathlib.Omega.{arith}
use Rattle.round.proofs.ascending.Inserted.{copied_to, moved_with_row}
use Rattle.round.proofs.ascending.insert.Goals as goal

pub returns : goal.returns
returns c =
    let s = c in
    moved_with_row s.args.rows.now s.args.row.now _ _ s.args.count s.place_of_row-i.result s.requires.1 (omega arith) s.requires.0
    s.place_of_row-i.ensures.0 (copied_to s.args.rows.now _ s.args.count s.place_of_row-i.result (64 * s.place_of_row-i.result + 64) (omega arith) s.copy_within.ensures.after) s.copy.ensures
