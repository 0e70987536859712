-- `guesses::is_known` meets its contract: its place is found by one search or by both.
use mathlib.Core.Path.{ap₂}
use lib.ListN.{set}
use native.Mathlib.Omega.{arith}
use Rattle.medians.proofs.guesses.Place.{first-few, search_made, search_found}
use Rattle.medians.proofs.guesses.is_known.Goals as goal

pub returns-then-i-made : goal.returns-then-i-made
returns-then-i-made c =
    let a = c.args in
    let s = search_made a.states.now a.made a.gathered.now a.count a.row.now _ c.find_row-i.ensures c.if-i-made.true in
    (s.0, ap₂ (set a.guesses.now) c.slot-at.ensures.0 s.1)

pub overflow_cast-guesses-2 : goal.overflow_cast-guesses-2
overflow_cast-guesses-2 c = let a = c.args in omega (arith, c.find_row-k.ensures, first-few a.gathered.now a.count a.row.now)

pub overflow_add-guesses : goal.overflow_add-guesses
overflow_add-guesses c = let a = c.args in omega (arith, c.find_row-k.ensures, first-few a.gathered.now a.count a.row.now)

pub returns : goal.returns
returns c =
    let a = c.args in
    let s = search_found a.states.now a.made a.gathered.now a.count a.row.now _ _ c.find_row-i.ensures c.if-i-made.false c.find_row-k.ensures in
    (s.0, ap₂ (set a.guesses.now) c.slot-at.ensures.0 s.1)
