-- `fresh::choose_with_mismatches` meets its contract: there is memory for all mismatches, none of which is known yet.
use Rattle.triplets.proofs.mismatches.Cached.{none-cached}
use Rattle.round.proofs.fresh.choose_with_mismatches.Goals as goal

pub choose-requires : goal.choose-requires
choose-requires c =
    let w = c in
    let s = w in
    (s.requires.0, s.requires.1, record { narrow = w.width_in_use-m.ensures; cached = none-cached s.args.states.now w.width_in_use-m.result s.args.made 16384 })
