-- `sweep::outlook` meets its contract: by what the distances tell, or because the triplet is settled.
use mathlib.Core.Path.{refl}
use mathlib.Core.Logic.{inr}
use Rattle.sweep.proofs.outlook.Goals as goal

pub returns-then-settled : goal.returns-then-settled
returns-then-settled c =
    let e = c.settled.ensures in
    let remembered = c.requires.0 in
    (inr (e.0 c.if-settled.true, refl), record { narrow = remembered.narrow; cached = e.1 }, e.2)
