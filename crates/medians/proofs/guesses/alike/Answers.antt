-- `guesses::alike` meets its contract: slices are compared element by element, as rows are.
use mathlib.Core.Path.{◌≡◌, refl, ap, ◌∙◌}
use mathlib.Core.Bool.{◌&&◌, Bool}
use mathlib.Core.List.{[], ◌∷◌}
use lib.Dec.{eqb}
use lib.Pointwise.{pointwise}
use Rattle.rules.specs.Job.{Bytes}
use Rattle.rules.specs.Types.{is_same_row}
use Rattle.medians.proofs.guesses.alike.Goals as goal

same-elements : (a b : Bytes) → pointwise eqb a b ≡ is_same_row a b
unfolding is_same_row
same-elements [] [] = refl
same-elements [] (y ∷ ys) = refl
same-elements (x ∷ xs) [] = refl
same-elements (x ∷ xs) (y ∷ ys) = ap (λ (t : Bool). eqb x y && t) (same-elements xs ys)

pub returns : goal.returns
returns c = c.eq.ensures ∙ same-elements _ _
