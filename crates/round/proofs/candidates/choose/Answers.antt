-- `candidates::choose` meets its contract: the first sweep comes to lambda and gathers nothing, and the second one starts from there.
use mathlib.Core.Path.{◌≡◌, refl, sym, ap, ◌∙◌}
use native.Mathlib.Omega.{arith}
use borrow.Author.Rules.{rules}
use lib.ListN.{length-replicate}
use Rattle.medians.specs.declared.search.Search.{Search}
use Rattle.sweep.specs.declared.Size.{Size}
use Rattle.sweep.proofs.Floors.{floors-first}
use Rattle.round.proofs.candidates.Chosen.{lambda_sought, lambda_rows, choosing_as, remembered_as}
use Rattle.round.proofs.candidates.choose.Goals as goal

pub sweep-least-requires : goal.sweep-least-requires
sweep-least-requires c =
    let p = c.requires in
    let e = c.seeking.ensures in
    rw (e.0, e.1, e.2) (
      record {
        weighed = p.0.weighed;
        follows = p.0.follows;
        remembered = p.2;
        current = p.0.current;
        room = omega (arith, p.0.few);
        lie = p.0.lie;
        cells = p.0.cells;
        gathered_size = simp length-replicate;
        guesses_sized = search rules;
        low = omega arith;
      },
      floors-first,
    )

-- The first sweep keeps the size and the rows made.
pub gather_window-all-requires : goal.gather_window-all-requires
gather_window-all-requires c =
    let e = c.sweep-least.ensures in
    let is = c.seeking.ensures in
    let p = c.requires in
    let size : ◌≡◌ {A = Size} c.sweep-least.result.size c.args.size = e.size_stays ∙ is.0 in
    let made : c.sweep-least.result.search.made ≡ c.args.made = e.swept.made_stays ∙ ap (λ (s : Search). s.made) is.1 in (
      choosing_as (sym size) (sym made) p.0,
      p.1,
      remembered_as (sym e.size_stays) (sym e.swept.made_stays) e.kept.remembered,
      e.kept.guesses_sized,
      lambda_sought _ e is.1,
      lambda_rows e.swept (rw is.1 refl) (rw is.1 refl),
    )
