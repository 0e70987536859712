-- `sweep::sweep` meets its contract: what is met at the types passed is swept, and each floor found anew is one.
use mathlib.Core.Path.{◌≡◌, refl}
use native.Mathlib.Omega.{arith}
use Rattle.sweep.proofs.Floors.{floors-one}
use Rattle.sweep.proofs.Walk.{few, kept_then, everywhere-more, everywhere-passed}
use Rattle.sweep.proofs.sweep.Goals as goal
use Rattle.sweep.proofs.sweep.Goals.{then-floors-c, else-floors-c}

pub loop-c-preserved : goal.loop-c-preserved
loop-c-preserved c =
    let l = c.loop-c in
    let p = c.requires in
    let h = c.loop-c-test.true in
    let stays = l.invariant.1.made_stays in
    elim c.if-floors-c.branch [
      | then-floors-c w ↦ (
        rw (w.mismatches-is, w.guesses-is) (kept_then stays l.invariant.0 w.at_centre-met.ensures.kept),
        rw (w.gathered-is, w.search-is) (everywhere-more p.0 l.c l.invariant.1 w.at_centre-met.ensures.swept),
        rw w.floors-is (floors-one l.invariant.2 (few p.0 h) (rw stays at w.at_centre-met.ensures.floored)),
      )
      | else-floors-c w ↦ (
        rw (w.mismatches-is, w.guesses-is) l.invariant.0,
        rw (w.gathered-is, w.search-is) (everywhere-passed p.0 l.c h l.invariant.2 w.if-floors-c.false l.invariant.1),
        rw w.floors-is l.invariant.2,
      )
    ]

pub returns : goal.returns
returns c =
    let l = c.loop-c in
    let e : l.c ≡ c.args.survey.size.types = omega arith in
    record { size_stays = refl; kept = l.invariant.0; swept = rw e at l.invariant.1; floors = l.invariant.2 }
