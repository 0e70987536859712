-- `memory::clear` meets its contract: all cells are passed.
use mathlib.Core.Path.{refl, sym, ◌∙◌}
use native.Mathlib.Nat.{not-suc-le-zero}
use native.Mathlib.Omega.{arith}
use lib.ListN.{length, replicate, length-set, length-replicate, get_or-replicate}
use lib.Seq.{ext_get_or, get_or-set_same, get_or-set_other}
use borrow.Author.Count.{below_more}
use Rattle.memory.proofs.clear.Goals as goal

pub loop-i-init : goal.loop-i-init
loop-i-init g c = (refl, λ k h. absurd (not-suc-le-zero h))

pub loop-i-preserved : goal.loop-i-preserved
loop-i-preserved g c =
    let l = c.loop-i in
    let x = c.args.blank in (
      length-set l.cells l.i x ∙ l.invariant.0,
      below_more _ l.i
          (λ k h. get_or-set_other l.cells l.i k x x (omega arith) ∙ l.invariant.1 k h)
          (get_or-set_same l.cells l.i x x (omega (arith, l.invariant.0))),
    )

pub returns : goal.returns
returns g c =
    let l = c.loop-i in
    let n = length c.args.cells.now in
    let x = c.args.blank in
    ext_get_or x _ (replicate n x) (l.invariant.0 ∙ sym (length-replicate n x))
    (λ k h. l.invariant.1 k (omega (arith, l.invariant.0)) ∙ sym (get_or-replicate n k x x (omega (arith, l.invariant.0))))
