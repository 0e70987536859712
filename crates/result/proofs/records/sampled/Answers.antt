-- `records::sampled` meets its contract: after k types it counted the sampled ones of the first k.
use mathlib.Core.Path.{◌≡◌, refl, ap, ◌∙◌}
use mathlib.Core.Bool.{cond, not}
use Prim.Native.Nat.{ℕ}
use native.Mathlib.Omega.{arith}
use Rattle.graph.specs.Below.{sum}
use Rattle.graph.proofs.Below.{sum_more}
use Rattle.rules.specs.Types.{inferred}
use Rattle.rules.specs.declared.Origin.{Origin}
use Rattle.result.specs.Records.{kind_at}
use Rattle.result.proofs.records.sampled.Goals as goal
use Rattle.result.proofs.records.sampled.Goals.{in-Sampled, in_default}

pub loop-k-init : goal.loop-k-init
unfolding sum
loop-k-init c = (omega arith, refl)

pub loop-k-preserved : goal.loop-k-preserved
loop-k-preserved c =
    let l = c.loop-k in
    let one : Origin → ℕ = λ o. cond (not (inferred o)) 1 0 in
    let more = sum_more l.k (λ i. one (kind_at c.args.kinds i).origin) in
    elim c.match-kinds-k.branch [
      | in-Sampled w ↦ (omega (arith, w.sampled-is), w.sampled-is ∙ omega (arith, l.invariant.1, more, ap one w.in-Sampled.is))
      | in_default w ↦ (omega (arith, w.sampled-is), w.sampled-is ∙ omega (arith, l.invariant.1, more, ap one w.in_default.is))
    ]

pub returns : goal.returns
returns c =
    let l = c.loop-k in
    let e : l.k ≡ c.args.t = omega arith in
    (l.invariant.1 ∙ rw e, omega arith)
