-- `spans::step_line` meets its contract: the types passed are reached, and their cells are written, whatever is made of them.
use mathlib.Core.Path.{◌≡◌}
use Prim.Native.Nat.{ℕ, max}
use native.Mathlib.Omega.{arith}
use lib.ListN.{get_or}
use Rattle.distances.proofs.Area.{all-passed}
use Rattle.spans.proofs.Turns.{filled_more, line_more}
use Rattle.spans.proofs.step_line.Goals as goal

pub loop-u-preserved : goal.loop-u-preserved
loop-u-preserved g c =
    let (f, w) = c.loop-u.invariant in
    let old = f.kept c.loop-u.u (omega arith) in
    let reached : ℕ → ℕ = λ x. max (get_or c.args.reach.now x 0) c.args.step in
    let far : c.max-far.result ≡ reached c.loop-u.u = omega arith in
    (filled_more {f = reached} f (omega arith) far, λ made makes. line_more made _ _ (w made makes) (omega arith) far (makes _ _ _ c.cell.ensures))

pub returns : goal.returns
returns g c =
    let (f, w) = c.loop-u.invariant in
    let e : c.loop-u.u ≡ c.args.wide = omega arith in
    (rw e at f, λ made makes. all-passed (w made makes) (omega arith))
