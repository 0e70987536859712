-- `sample::collapse` meets its contract: after k rows memory holds their types.
use mathlib.Core.Path.{◌≡◌, ap, ◌∙◌}
use Prim.Native.Nat.{◌*◌, ◌<◌}
use native.Mathlib.Omega.{arith}
use lib.ListN.{length, set}
use Rattle.graph.specs.Below.{first}
use Rattle.rules.specs.Job.{Bytes, rows, job_row}
use Rattle.rules.specs.Types.{is_same_row}
use Rattle.memory.specs.Placed.{placed}
use Rattle.types.specs.State.{stored, stored_at}
use Rattle.types.proofs.sample.Entering.{holds_as, none_read, row-size, same_size, countable, all_read, one-row-more, one-type-more, refused}
use Rattle.types.proofs.sample.collapse.Goals as goal
use Rattle.types.proofs.sample.collapse.Goals.{then-i-types, else-i-types+else-types-eq-MOST_TYPES}

pub loop-k-init : goal.loop-k-init
loop-k-init c = let s = c in none_read s.requires.0 s.requires.3 c.no_kinds-kinds.ensures

pub row-row-requires : goal.row-row-requires
row-row-requires c = let s = c in (s.requires.0, s.requires.2, omega arith)

pub find_row-i-requires : goal.find_row-i-requires
find_row-i-requires c = omega (arith, same_size c.loop-k.invariant)

pub one_more-requires : goal.one_more-requires
one_more-requires c =
    let f = c in
    countable f.loop-k.invariant f.find_row-i.result (omega arith) (omega arith)

pub shape_of-states-then-types-eq-MOST_TYPES : goal.shape_of-states-then-types-eq-MOST_TYPES
shape_of-states-then-types-eq-MOST_TYPES c = same_size c.loop-k.invariant

pub returns-then-types-eq-MOST_TYPES : goal.returns-then-types-eq-MOST_TYPES
returns-then-types-eq-MOST_TYPES c =
    let f = c in
    refused f.loop-k.invariant (omega arith) (let l = f.loop-k in f.find_row-i.ensures ∙ ap (λ (r : Bytes). first l.types (λ j. is_same_row (stored_at l.states j) r)) f.row-row.ensures) (omega arith) (omega arith)

pub copy-requires : goal.copy-requires
copy-requires c =
    let r = c in
    let l = r.loop-k in
    let job = r.args.job.now in
    let full = ap length r.row-row.ensures ∙ row-size job l.invariant.ok l.k (omega arith) in
    omega (arith, full, same_size l.invariant)

-- The row was counted by type i, or it is one type more.
pub loop-k-preserved : goal.loop-k-preserved
loop-k-preserved c =
    let l = c.loop-k in
    let h : l.k < rows c.args.job.now = omega (arith, c.loop-k-test.true, c.requires.1) in
    let found : c.find_row-i.result ≡ first l.types (λ j. is_same_row (stored_at l.states j) (stored (job_row c.args.job.now l.k))) =
    c.find_row-i.ensures ∙ ap (λ (r : Bytes). first l.types (λ j. is_same_row (stored_at l.states j) r)) c.row-row.ensures in
    elim c.if-i-types.branch [
      | then-i-types w ↦
          holds_as (one-row-more l.invariant h found w.if-i-types.true)
          w.states-is (w.kinds-is ∙ ap (set l.kinds c.find_row-i.result) w.one_more.ensures) w.types-is
      | else-i-types+else-types-eq-MOST_TYPES w ↦
          holds_as (one-type-more l.invariant h found w.if-i-types.false (omega arith))
          (w.states-is ∙ w.copy.ensures ∙ ap (placed l.states (64 * l.types)) c.row-row.ensures)
          (w.kinds-is ∙ ap (set l.kinds l.types) c.single-alone.ensures) w.types-is
    ]

pub shape_of-states : goal.shape_of-states
shape_of-states c = same_size c.loop-k.invariant

pub returns : goal.returns
returns c = all_read c.loop-k.invariant (omega arith)
