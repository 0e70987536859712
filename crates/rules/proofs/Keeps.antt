-- What every step of a run keeps, the run keeps; and what a purge and a round do to the number of types.
use mathlib.Core.Path.{◌≡◌, refl, ◌∙◌}
use mathlib.Core.Logic.{◌≢◌}
use mathlib.Core.Bool.{true, not}
use mathlib.Core.List.{List, []}
use Prim.Native.Nat.{ℕ, ◌+◌, ◌≤◌, ◌<◌}
use native.Mathlib.Omega.{arith}
use lib.ListN.{length, length-append, length-map}
use Rattle.graph.specs.Below.{count}
use Rattle.graph.proofs.Below.{length-kept, count-not, count_pos, some_true}
use Rattle.rules.specs.Job.{Row}
use Rattle.rules.specs.Types.{rows_of, node_at}
use Rattle.rules.specs.Purge.{Run, links_of, obsolete, purge_once, some_obsolete, Purges, none, again}
use Rattle.rules.specs.Round.{made, offers}
use Rattle.rules.specs.Run.{settled, fresh, grown, PhaseOne, no_candidate, round}
use Rattle.rules.specs.declared.Link.{Link}

-- Q is kept by a purge of all that is obsolete, `once`, and in phase I by a round with room too, `more`.
module _ {ws : List ℕ} {e : ℕ} (Q : Run → Type 0) (once : (run : Run) → Q run → Q (purge_once (links_of ws e run) run)) where
  pub purges-keeps : {run purged : Run} → Purges ws e run purged → Q run → Q purged
  purges-keeps (none f) q = q
  purges-keeps (again t p) q = purges-keeps p (once _ q)

  pub phase_keeps : ((run : Run) → Q run → offers ws e run ≢ [] → length (made run) + length (fresh ws e run) ≤ 128 → Q (grown (fresh ws e run) run)) →
      {run end : Run} → PhaseOne ws e run (settled end) → Q run → Q end
  phase_keeps more (no_candidate p n) q = purges-keeps p q
  phase_keeps more (round p c room rest) q = phase_keeps more rest (more _ (purges-keeps p q) c room)

pub made-count : (run : Run) → length (made run) ≡ length run.current + length run.retired
made-count run = length-append (rows_of run.current) run.retired ∙ rw (length-map run.current (λ t. t.row))

-- A purge retires the obsolete types and keeps the others, so that nothing ever made is lost.
current-once : (ls : List Link) (run : Run) →
    length (purge_once ls run).current ≡ count (length run.current) (λ i. not (obsolete run.current ls i))
unfolding purge_once
current-once ls run = length-kept (length run.current) (λ i. not (obsolete run.current ls i)) (node_at run.current)

retired-once : (ls : List Link) (run : Run) →
    length (purge_once ls run).retired ≡ length run.retired + count (length run.current) (obsolete run.current ls)
unfolding purge_once
retired-once ls run =
    length-append run.retired _ ∙ rw (length-kept (length run.current) (obsolete run.current ls) (λ i. (node_at run.current i).row))

pub made-once : (ls : List Link) (run : Run) → length (made (purge_once ls run)) ≡ length (made run)
made-once ls run =
    omega (arith, made-count run, made-count (purge_once ls run), current-once ls run, retired-once ls run, count-not (length run.current) (obsolete run.current ls))

-- Where a type is obsolete, a purge leaves fewer.
pub once_shorter : (ls : List Link) (run : Run) → some_obsolete ls run ≡ true → length (purge_once ls run).current < length run.current
once_shorter ls run t =
    let n = length run.current in
    let p = obsolete run.current ls in
    omega (arith, current-once ls run, count-not n p, (count_pos n p).1 ((some_true n p).0 t))

pub made-purges : {ws : List ℕ} {e : ℕ} {run purged : Run} → Purges ws e run purged → length (made purged) ≡ length (made run)
made-purges {run} p = purges-keeps (λ r. length (made r) ≡ length (made run)) (λ r h. made-once _ r ∙ h) p refl

pub made-grown : (xs : List Row) (run : Run) → length (made (grown xs run)) ≡ length (made run) + length xs
unfolding grown
made-grown xs run = simp (length-append, length-map) (omega arith)
