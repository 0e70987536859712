-- RULES 19.3, the third demand, put together: what is drawn for every job that is answered with a network.
use mathlib.Core.Path.{◌≡◌, refl, ap, ◌∙◌}
use mathlib.Core.Bool.{true}
use mathlib.Core.List.{List}
use Prim.Native.Nat.{ℕ, ◌+◌, ◌≤◌, ◌<◌}
use native.Mathlib.Omega.{arith}
use lib.ListN.{length, length-map, length-append, get_or-append}
use lib.Seq.{get_or-append-add}
use Rattle.graph.specs.Below.{sum}
use Rattle.graph.proofs.Below.{in_at, sum_add, sum_ext, sum_zero}
use Rattle.rules.specs.Job.{Bytes, rows, width, weights, job_rows}
use Rattle.rules.specs.Lent.{Lent}
use Rattle.rules.specs.Types.{Node, InferredBy, inferred, row_count, node_at, rows_of, sampled}
use Rattle.rules.specs.Links.{link_count}
use Rattle.rules.specs.Purge.{Run, links_of, purge}
use Rattle.rules.specs.Run.{Network, phase_two}
use Rattle.rules.specs.Call.{found, verdict}
use Rattle.rules.specs.declared.Origin.{Origin}
use Rattle.rules.proofs.Job.{length-rows}
use Rattle.rules.proofs.Types.{row_counts}
use Rattle.rules.proofs.Links.{links-at, links-order}
use Rattle.rules.proofs.Ends.{purge-links}
use Rattle.rules.proofs.Sound.{Sound}
use Rattle.readback.proofs.Found.{found-is, found-sound}
use Rattle.claims.specs.Drawing.{Drawing}
use Rattle.claims.proofs.Drawing.{listed-cheapest, network-joined}

-- An inferred type counts no rows.
inferred-round : (rounds : ℕ) (o : Origin) → InferredBy rounds o → (inferred o ≡ true) × (row_count o ≡ 0)
inferred-round rounds o i = rw i.origin_is (refl, refl)

module _ (job : Bytes) (run : Run) (sound : Sound (job_rows job) (width job) (purge (weights job) 0 run)) where
  abbrev ts : List Node
  ts = (purge (weights job) 0 run).current

  abbrev xs : List Node
  xs = sampled (job_rows job)

  abbrev later : List Node
  later = sound.later

  behind : (k : ℕ) → k < length later → InferredBy (purge (weights job) 0 run).rounds (node_at later k).origin
  behind k h = sound.later-inferred _ (in_at later k _ h)

  behind-is : (k : ℕ) → node_at ts (length xs + k) ≡ node_at later k
  behind-is k = rw sound.current-is (get_or-append-add xs later k _)

  length-ts : length ts ≡ length xs + length later
  length-ts = ap length sound.current-is ∙ length-append xs later

  counted : sum (length ts) (λ k. row_count (node_at ts k).origin) ≡ rows job
  counted =
      rw (length-ts) (sum_add (length xs) (length later) (λ k. row_count (node_at ts k).origin) ∙
      omega (arith, front ∙ row_counts (job_rows job) ∙ length-rows job, back))
    where
      front : sum (length xs) (λ k. row_count (node_at ts k).origin) ≡ sum (length xs) (λ k. row_count (node_at xs k).origin)
      front = sum_ext (length xs) _ _ (λ k h. rw (sound.current-is, get_or-append xs later _ k h))

      back : sum (length later) (λ k. row_count (node_at ts (length xs + k)).origin) ≡ 0
      back = sum_zero (length later) _ (λ k h. rw (behind-is k) (inferred-round _ _ (behind k h)).1)

  three : (k : ℕ) → k < length later → 3 ≤ link_count (links_of (weights job) 0 (purge (weights job) 0 run)) (length xs + k)
  three k h =
      purge-links (weights job) 0 run (length xs + k) (omega (arith, length-ts)) (rw (behind-is k) (inferred-round _ _ (behind k h)).0)

  drawn-network : Drawing job (phase_two (weights job) run)
  unfolding phase_two
  drawn-network = record {
    inferred = later;
    kept = sound.current-is;
    rounds = behind;
    counted = counted;
    cheapest = listed-cheapest (weights job) ts;
    lower = λ k h. (links-at (weights job) 0 (rows_of ts) k h).rising;
    higher = λ k h. rw (length-map ts (λ t. t.row)) at (links-at (weights job) 0 (rows_of ts) k h).within;
    long = λ k h. (links-at (weights job) 0 (rows_of ts) k h).long;
    ordered = links-order (weights job) 0 (rows_of ts);
    three = three;
    joined = network-joined (weights job) run;
  }

pub drawn : (lent : Lent) (job : Bytes) (net : Network) → verdict lent job ≡ found net → Drawing job net
drawn lent job net e =
    let f = found-is lent job net e in
    rw f.left (drawn-network job f.run (found-sound f))
