-- The steps of the call: the first refusal of checks 1 to 7, or what is drawn.
use Rattle.std.specs.Prelude.{false, Result, Err}
use mathlib.Core.Path.{◌≡◌, refl, ap, ◌∙◌}
use mathlib.Core.List.{List}
use Prim.Native.Nat.{ℕ}
use lib.ListN.{length, replicate, length-replicate}
use Rattle.rules.specs.Job.{Bytes}
use Rattle.rules.specs.Lent.{Lent, area_short}
use Rattle.rules.specs.Call.{refused, verdict}
use Rattle.rules.specs.declared.Refusal.{Refusal}
use Rattle.job.specs.Areas.{lengths}
use Rattle.network.specs.declared.draw.Sketch.{Sketch}
use Rattle.network.specs.Drawn.{Drawn}
use Rattle.network.proofs.draw.Verdicts.{wrote_nothing}
use Rattle.network.specs.Called.{Answered, Unlinked}

module _ (job result states : Bytes) (distances : List ℕ) (links : ℕ) where
  abbrev lent : Lent
  lent = lengths (length result) (length states) (length distances) links

  -- One of checks 1 to 7 refuses.
  pub answered-refused : {e : Refusal} {r : Result Sketch Refusal} → verdict lent job ≡ refused (Err e) → r ≡ Err e →
      Answered job result states distances links r result states distances
  answered-refused e told = record { states_size = refl; distances_size = refl; wrote = wrote_nothing lent job result distances e told }

  -- None of them does.
  pub answered-drawn : {result' states' : Bytes} {distances' : List ℕ} {r : Result Sketch Refusal} → area_short lent ≡ false →
      Drawn job result states distances r result' states' distances' → Answered job result states distances links r result' states' distances'
  answered-drawn areas d = record { states_size = d.ran.states_size; distances_size = d.ran.area_size; wrote = d.wrote lent areas }

-- The result is cleared before, and the states behind.
pub unlinked : {job result states result' states' states'' : Bytes} {distances distances' : List ℕ} {links : ℕ} {r : Result Sketch Refusal} →
    Answered job (replicate (length result) 0) states distances links r result' states' distances' → states'' ≡ replicate (length states') 0 →
    Unlinked job result states distances links r result' states'' distances'
unlinked {result} a s = record {
  states_left = s ∙ ap (λ n. replicate n 0) a.states_size;
  distances_size = a.distances_size;
  wrote = rw (length-replicate {A = ℕ} (length result) 0) at a.wrote;
}
