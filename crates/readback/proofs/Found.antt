-- What is known of a job that is answered with a network: no refusal was given, and the network is what Phase II leaves of the
-- state in which Phase I settles.
use Rattle.std.specs.Prelude.{Err}
use mathlib.Core.Path.{◌≡◌, refl, sym, ap, ◌∙◌}
use mathlib.Core.Logic.{◌≢◌, ◌↔◌}
use mathlib.Core.Bool.{Bool, true, false, cond, not}
use mathlib.Core.List.{List}
use Prim.Native.Nat.{ℕ, ◌≤◌}
use native.Mathlib.Omega.{arith}
use lib.Dec.{eqb}
use lib.ListN.{length, length-map}
use borrow.Author.Tests.{eqb-true, eqb-false}
use Rattle.rules.specs.Answers.{number, when◌refuse◌else◌, passed, Answer}
use Rattle.rules.specs.Job.{Bytes, width, epsilon, weights, job_rows, checked}
use Rattle.rules.specs.Lent.{Lent, area_short}
use Rattle.rules.specs.Types.{rows_of, sampled, has_too_many, row129}
use Rattle.rules.specs.Purge.{Run, purge}
use Rattle.rules.specs.Run.{Outcome, settled, full, start, Network, phase_two, split}
use Rattle.rules.specs.Call.{Verdict, refused, found, ◌then◌, ended, outcome, verdict, answer, answer_to}
use Rattle.rules.specs.declared.Refusal.TheVariants.{Area, Types, Room}
use Rattle.rules.proofs.Ends.{phase_one_is}
use Rattle.rules.proofs.Keeps.{made-count}
use Rattle.rules.proofs.Job.{row-widths}
use Rattle.rules.proofs.Types.{few-sampled}
use Rattle.rules.proofs.Sound.{Sound, sound-settled, sound-purge}
use Rattle.rules.proofs.Links.{never_split}
use Rattle.readback.specs.Runs.{Runs}

pub record Found (lent : Lent) (job : Bytes) (net : Network) : Type 0 where
  pub areas : area_short lent ≡ false
  pub checks : number (checked job) ≡ 0
  pub few : length (sampled (job_rows job)) ≤ 128
  pub run : Run
  pub runs : Runs job (settled run)
  pub left : net ≡ phase_two (weights job) run

-- The links of Phase II join all kept types, so SPLIT is never given.
pub never_split-network : (ws : List ℕ) (run : Run) → split (phase_two ws run) ≡ false
unfolding phase_two
never_split-network ws run =
    let ts = (purge ws 0 run).current in
    ap not (rw (length-map ts (λ t. t.row)) at (never_split ws 0 (rows_of ts)))

differ : {a : Answer} {net : Network} → refused a ≡ found net → ⊥
differ e = let z : ◌≡◌ {A = ℕ} 0 1 = cc in omega arith

-- A network behind a test means that the test refused nothing.
passes_on : (a : Answer) (v : Verdict) {net : Network} → (a then v) ≡ found net → (number a ≡ 0) × (v ≡ found net)
passes_on a v {net} = go (eqb (number a) 0) refl
  where
    go : (t : Bool) → eqb (number a) 0 ≡ t → cond t v (refused a) ≡ found net → (number a ≡ 0) × (v ≡ found net)
    go true e f = (eqb-true _ _ e, f)
    go false e f = absurd (differ f)

pub unrefused : (t : Bool) (a : Answer) → number a ≢ 0 → number (when t refuse a else passed) ≡ 0 → t ≡ false
unrefused true a h z = absurd (h z)
unrefused false a h z = refl

-- Phase I of a job that starts with at most 128 types.
pub runs-outcome : (job : Bytes) → length (sampled (job_rows job)) ≤ 128 → Runs job (outcome job)
unfolding outcome
runs-outcome job h = phase_one_is (weights job) (epsilon job) (start (job_rows job)) (omega (arith, made-count (start (job_rows job))))

pub found-is : (lent : Lent) (job : Bytes) (net : Network) → verdict lent job ≡ found net → Found lent job net
unfolding verdict
found-is lent job net e =
    let a = passes_on (when area_short lent refuse Err Area else passed) _ e in
    let b = passes_on (checked job) _ a.1 in
    let c = passes_on (when has_too_many (job_rows job) refuse Err (Types (row129 (job_rows job))) else passed) _ b.1 in
    let few = few-sampled (job_rows job) (unrefused _ (Err (Types (row129 (job_rows job)))) (omega arith) c.0) in
    let s = settles (outcome job) (runs-outcome job few) c.1 in
    record {
      areas = unrefused _ (Err Area) (omega arith) a.0;
      checks = b.0;
      few = few;
      run = s.0;
      runs = s.1;
      left = s.2;
    }
  where
    settles : (end : Outcome) → Runs job end → ended (weights job) end ≡ found net → (run : Run) × Runs job (settled run) × (net ≡ phase_two (weights job) run)
    settles (full round) r f = absurd (differ f)
    settles (settled run) r f =
        let g : found (phase_two (weights job) run) ≡ found net = rw (never_split-network (weights job) run) at f in
        (run, r, cc)

-- The state that Phase II leaves is sound.
pub found-sound : {lent : Lent} {job : Bytes} {net : Network} (f : Found lent job net) → Sound (job_rows job) (width job) (purge (weights job) 0 f.run)
found-sound {job} f = sound-purge (weights job) 0 _ _ _ (sound-settled (job_rows job) (width job) f.runs (row-widths job) f.few)

-- ── No refusal is given exactly if a network is found ──

-- A refusal that comes out of the tests has a number.
abbrev pub Numbered : Verdict → Type 0
Numbered v = (a : Answer) → v ≡ refused a → number a ≢ 0

refuses_numbered : (a : Answer) → number a ≢ 0 → Numbered (refused a)
refuses_numbered a n b e z = n (let f : a ≡ b = cc in ap number f ∙ z)

then_numbered : (a : Answer) (v : Verdict) → Numbered v → Numbered (a then v)
then_numbered a v n = go (eqb (number a) 0) refl
  where
    go : (t : Bool) → eqb (number a) 0 ≡ t → Numbered (cond t v (refused a))
    go true e = n
    go false e = refuses_numbered a (eqb-false _ _ e)

ended_numbered : (ws : List ℕ) (end : Outcome) → Numbered (ended ws end)
ended_numbered ws (full round) = refuses_numbered (Err (Room round)) (omega arith)
ended_numbered ws (settled run) = rw (never_split-network ws run) (λ a e. absurd (differ (sym e)))

pub verdict_numbered : (lent : Lent) (job : Bytes) → Numbered (verdict lent job)
unfolding verdict
verdict_numbered lent job =
    then_numbered (when area_short lent refuse Err Area else passed) _
    (then_numbered (checked job) _
    (then_numbered (when has_too_many (job_rows job) refuse Err (Types (row129 (job_rows job))) else passed) _
    (ended_numbered (weights job) (outcome job))))

pub answered : (lent : Lent) (job : Bytes) → (number (answer lent job) ≡ 0) ↔ ((net : Network) × (verdict lent job ≡ found net))
unfolding answer
answered lent job = (there (verdict lent job) refl, λ s. rw s.1)
  where
    there : (v : Verdict) → verdict lent job ≡ v → number (answer_to (width job) v) ≡ 0 → (net : Network) × (verdict lent job ≡ found net)
    there (refused a) e z = absurd (verdict_numbered lent job a e z)
    there (found net) e z = (net, e)
