-- What is claimed, in one page: of the rules (docs/RULES.md), of the public functions' contracts, and of the bytes that a call leaves. Each
-- claim is stated in the words of specs/ and proved by what it cites.
use Rattle.std.specs.Prelude.{Err, Ok}
use mathlib.Core.Path.{◌≡◌, sym, ◌∙◌}
use mathlib.Core.Logic.{◌↔◌, ◌≢◌}
use mathlib.Core.List.{List, []}
use Prim.Native.Nat.{ℕ, ◌≤◌, ◌<◌}
use lib.Dec.{T}
use lib.ListN.{length, take, drop, get_or, replicate}
use Rattle.graph.specs.Below.{table}
use Rattle.graph.proofs.Below.{in_at}
use Rattle.rules.specs.Answers.{number, used, passed, Answer}
use Rattle.rules.specs.Job.{Bytes, width, epsilon, weights, job_rows, checked}
use Rattle.rules.specs.Lent.{Lent}
use Rattle.rules.specs.Types.{node_at, sampled}
use Rattle.rules.specs.Purge.{Run, Purges, purge, purge_times}
use Rattle.rules.specs.Round.{made}
use Rattle.rules.specs.Run.{PhaseOne, phase_one, phase_one_in, Network}
use Rattle.rules.specs.Result.{block_length}
use Rattle.rules.specs.Lookup.{lookup}
use Rattle.rules.specs.Call.{found, verdict, answer, padded, result_after}
use Rattle.rules.specs.Text.{digits, decimal, printed}
use Rattle.rules.specs.Cases.{all_hold, cases}
use Rattle.rules.specs.declared.Refusal.TheVariants.{Split}
use Rattle.rules.proofs.Table as table
use Rattle.rules.proofs.Ends as ends
use Rattle.rules.proofs.Decimals as decimals
use Rattle.readback.specs.ReadBack.{network_back}
use Rattle.readback.proofs.Found as network
use Rattle.readback.proofs.Result as result
use Rattle.answers.specs.Told.{Tells}
use Rattle.answers.specs.declared.Told.{Told}
use Rattle.text.specs.Printed.{ToldText, text_room, text_of, printed_bytes, RefusalLeft, TextLeft, BriefLeft, Printed}
use Rattle.text.specs.declared.Unprinted.TheVariants.{Short}
use Rattle.text.proofs.Once as text
use Rattle.service.specs.Served.{AnsweredJob, printed_in, Shown}
use Rattle.service.proofs.Text as service
use Rattle.lookup.specs.Places.{Points}
use Rattle.lookup.specs.declared.Place.{Place}
use Rattle.lookup.proofs.Places as places
use Rattle.hurdlesong_c.specs.Interface.{TextTold}
use Rattle.hurdlesong_c.proofs.Interface as interface
use Rattle.fasta.specs.Answers.{Conversion, conversion_number, conversion_used}
use Rattle.fasta.specs.Sequences.{sequences, sequence}
use Rattle.fasta.specs.Converted.{Converted}
use Rattle.claims.specs.Drawing.{Drawing}
use Rattle.claims.specs.Refusals.{Condition, Due}
use Rattle.claims.specs.Calls.{Memory, SameLengths, lengths_of, Calls, CallsTold}
use Rattle.claims.specs.Formed.{NotForForm}
use Rattle.claims.specs.Handed.{Handed}
use Rattle.claims.proofs.Drawn as drawing
use Rattle.claims.proofs.Refusals as refusals
use Rattle.claims.proofs.Calls as calls
use Rattle.claims.proofs.Fasta as fasta
use Rattle.claims.proofs.Handed as handed

-- ── RULES 16.1: the P cases ──

-- All cases of the table hold: texts printed, bytes written, pairs linked.
pub p_cases : T (all_hold cases)
p_cases = table.table-holds

-- ── RULES 19.1: every job gets an answer, and nothing of an earlier job shows (`Called`, the contract of `call`) ──

-- Two calls for the same job, lent memory of the same lengths, give the same answer and leave the same contents, whatever lay in the memory
-- before. With the same memory before, this says that the contract leaves no choice.
pub same-calls : (job : Bytes) (before before' after after' : Memory) (r r' : Answer) → SameLengths before before' →
    Calls job before r after → Calls job before' r' after' → (r ≡ r') × (after ≡ after')
same-calls job before before' after after' r r' s a b =
    (calls.same_answer job before before' after after' r r' s a b, calls.same_memory job before before' after after' r r' s a b)

module _ (job : Bytes) (before after : Memory) (r : Answer) (call : Calls job before r after) where
  -- All work memory is zero to its own end.
  pub work_zero : (after.states ≡ replicate (length before.states) 0) × (after.distances ≡ replicate (length before.distances) 0)
      × (after.links ≡ replicate (length before.links) (record { low = 0; high = 0; length = 0 }))
  work_zero = (call.served.states_left, call.served.distances_left, call.served.links_left)

  -- So is the result past the bytes used; a refusal uses none.
  pub past_zero : (k : ℕ) → used r ≤ k → get_or after.result k 0 ≡ 0
  past_zero = calls.past_zero job before after r call

  -- ── RULES 19.2: each refusal is given exactly when its condition holds and no earlier one does ──

  pub refused_exactly : (a : Answer) → number a ≢ 0 → (r ≡ a) ↔ Due (lengths_of before) job a
  refused_exactly a n = rw call.served.answered (refusals.given_in_turn (lengths_of before) job a n)

  -- No refusal is given exactly if no condition holds.
  pub accepted : (number r ≡ 0) ↔ ((a : Answer) → ¬ Condition (lengths_of before) job a)
  accepted = rw call.served.answered (refusals.accepted (lengths_of before) job)

  pub never_split : r ≢ (Err Split)
  never_split = rw call.served.answered (refusals.never_split-answer (lengths_of before) job)

  -- ── RULES 19.3: what the bytes left in the result draw ──

  -- A link is drawn exactly if some cheapest tree over the kept types has it, and the rest of Drawing.antt.
  pub drawn-bytes : number r ≡ 0 → Drawing job (network_back job after.result)
  drawn-bytes = calls.drawn-bytes job before after r call

-- ── The network behind the bytes ──

module _ (lent : Lent) (job : Bytes) where
  -- The result keeps the length lent and holds bytes.
  pub result_length : length (result_after lent job) ≡ lent.result
  result_length = result.result_length lent job

  pub result-bytes : (k : ℕ) → k < length (result_after lent job) → get_or (result_after lent job) k 0 < 256
  result-bytes k h = result.result-bytes lent job _ (in_at (result_after lent job) k 0 h)

  -- A network is found exactly where no refusal is given.
  pub answered : (number (answer lent job) ≡ 0) ↔ ((net : Network) × (verdict lent job ≡ found net))
  answered = network.answered lent job

  module _ (net : Network) (e : verdict lent job ≡ found net) where
    pub drawn : Drawing job net
    drawn = drawing.drawn lent job net e

    -- The result block read back by its own header gives the network, and the row lookup gives every type's states.
    pub read_back : network_back job (result_after lent job) ≡ net
    read_back = result.read_result lent job net e

    pub rows_back : (k : ℕ) → k < length net.types → lookup job (result_after lent job) k ≡ (node_at net.types k).row
    rows_back = result.rows-read lent job net e

    -- The bytes used are those of RULES 13.6, and the least memory lent is enough for them.
    pub bytes-used : used (answer lent job) ≡ block_length (length net.types) (length (sampled (job_rows job))) (width job) (length net.links)
    bytes-used = result.used_is lent job net e

-- ── The row lookup (the contract of `states_of` is an equation with `lookup`) ──

module _ (job block : Bytes) (k : ℕ) where
  -- Something is handed back exactly if the conditions of RULES 14.2 hold, and then as many states as a row has.
  pub handed_exactly : (lookup job block k ≢ []) ↔ Handed job block k
  handed_exactly = handed.handed_exactly job block k

  pub handed-length : Handed job block k → length (lookup job block k) ≡ width job
  handed-length = handed.handed-length job block k

  pub same-states : (xs ys : Bytes) → xs ≡ lookup job block k → ys ≡ lookup job block k → xs ≡ ys
  same-states xs ys e f = e ∙ sym f

-- ── The text (`TextLeft`, the contract of `text`; `RefusalLeft`, that of `refusal_text`; `BriefLeft`, that of `brief`) ──

-- The contracts leave no choice.
pub same_text : (job block : Bytes) (a : Answer) (lent : ℕ) (out out' : Bytes) (r r' : Printed) →
    TextLeft job block a lent out r → TextLeft job block a lent out' r' → (out ≡ out') × (r ≡ r')
same_text job block a lent out out' r r' p q = text.text-one p q

pub same-refusal-text : (n at lent : ℕ) (out out' : Bytes) (r r' : Printed) → RefusalLeft n at lent out r → RefusalLeft n at lent out' r' →
    (out ≡ out') × (r ≡ r')
same-refusal-text n at lent out out' r r' p q = (p.left ∙ sym q.left, p.answered ∙ sym q.answered)

pub same_brief : (job block : Bytes) (a : Answer) (lent : ℕ) (out out' : Bytes) (r r' : Printed) →
    BriefLeft job block a lent out r → BriefLeft job block a lent out' r' → (out ≡ out') × (r ≡ r')
same_brief job block a lent out out' r r' p q = text.brief_one p q

-- The text of what a call leaves is the text of the rules (RULES 15).
pub printed-text : (lent : Lent) (job : Bytes) → text_of job (result_after lent job) (answer lent job) ≡ printed lent job
printed-text = service.text-is

-- So it is in little memory: all of it or, where it lacks room, nothing. It never lacks room where there is room for every text.
module _ (lent : Lent) (job : Bytes) (n : ℕ) (out : Bytes) (r : Printed) (brief : BriefLeft job (result_after lent job) (answer lent job) n out r) where
  pub brief_whole : r ≢ (Err Short) → (r ≡ (Ok (length (printed lent job)))) × (out ≡ padded n (printed lent job))
  brief_whole = service.brief_whole lent job brief

  pub brief_roomy : text_room ≤ n → r ≢ (Err Short)
  brief_roomy = service.brief_roomy lent job brief

-- What `text` prints of what a call leaves is the text of the rules.
module _ (job : Bytes) (before after : Memory) (r : Answer) (call : Calls job before r after) (n : ℕ) (out : Bytes) (p : Printed)
    (t : TextLeft job after.result r n out p) where
  pub called-text : p ≡ printed_in n (printed (lengths_of before) job)
  called-text = service.text-said (lengths_of before) job call.served.answered call.served.result_left t

  pub called-text-left : out ≡ padded n (printed_bytes p (printed (lengths_of before) job))
  called-text-left = service.text-left (lengths_of before) job call.served.answered call.served.result_left t

-- ── The service (`AnsweredJob`), texts alone (`TextOnly`, `FastaText`) and what is told of an answer (`ToldOf`, `ToldText`, `ToldConversion`): no choice is left ──

pub same-answered : (job result result₁ result₂ : Bytes) (r r' : Answer) → AnsweredJob job result r result₁ → AnsweredJob job result r' result₂ →
    (r ≡ r') × (result₁ ≡ result₂)
same-answered job result result₁ result₂ r r' a b = (a.answered ∙ sym b.answered, a.left ∙ sym b.left)

pub same-shown : (xs out out₁ out₂ : Bytes) (r r' : ℕ) → Shown xs out r out₁ → Shown xs out r' out₂ → (r ≡ r') × (out₁ ≡ out₂)
same-shown xs out out₁ out₂ r r' a b = (a.used_is ∙ sym b.used_is, a.left ∙ sym b.left)

pub same-told : (n at bytes : ℕ) (r r' : Told) → Tells n at bytes r → Tells n at bytes r' → r ≡ r'
same-told n at bytes r r' p q i = record {
  number = (p.number_is ∙ sym q.number_is) i;
  place = (p.place_is ∙ sym q.place_is) i;
  used = (p.used_is ∙ sym q.used_is) i;
}

-- ── From C and Rust (`CallTold`, `Points`, `TextTold`: the contracts of `hurdlesong_call`, `hurdlesong_states`, `hurdlesong_text`) ──

-- What is told of a call is told of the answer that the call gives (`CallTold`), and depends on the job and the lengths lent alone.
pub same_call_told : (job : Bytes) (before before' after after' : Memory) (r r' : Told) → SameLengths before before' →
    CallsTold job before r after → CallsTold job before' r' after' → (r ≡ r') × (after ≡ after')
same_call_told job before before' after after' r r' s a b =
    let told = rw (← calls.same-lengths before before' s) at b.told in
    (same-told _ _ _ r r' a.told told, calls.same_memory job before before' after after' _ _ s a.called b.called)

module _ (job block : Bytes) (k : ℕ) (r : Place) (told : Points job block k r) where
  -- The states of the row lookup are those at the place told, in the job or in the result block; nowhere, there are none.
  pub told_in_job : r.source ≡ 1 → take r.length (drop r.at job) ≡ lookup job block k
  told_in_job = places.of_the_job told

  pub told_in_result : r.source ≡ 2 → take r.length (drop r.at block) ≡ lookup job block k
  told_in_result = places.of_the_result told

  pub told-nowhere : r.source ≡ 0 → [] ≡ lookup job block k
  told-nowhere = places.no_states told

  pub same_place : (r' : Place) → Points job block k r' → r ≡ r'
  same_place r' told' = places.same_place told told'

pub same-text-told : (job block : Bytes) (n at lent : ℕ) (out out' : Bytes) (r r' : Told) → TextTold job block n at lent out r →
    TextTold job block n at lent out' r' → (out ≡ out') × (r ≡ r')
same-text-told job block n at lent out out' r r' a b = (a.left ∙ sym b.left, same-told _ _ _ r r' a.told b.told)

-- A call, and then the text by the number and the place that were told: the text of the rules, if there is room for every text.
module _ (job : Bytes) (before after : Memory) (r t : Told) (lent : ℕ) (out : Bytes) (call : CallsTold job before r after)
    (text : TextTold job after.result r.number r.place lent out t) where
  pub told_text : ToldText (printed_in lent (printed (lengths_of before) job)) t
  told_text = interface.text-told call text

  pub told-text-left : out ≡ padded lent (printed_bytes (printed_in lent (printed (lengths_of before) job)) (printed (lengths_of before) job))
  told-text-left = interface.text-left call text

-- ── FASTA texts (`Converted`, the contract of `make_job`) ──

module _ (text job : Bytes) (e lent : ℕ) (r : Conversion) (turn : Converted text e lent job r) where
  -- Past the bytes used the lent job is zero; a refusal uses none.
  pub fasta_past_zero : (k : ℕ) → conversion_used r ≤ k → get_or job k 0 ≡ 0
  fasta_past_zero = fasta.past_zero turn

  module _ (z : conversion_number r ≡ 0) where
    -- A job that is made passes checks 2 to 7, so the call refuses it for none of them, whatever memory is lent.
    pub made-passes : checked (take (conversion_used r) job) ≡ passed
    made-passes = fasta.made-passes turn z

    pub made-not_for_form : (memory : Lent) → NotForForm (answer memory (take (conversion_used r) job))
    made-not_for_form memory = fasta.not_for_form memory (take (conversion_used r) job) made-passes

    -- Its rows are the text's sequences in order; its weights are all 1; its epsilon is the one given.
    pub made-rows : job_rows (take (conversion_used r) job) ≡ table (sequences text) (sequence text)
    made-rows = fasta.made-rows turn z

    pub made-weights : weights (take (conversion_used r) job) ≡ replicate (length (sequence text 0)) 1
    made-weights = fasta.made-weights turn z

    pub made-epsilon : epsilon (take (conversion_used r) job) ≡ e
    made-epsilon = fasta.made-epsilon turn z

-- The contract leaves no choice.
pub same-made : (text : Bytes) (e lent : ℕ) (job job' : Bytes) (r r' : Conversion) → Converted text e lent job r → Converted text e lent job' r' →
    (r ≡ r') × (job ≡ job')
same-made text e lent job job' r r' a b = (a.answered ∙ sym b.answered, a.left ∙ sym b.left)

-- ── No definition runs out of turns ──

module _ (ws : List ℕ) (e : ℕ) (run : Run) where
  -- A purge ends because nothing is obsolete, and more turns change nothing.
  pub purge-ends : Purges ws e run (purge ws e run)
  purge-ends = ends.purges ws e run

  pub purge-more : (times : ℕ) → length run.current ≤ times → purge_times times ws e run ≡ purge ws e run
  purge-more = ends.purge-more ws e run

  -- Phase I ends because no candidate is left or a round has no room, and more turns change nothing.
  pub phase_one-ends : length (made run) ≤ 128 → PhaseOne ws e run (phase_one ws e run)
  phase_one-ends = ends.phase_one_is ws e run

  pub phase_one-more : (rounds : ℕ) → 129 ≤ rounds → length (made run) ≤ 128 → phase_one_in rounds ws e run ≡ phase_one ws e run
  phase_one-more = ends.phase_more ws e run

-- A number has no more digits than are printed.
pub digits_more : (most n : ℕ) → n < most → digits most n ≡ decimal n
digits_more = decimals.digits_more
