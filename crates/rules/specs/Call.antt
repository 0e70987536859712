-- RULES 4.2 and 3.3: what a job is answered, and what all lent memory holds afterwards.
use Rattle.std.specs.Prelude.{◌≡◌, cond, List, [], ◌++◌, ℕ, ◌-◌, eqb, length, replicate, Ok, Err}
use Rattle.rules.specs.Answers.{number, when◌refuse◌else◌, passed, Answer}
use Rattle.rules.specs.Job.{Bytes, width, epsilon, weights, job_rows, checked}
use Rattle.rules.specs.Lent.{Lent, area_short}
use Rattle.rules.specs.Types.{has_too_many, row129}
use Rattle.rules.specs.Run.{Outcome, settled, full, start, phase_one, Network, phase_two, split}
use Rattle.rules.specs.Result.{block}
use Rattle.rules.specs.declared.Refusal.TheVariants.{Area, Types, Room, Split}
use Rattle.rules.specs.declared.Link.{Link}

-- RULES 4.2: a job is refused, or has a network.
pub data Verdict : Type 0 where
  refused : Answer → Verdict
  found : Network → Verdict

-- RULES 4.3 (SPLIT): what becomes of a job whose run has come to its network.
abbrev pub concluded : Network → Verdict
concluded net = cond (split net) (refused (Err Split)) (found net)

-- RULES 4.3 (ROOM), 12.2: what becomes of a job whose Phase I has ended.
abbrev pub ended : List ℕ → Outcome → Verdict
ended ws (full round) = refused (Err (Room round))
ended ws (settled run) = concluded (phase_two ws run)

-- RULES 12.1: how Phase I ends for a job.
unfoldable pub outcome : Bytes → Outcome
outcome job = phase_one (weights job) (epsilon job) (start (job_rows job))

-- RULES 4.2: this refusal, if it is one, or what comes next.
infixr 1 ◌then◌
abbrev pub ◌then◌ : Answer → Verdict → Verdict
a then next = cond (eqb (number a) 0) next (refused a)

-- RULES 4.2: all refusals in their order: 1; 2 to 7; 8; 9 and 10.
unfoldable pub verdict : Lent → Bytes → Verdict
verdict lent job =
    (when area_short lent refuse Err Area else passed) then
    checked job then
    (when has_too_many (job_rows job) refuse Err (Types (row129 (job_rows job))) else passed) then
    ended (weights job) (outcome job)

-- RULES 3.3: the bytes written: those of the network's block, or none.
abbrev pub written : ℕ → Verdict → Bytes
written m (refused a) = []
written m (found net) = block m net

-- RULES 4.1: the answer.
abbrev pub answer_to : ℕ → Verdict → Answer
answer_to m (refused a) = a
answer_to m (found net) = Ok (length (block m net))

unfoldable pub answer : Lent → Bytes → Answer
answer lent job = answer_to (width job) (verdict lent job)

-- RULES 3.2, 3.3: bytes, and zeros behind them up to a length.
abbrev pub padded : ℕ → Bytes → Bytes
padded n xs = xs ++ replicate (n - length xs) 0

-- RULES 3.3: the result area afterwards.
unfoldable pub result_after : Lent → Bytes → Bytes
result_after lent job = padded lent.result (written (width job) (verdict lent job))

-- RULES 3.2, 3.3: the work areas afterwards.
abbrev pub states_after : Lent → Bytes
states_after lent = replicate lent.states 0

abbrev pub distances_after : Lent → List ℕ
distances_after lent = replicate lent.distances 0

abbrev pub links_after : Lent → List Link
links_after lent = replicate lent.links (record { low = 0; high = 0; length = 0 })

-- RULES 3.3, 3.4, 4.1: the whole of what a call must do. Answer and memory depend on the lengths lent and the job, and on nothing else.
pub record Served (lent : Lent) (job : Bytes) (r : Answer) (result states : Bytes) (distances : List ℕ) (links : List Link) : Type 0 where
  pub answered : r ≡ answer lent job
  pub result_left : result ≡ result_after lent job
  pub states_left : states ≡ states_after lent
  pub distances_left : distances ≡ distances_after lent
  pub links_left : links ≡ links_after lent
