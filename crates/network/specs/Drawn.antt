-- What is answered for a job, and what stands in the result and is left in the work areas, before its links are written.
use Rattle.std.specs.Prelude.{◌≡◌, false, List, [], ℕ, length, Result, Ok, Err}
use Rattle.rules.specs.Job.{Bytes, width}
use Rattle.rules.specs.Lent.{Lent, area_short}
use Rattle.rules.specs.Call.{Verdict, refused, found, verdict, answer}
use Rattle.rules.specs.Answers.{Answer}
use Rattle.rules.specs.declared.Link.{Link}
use Rattle.rules.specs.declared.Refusal.{Refusal}
use Rattle.memory.specs.Placed.{placed}
use Rattle.purge.specs.Network.{links_in}
use Rattle.purge.specs.declared.state.Held.{Held}
use Rattle.result.specs.Front.{front}
use Rattle.run.specs.Ran.{Ran}
use Rattle.network.specs.declared.draw.Sketch.{Sketch}

-- What a verdict writes up to its links; its links, and its types.
abbrev pub sketched : ℕ → Verdict → Bytes
sketched m (refused a) = []
sketched m (found net) = front m net

abbrev pub verdict_links : Verdict → List Link
verdict_links (refused a) = []
verdict_links (found net) = net.links

abbrev pub verdict_types : Verdict → ℕ
verdict_types (refused a) = 0
verdict_types (found net) = length net.types

-- What is answered with a network or a refusal.
abbrev pub answered_by : Result Sketch Refusal → Answer
answered_by (Ok sketch) = Ok sketch.used
answered_by (Err refusal) = Err refusal

-- A network's types and links are those of the rules, which the distance area tells, and its links go behind what they write up to them.
pub record Outlined (lent : Lent) (job : Bytes) (sketch : Sketch) (distances' : List ℕ) : Type 0 where
  pub at_is : sketch.at ≡ length (sketched (width job) (verdict lent job))
  pub types_are : sketch.types ≡ verdict_types (verdict lent job)
  pub links_are : links_in sketch.types distances' ≡ verdict_links (verdict lent job)
  pub count_is : sketch.links ≡ length (verdict_links (verdict lent job))

-- The rules' answer is given, and what they write stands at the front of the result up to its links.
pub record Sketched (lent : Lent) (job result : Bytes) (r : Result Sketch Refusal) (result' : Bytes) (distances' : List ℕ) : Type 0 where
  pub answered : answered_by r ≡ answer lent job
  pub result_is : result' ≡ placed result 0 (sketched (width job) (verdict lent job))
  pub outlined : (sketch : Sketch) → r ≡ Ok sketch → Outlined lent job sketch distances'

-- Of a job that passed checks 2 to 7, whatever lengths are lent that check 1 lets pass. The work areas are as its run leaves them.
pub record Drawn (job result states : Bytes) (distances : List ℕ) (r : Result Sketch Refusal) (result' states' : Bytes) (distances' : List ℕ) : Type 0 where
  pub end : Result Held Refusal
  pub ran : Ran job (length states) (length distances) states' distances' end
  pub wrote : (lent : Lent) → area_short lent ≡ false → Sketched lent job result r result' distances'
