-- The public call: what it answers and what it leaves in everything lent, for every input.
use Rattle.std.specs.Prelude.{◌≡◌, List, ℕ, length, replicate, Result}
use Rattle.rules.specs.Job.{Bytes}
use Rattle.rules.specs.Lent.{Lent}
use Rattle.rules.specs.Call.{Served, answer, result_after, states_after}
use Rattle.rules.specs.Answers.{Answer}
use Rattle.rules.specs.declared.Link.{Link}
use Rattle.rules.specs.declared.Refusal.{Refusal}
use Rattle.job.specs.Areas.{lengths}
use Rattle.network.specs.declared.draw.Sketch.{Sketch}
use Rattle.network.specs.Drawn.{Sketched}

-- The lengths lent.
abbrev pub lent_by : Bytes → Bytes → List ℕ → List Link → Lent
lent_by result states distances links = lengths (length result) (length states) (length distances) (length links)

-- The call answers as the rules do and leaves what they leave, with the lengths lent.
pub record Called (job result states : Bytes) (distances : List ℕ) (links : List Link) (r : Answer) (result' states' : Bytes) (distances' : List ℕ) (links' : List Link) : Type 0 where
  pub served : Served (lent_by result states distances links) job r result' states' distances' links'

-- The job is answered up to its links: what is written and what keeps its length.
pub record Answered (job result states : Bytes) (distances : List ℕ) (links : ℕ) (r : Result Sketch Refusal) (result' states' : Bytes) (distances' : List ℕ) : Type 0 where
  pub states_size : length states' ≡ length states
  pub distances_size : length distances' ≡ length distances
  pub wrote : Sketched (lengths (length result) (length states) (length distances) links) job result r result' distances'

-- The same over a result that is cleared first, and with no state left. The distance area is still needed.
pub record Unlinked (job result states : Bytes) (distances : List ℕ) (links : ℕ) (r : Result Sketch Refusal) (result' states' : Bytes) (distances' : List ℕ) : Type 0 where
  pub states_left : states' ≡ replicate (length states) 0
  pub distances_size : length distances' ≡ length distances
  pub wrote : Sketched (lengths (length result) (length states) (length distances) links) job (replicate (length result) 0) r result' distances'

-- The same with its links. All but the areas that these are in is as the call leaves it.
pub record Linked (job result states : Bytes) (distances : List ℕ) (links : List Link) (r : Answer) (result' states' : Bytes) (distances' : List ℕ) (links' : List Link) : Type 0 where
  pub answered : r ≡ answer (lent_by result states distances links) job
  pub result_left : result' ≡ result_after (lent_by result states distances links) job
  pub states_left : states' ≡ states_after (lent_by result states distances links)
  pub distances_size : length distances' ≡ length distances
  pub links_size : length links' ≡ length links
