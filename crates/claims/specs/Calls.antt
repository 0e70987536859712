-- RULES 3.4 and 19.1: the public call as a whole, with the memory before and after. The claims about it name `Called`, the contract of
-- `call` in `network`, and `CallTold`, that of `hurdlesong_call` in `hurdlesong_c`.
use Rattle.std.specs.Prelude.{◌≡◌, List, ℕ, length}
use Rattle.rules.specs.Job.{Bytes}
use Rattle.rules.specs.Lent.{Lent}
use Rattle.rules.specs.Answers.{Answer}
use Rattle.rules.specs.declared.Link.{Link}
use Rattle.answers.specs.declared.Told.{Told}
use Rattle.network.specs.Called.{lent_by, Called}
use Rattle.hurdlesong_c.specs.Interface.{CallTold}

-- RULES 3.1: the four areas, which may be lent to one job after another.
pub record Memory : Type 0 where
  pub result : Bytes
  pub states : Bytes
  pub distances : List ℕ
  pub links : List Link

-- RULES 3.4: memory of the same lengths, whatever it holds.
pub record SameLengths (a b : Memory) : Type 0 where
  pub result_length : length a.result ≡ length b.result
  pub states_length : length a.states ≡ length b.states
  pub distances_length : length a.distances ≡ length b.distances
  pub links_length : length a.links ≡ length b.links

abbrev pub lengths_of : Memory → Lent
lengths_of m = lent_by m.result m.states m.distances m.links

-- RULES 19.1: a call for a job: the memory before, the answer, the memory after.
abbrev pub Calls : Bytes → Memory → Answer → Memory → Type 0
Calls job before r after =
    Called job before.result before.states before.distances before.links r after.result after.states after.distances after.links

-- RULES 19.1: the same from C, with what is told of the answer.
abbrev pub CallsTold : Bytes → Memory → Told → Memory → Type 0
CallsTold job before r after =
    CallTold job before.result before.states before.distances before.links r after.result after.states after.distances after.links
