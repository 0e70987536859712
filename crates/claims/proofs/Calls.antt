-- The claims of the definitions, said of a call: its answer and the bytes that it leaves.
use Rattle.std.specs.Prelude.{Ok, Err}
use mathlib.Core.Path.{◌≡◌, refl, sym, ap, ◌∙◌}
use mathlib.Core.Logic.{◌≢◌}
use mathlib.Core.List.{◌++◌}
use Prim.Native.Nat.{ℕ, ◌+◌, ◌-◌, ◌≤◌}
use native.Mathlib.Omega.{arith}
use lib.ListN.{length, get_or, replicate}
use lib.Seq.{get_or-append-add}
use Rattle.rules.specs.Answers.{number, used, Answer}
use Rattle.rules.specs.Job.{Bytes, width}
use Rattle.rules.specs.Lent.{Lent}
use Rattle.rules.specs.Call.{Verdict, refused, found, verdict, written, answer, result_after, links_after}
use Rattle.rules.specs.declared.Refusal.TheVariants.{Area, Head, Rows, Width, Layout, Weight, State, Types, Room, Split}
use Rattle.readback.specs.ReadBack.{network_back}
use Rattle.readback.proofs.Found.{answered, verdict_numbered}
use Rattle.readback.proofs.Result.{read_result}
use Rattle.network.proofs.Left.{zero_at}
use Rattle.claims.specs.Drawing.{Drawing}
use Rattle.claims.specs.Calls.{Memory, SameLengths, lengths_of, Calls}
use Rattle.claims.proofs.Drawn.{drawn}

-- ── Leftovers ──

-- Memory of the same lengths is lent alike.
pub same-lengths : (a b : Memory) → SameLengths a b → lengths_of a ≡ lengths_of b
same-lengths a b s i = record {
  result = s.result_length i;
  states = s.states_length i;
  distances = s.distances_length i;
  links = s.links_length i;
}

module _ (job : Bytes) (before before' after after' : Memory) (r r' : Answer) (same : SameLengths before before')
    (a : Calls job before r after) (b : Calls job before' r' after') where
  abbrev lent : lengths_of before ≡ lengths_of before'
  lent = same-lengths before before' same

  pub same_answer : r ≡ r'
  same_answer = a.served.answered ∙ ap (λ l. answer l job) lent ∙ sym b.served.answered

  pub same_memory : after ≡ after'
  same_memory i = record {
    result = (a.served.result_left ∙ ap (λ l. result_after l job) lent ∙ sym b.served.result_left) i;
    states = (a.served.states_left ∙ ap (λ n. replicate n 0) same.states_length ∙ sym b.served.states_left) i;
    distances = (a.served.distances_left ∙ ap (λ n. replicate n 0) same.distances_length ∙ sym b.served.distances_left) i;
    links = (a.served.links_left ∙ ap links_after lent ∙ sym b.served.links_left) i;
  }

-- ── What a call leaves ──

-- Zeros behind so many bytes.
pub zeros-behind : (xs : Bytes) (n k : ℕ) → length xs ≤ k → ◌≡◌ {A = ℕ} (get_or (xs ++ replicate n 0) k 0) 0
zeros-behind xs n k h =
    let e : k ≡ length xs + (k - length xs) = omega arith in
    rw e (get_or-append-add xs (replicate n 0) (k - length xs) 0 ∙ zero_at n (k - length xs))

-- The bytes used are those written.
used-written : (lent : Lent) (job : Bytes) → length (written (width job) (verdict lent job)) ≡ used (answer lent job)
unfolding answer
used-written lent job = go (verdict lent job) refl
  where
    refusal_uses : (a : Answer) → number a ≢ 0 → used a ≡ 0
    refusal_uses (Ok bytes) n = absurd (n refl)
    refusal_uses (Err Area) n = refl
    refusal_uses (Err Head) n = refl
    refusal_uses (Err Rows) n = refl
    refusal_uses (Err Width) n = refl
    refusal_uses (Err (Layout place)) n = refl
    refusal_uses (Err (Weight place)) n = refl
    refusal_uses (Err (State place)) n = refl
    refusal_uses (Err (Types place)) n = refl
    refusal_uses (Err (Room place)) n = refl
    refusal_uses (Err Split) n = refl

    go : (v : Verdict) → verdict lent job ≡ v → length (written (width job) (verdict lent job)) ≡ used (answer lent job)
    go (refused a) e = rw e (sym (refusal_uses a (verdict_numbered lent job a e)))
    go (found net) e = rw e

module _ (job : Bytes) (before after : Memory) (r : Answer) (call : Calls job before r after) where
  pub past_zero : (k : ℕ) → used r ≤ k → get_or after.result k 0 ≡ 0
  unfolding result_after
  past_zero k h =
      let xs = written (width job) (verdict (lengths_of before) job) in
      rw call.served.result_left
      (zeros-behind xs (length before.result - length xs) k (rw (used-written (lengths_of before) job, ← call.served.answered) h))

  pub drawn-bytes : number r ≡ 0 → Drawing job (network_back job after.result)
  drawn-bytes z =
      let (net, e) = (answered (lengths_of before) job).0 (rw call.served.answered at z) in
      rw (call.served.result_left, read_result (lengths_of before) job net e) (drawn (lengths_of before) job net e)
