-- What the contract of `run` says to its caller: a run that is not refused settled, and few types are kept; and it leaves no choice:
-- two runs of a job that meet it give one answer, and leave the same in all that was lent.
use Rattle.std.specs.Prelude.{Result, Ok, Err}
use mathlib.Core.Logic.{◌⊎◌, inl, inr}
use mathlib.Core.Path.{◌≡◌, refl, sym, ap, ◌∙◌}
use mathlib.Core.Bool.{Bool, true, false}
use mathlib.Core.List.{List}
use Prim.Native.Nat.{ℕ, ◌≤◌}
use Rattle.rules.specs.Answers.{passed}
use Rattle.rules.specs.Job.{Bytes, width, weights, job_rows}
use Rattle.rules.specs.Types.{has_too_many, row129}
use Rattle.rules.specs.Purge.{Run}
use Rattle.rules.specs.Run.{Outcome, settled, full, phase_two}
use Rattle.rules.specs.Call.{outcome}
use Rattle.rules.proofs.Answers.{ok-same, err-same, ok-not-err}
use Rattle.purge.proofs.Back.{holds-one}
use Rattle.rules.specs.declared.Refusal.{Refusal}
use Rattle.rules.specs.declared.Refusal.TheVariants.{Types, Room}
use Rattle.purge.specs.declared.state.Held.{Held}
use Rattle.purge.specs.Network.{network_in}
use Rattle.run.specs.Phases.{NetworkHeld}
use Rattle.run.specs.Ran.{Ran, run_answer}
use Rattle.run.proofs.Ending.{kept-few, types-few}

-- Where neither TYPES nor ROOM is given, Phase I settled in a run.
pub settles : (job : Bytes) → run_answer job ≡ passed → (end : Run) × (outcome job ≡ settled end)
settles job = go (has_too_many (job_rows job)) refl (outcome job) refl
  where
    go : (t : Bool) → has_too_many (job_rows job) ≡ t → (o : Outcome) → outcome job ≡ o → run_answer job ≡ passed → (end : Run) × (outcome job ≡ settled end)
    go true t o e z = absurd (ok-not-err (sym (rw t at z)))
    go false t (full round) e z = absurd (ok-not-err (sym (rw (t, e) at z)))
    go false t (settled end) e z = (end, e)

-- One of the two is given, or neither.
refusal-or-passed : (job : Bytes) → ((e : Refusal) × (run_answer job ≡ Err e)) ⊎ (run_answer job ≡ passed)
refusal-or-passed job = go (has_too_many (job_rows job)) refl (outcome job) refl
  where
    go : (t : Bool) → has_too_many (job_rows job) ≡ t → (o : Outcome) → outcome job ≡ o → ((e : Refusal) × (run_answer job ≡ Err e)) ⊎ (run_answer job ≡ passed)
    go true t o e = inl (Types (row129 (job_rows job)), rw t)
    go false t (full round) e = inl (Room round, rw (t, e))
    go false t (settled end) e = inr (rw (t, e))

-- A run that ends with a network was not refused: what it holds is the network's run.
pub record Told (job states : Bytes) (area : List ℕ) (held : Held) : Type 0 where
  pub end : Run
  pub settled_in : outcome job ≡ settled end
  pub passed_is : run_answer job ≡ passed
  pub kept : NetworkHeld (width job) (weights job) end states area held
  pub network_is : network_in (width job) states area held ≡ phase_two (weights job) end

module _ {job states : Bytes} {lent cells : ℕ} {area : List ℕ} where
  pub ran-ok : {held : Held} → Ran job lent cells states area (Ok held) → Told job states area held
  ran-ok {held} ran = elim (refusal-or-passed job) [
    | inl p ↦ absurd (ok-not-err (ran.refuses p.0 p.1).0)
    | inr z ↦
        let (end, o) = settles job z in
        let (kept, is, left, told) = ran.network z end o in
        let same : kept ≡ held = sym (ok-same is) in
        record { end = end; settled_in = o; passed_is = z; kept = rw same at left; network_is = rw same at told }
  ]

  pub ran-err : {e : Refusal} → Ran job lent cells states area (Err e) → run_answer job ≡ Err e
  ran-err {e} ran = elim (refusal-or-passed job) [
    | inl p ↦ p.1 ∙ ap Err (sym (err-same (ran.refuses p.0 p.1).0))
    | inr z ↦ let (end, o) = settles job z in absurd (ok-not-err (sym (ran.network z end o).1))
  ]

  -- Few types are kept.
  pub ran-few : {held : Held} → Ran job lent cells states area (Ok held) → held.state.types ≤ 128
  ran-few ran = types-few (ran-ok ran).kept

module _ {job states states' : Bytes} {lent cells : ℕ} {area area' : List ℕ} {r r' : Result Held Refusal}
    (a : Ran job lent cells states area r) (b : Ran job lent cells states' area' r') where
  -- After a refusal all is zero.
  refused-once : (e : Refusal) → run_answer job ≡ Err e → (states ≡ states') × (area ≡ area') × (r ≡ r')
  refused-once e told =
      let (p, s) = a.refuses e told in
      let (q, t) = b.refuses e told in
      (s.states_are ∙ sym t.states_are, s.area_is ∙ sym t.area_is, p ∙ sym q)

  -- Else memory holds one run and tells its links.
  settled-once : {held held' : Held} (end : Run) → NetworkHeld (width job) (weights job) end states area held →
      NetworkHeld (width job) (weights job) end states' area' held' → (states ≡ states') × (area ≡ area') × (held ≡ held')
  settled-once end k l =
      holds-one k.holds k.tells l.holds l.tells (kept-few k)
      (a.states_size ∙ sym b.states_size) (a.area_size ∙ sym b.area_size) (k.second ∙ sym l.second)

  pub ran-one : (states ≡ states') × (area ≡ area') × (r ≡ r')
  ran-one = elim (refusal-or-passed job) [
    | inl p ↦ refused-once p.0 p.1
    | inr z ↦
        let (end, o) = settles job z in
        let (held, is, kept, told) = a.network z end o in
        let (held', is', kept', told') = b.network z end o in
        let (s, c, same) = settled-once end kept kept' in
        (s, c, is ∙ ap Ok same ∙ sym is')
  ]
