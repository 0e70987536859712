-- The rows of a run that memory carries, as they are stored. The distance area tells the truth of them, and a character that weighs
-- nothing is the same in all of them: it lies past the width.
use mathlib.Core.Path.{◌≡◌, sym, ◌∙◌}
use mathlib.Core.Logic.{inl, inr}
use mathlib.Core.List.{List}
use Prim.Native.Nat.{ℕ, ◌+◌, ◌-◌, ◌≤◌, ◌<◌}
use native.Mathlib.Decide.{dec_lt}
use native.Mathlib.Omega.{arith}
use lib.ListN.{length, get_or, replicate, get_or-replicate}
use lib.Seq.{get_or-append-add}
use Rattle.rules.specs.Job.{Bytes, Row}
use Rattle.rules.specs.Types.{row_at, rows_of}
use Rattle.rules.specs.Purge.{Run}
use Rattle.rules.specs.Round.{made}
use Rattle.types.specs.State.{stored, stored_at}
use Rattle.types.proofs.State.{OfWidth, stored-state}
use Rattle.distances.proofs.Measured.{measured}
use Rattle.purge.specs.declared.state.Held.{Held}
use Rattle.purge.proofs.Told.{rows-count}
use Rattle.purge.proofs.Once.{current-few}
use Rattle.sweep.specs.Candidate.{Faithful}
use Rattle.round.specs.Rounded.{Carries}
use Rattle.round.proofs.Lying.{wide-front, lies_made, lies-current}

-- Past a row there are zeros.
past_row : (r : Row) (c : ℕ) → length r ≤ c → c < 64 → get_or (stored r) c 0 ≡ 0
past_row r c h l =
    let at : length r + (c - length r) ≡ c = omega arith in
    rw at at (get_or-append-add r (replicate (64 - length r) 0) (c - length r) 0) ∙ get_or-replicate (64 - length r) (c - length r) 0 0 (omega arith)

module _ {weights : List ℕ} {m : ℕ} {ws : List ℕ} {run : Run} {states : Bytes} {area : List ℕ} {held : Held}
    (carries : Carries weights m ws run states area held) (few : held.state.made ≤ 128) where
  -- There are as many current rows as types.
  pub current-count : length (rows_of run.current) ≡ held.state.types
  current-count = rows-count carries.holds (omega (arith, current-few carries.holds))

  -- The rows stored are the rows made, the current ones in front.
  pub stored_row : (i : ℕ) → i < length (made run) → stored_at states i ≡ stored (row_at (made run) i)
  stored_row = lies_made m run carries.holds.narrow carries.holds.wide states (length states) carries.holds.states_are

  pub stored-current : (i : ℕ) → i < held.state.types → stored_at states i ≡ stored (row_at (rows_of run.current) i)
  stored-current i h =
      lies-current m run carries.holds.narrow carries.holds.wide states (length states) carries.holds.states_are i (rw current-count h)

  pub current-wide : OfWidth m (rows_of run.current)
  current-wide = wide-front m (rows_of run.current) run.retired carries.holds.wide

  pub faithful : Faithful weights states area held.state.types
  faithful = record {
    measured = λ i j h l.
        let r : j < length (rows_of run.current) = rw current-count l in
        let apart = measured m (rows_of run.current) carries.holds.narrow current-wide ws carries.as_wide states
        (λ k g. stored-current k (rw current-count at g)) i j (omega arith) r in
        rw carries.weights_are (carries.holds.distances_are i j h r ∙ sym apart);
    telling = λ c h. elim (dec_lt c m) [
      | yes l ↦ inl (rw carries.weights_are (let w = carries.as_wide in
          let e = stored-state ws c (omega arith) in λ z. omega (arith, carries.each_weighs c l)))
      | no f ↦ inr (λ i j hi hj.
          let zero : (k : ℕ) → k < held.state.types → get_or (stored_at states k) c 0 ≡ 0 = λ k g.
          let w = current-wide k (rw current-count g) in rw (stored-current k g) (past_row (row_at (rows_of run.current) k) c (omega arith) h) in
          zero i hi ∙ sym (zero j hj))
    ];
  }
