-- The contract of `begin` leaves no choice: two beginnings of a job that meet it end alike, and leave the same in all that was lent.
use Rattle.std.specs.Prelude.{Result, Ok}
use mathlib.Core.Path.{◌≡◌, refl, sym, ap, ◌∙◌}
use mathlib.Core.Bool.{Bool, true, false}
use mathlib.Core.List.{List}
use Prim.Native.Nat.{ℕ, ◌≤◌}
use native.Mathlib.Omega.{arith}
use Rattle.rules.specs.Job.{Bytes, job_rows}
use Rattle.rules.specs.Types.{has_too_many}
use Rattle.rules.specs.Round.{made}
use Rattle.rules.specs.Run.{start}
use Rattle.rules.specs.Call.{padded}
use Rattle.types.specs.State.{laid}
use Rattle.distances.proofs.Area.{new-narrow, new_dec, written_once}
use Rattle.purge.proofs.Once.{current-few}
use Rattle.run.specs.Begun.{Begun, First}
use Rattle.rules.specs.declared.Refusal.{Refusal}
use Rattle.purge.specs.declared.state.Held.{Held}

module _ {job states states' : Bytes} {lent cells : ℕ} {area area' : List ℕ} {r r' : Result Held Refusal}
    (a : Begun job lent cells states area r) (b : Begun job lent cells states' area' r') where
  -- After TYPES all is zero.
  refused-once : has_too_many (job_rows job) ≡ true → (states ≡ states') × (area ≡ area') × (r ≡ r')
  refused-once many =
      let (p, s) = a.refuses many in
      let (q, t) = b.refuses many in
      (s.states_are ∙ sym t.states_are, s.area_is ∙ sym t.area_is, p ∙ sym q)

  -- Else memory holds one run, and beside its distances the area is zero.
  first-once : {held held' : Held} → First job cells states area held → First job cells states' area' held' → (states ≡ states') × (area ≡ area') × (held ≡ held')
  first-once {held} f g =
      let h = f.holds in
      let k = g.holds in
      let rows = h.states_are ∙ ap (λ n. padded n (laid (made (start (job_rows job))))) (a.states_size ∙ sym b.states_size) ∙ sym k.states_are in
      let types = h.types_are ∙ sym k.types_are in
      let all = h.made_are ∙ sym k.made_are in
      let rounds = h.rounds_are ∙ sym k.rounds_are in
      let phase = f.phase_is ∙ sym g.phase_is in
      let kinds = h.kinds_are ∙ sym k.kinds_are in
      let few : held.state.types ≤ 128 = omega (arith, f.few, current-few h) in (
        rows,
        written_once (new-narrow 0 _ few) (new_dec 0 _) f.measured (rw (← types, ← rows) at g.measured),
        λ i. record { state = record { types = types i; made = all i; rounds = rounds i; phase = phase i }; kinds = kinds i },
      )

  pub begun-once : (states ≡ states') × (area ≡ area') × (r ≡ r')
  begun-once = go (has_too_many (job_rows job)) refl
    where
      go : (t : Bool) → has_too_many (job_rows job) ≡ t → (states ≡ states') × (area ≡ area') × (r ≡ r')
      go true many = refused-once many
      go false few =
          let (held, is, first) = a.begins few in
          let (held', is', first') = b.begins few in
          let (s, c, same) = first-once first first' in
          (s, c, is ∙ ap Ok same ∙ sym is')
