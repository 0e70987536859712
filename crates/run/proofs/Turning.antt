-- Phase I, turn after turn: what a purge and a round come to, and how far the run has come.
use mathlib.Core.Path.{◌≡◌, refl, ap, ◌∙◌}
use mathlib.Core.Bool.{false≢true}
use mathlib.Core.List.{List}
use Prim.Native.Nat.{ℕ}
use native.Mathlib.Omega.{arith}
use lib.ListN.{length}
use Rattle.rules.specs.Job.{Bytes}
use Rattle.rules.specs.Types.{rows_of}
use Rattle.rules.specs.Purge.{Run, purge}
use Rattle.rules.specs.Run.{Outcome, PhaseOne, no_candidate, no_room, round}
use Rattle.rules.proofs.Ends.{purges}
use Rattle.links.specs.Marks.{TellsLinks}
use Rattle.purge.specs.State.{epsilon_of}
use Rattle.purge.specs.Holds.{Purged}
use Rattle.purge.specs.declared.state.Held.{Held}
use Rattle.round.specs.Rounded.{Carries, Rounded}
use Rattle.std.specs.Prelude.{Some, None, Result, Ok, Err, IsErr}
use Rattle.round.specs.declared.candidates.NoRoom.{NoRoom}
use Rattle.run.specs.Phases.{Safe, PhaseOneOver}

abbrev pub epsilon_in : Held → ℕ
epsilon_in held = epsilon_of held.state.phase

-- A purge and a round are a turn.
module _ {weights : List ℕ} {states states₁ : Bytes} {area area₁ : List ℕ} {held purged : Held}
    (safe : Safe weights states area held) (p : Purged states area held states₁ area₁ purged) where
  same-epsilon : epsilon_in purged ≡ epsilon_in held
  same-epsilon = ap epsilon_of p.phase_stays

  carried : (m : ℕ) (ws : List ℕ) (run : Run) → Carries weights m ws run states area held →
      Carries weights m ws (purge ws (epsilon_in held) run) states₁ area₁ purged
  carried m ws run c = record {
    weights_are = c.weights_are;
    as_wide = c.as_wide;
    each_weighs = c.each_weighs;
    holds = p.holds m ws run c.holds;
  }

  told : (m : ℕ) (ws : List ℕ) (run : Run) → Carries weights m ws run states area held →
      TellsLinks ws (epsilon_in purged) (rows_of (purge ws (epsilon_in held) run).current) area₁
  told m ws run c = rw same-epsilon (p.tells m ws run c.holds)

  pub safe-purged : Safe weights states₁ area₁ purged
  safe-purged = record {
    weighed = safe.weighed;
    within = omega (arith, safe.within, p.no_more, p.made_stays);
    few = omega (arith, safe.few, p.made_stays);
    rounds_few = omega (arith, safe.rounds_few, p.made_stays, p.rounds_stay);
    kinds_size = p.kinds_size safe.kinds_size;
    epsilon_fits = rw same-epsilon safe.epsilon_fits;
    states_fit = omega (arith, safe.states_fit, p.states_size);
    cells_fit = omega (arith, safe.cells_fit, p.area_size);
  }

-- Some turns of Phase I have brought `run` to a run that memory carries: what Phase I makes of that one, it makes of `run`.
pub record Reached (weights : List ℕ) (m : ℕ) (ws : List ℕ) (e : ℕ) (run : Run) (states : Bytes) (area : List ℕ) (held : Held) : Type 0 where
  pub next : Run
  pub carries : Carries weights m ws next states area held
  pub rest : {end : Outcome} → PhaseOne ws e next end → PhaseOne ws e run end

-- Turn after turn, for memory as it was when Phase I began.
pub record Going (weights : List ℕ) (states₀ : Bytes) (area₀ : List ℕ) (held₀ : Held) (states : Bytes) (area : List ℕ) (held : Held) : Type 0 where
  pub states_size : length states ≡ length states₀
  pub area_size : length area ≡ length area₀
  pub safe : Safe weights states area held
  pub phase_stays : held.state.phase ≡ held₀.state.phase
  pub reaches : (m : ℕ) (ws : List ℕ) (run : Run) → Carries weights m ws run states₀ area₀ held₀ →
      Reached weights m ws (epsilon_in held₀) run states area held

-- Before the first turn.
pub going_first : {weights : List ℕ} {states : Bytes} {area : List ℕ} {held : Held} → Safe weights states area held →
    Going weights states area held states area held
going_first safe = record {
  states_size = refl;
  area_size = refl;
  safe = safe;
  phase_stays = refl;
  reaches = λ m ws run c. record { next = run; carries = c; rest = λ p. p };
}

-- A turn: a purge and a round.
module _ {weights : List ℕ} {states₀ states states₁ : Bytes} {area₀ area area₁ : List ℕ} {held₀ held purged : Held}
    (g : Going weights states₀ area₀ held₀ states area held) (p : Purged states area held states₁ area₁ purged) where
  before : epsilon_in held ≡ epsilon_in held₀
  before = ap epsilon_of g.phase_stays

  same : epsilon_in purged ≡ epsilon_in held₀
  same = same-epsilon g.safe p ∙ before

  -- It added types.
  pub going_next : {states' : Bytes} {area' : List ℕ} {next : Held} → Rounded weights states₁ area₁ purged states' area' (Ok (Some next)) →
      Going weights states₀ area₀ held₀ states' area' next
  going_next r =
      let a = r.comes_to in
      let safe = safe-purged g.safe p in
      record {
        states_size = r.states_size ∙ p.states_size ∙ g.states_size;
        area_size = r.area_size ∙ p.area_size ∙ g.area_size;
        safe = record {
          weighed = safe.weighed;
          within = a.within;
          few = a.few;
          rounds_few = a.rounds_few;
          kinds_size = a.kinds_size;
          epsilon_fits = rw (ap epsilon_of a.phase_stays) safe.epsilon_fits;
          states_fit = omega (arith, safe.states_fit, r.states_size);
          cells_fit = omega (arith, safe.cells_fit, r.area_size);
        };
        phase_stays = a.phase_stays ∙ p.phase_stays ∙ g.phase_stays;
        reaches = λ m ws run c. let b = g.reaches m ws run c in
            let grows = rw (same, before) at (a.grows m ws _ (carried g.safe p m ws b.next b.carries) (told g.safe p m ws b.next b.carries)) in
            record {
              next = _;
              carries = record {
                weights_are = b.carries.weights_are;
                as_wide = b.carries.as_wide;
                each_weighs = b.carries.each_weighs;
                holds = grows.holds;
              };
              rest = λ q. b.rest (round (purges ws (epsilon_in held₀) b.next) grows.some grows.room q);
            };
      }

  -- There was no candidate.
  pub going_over : {states' : Bytes} {area' : List ℕ} → Rounded weights states₁ area₁ purged states' area' (Ok None) →
      PhaseOneOver weights states₀ area₀ held₀ states' area' purged (Ok tt)
  going_over r =
      let a = r.comes_to in
      record {
        states_size = r.states_size ∙ p.states_size ∙ g.states_size;
        area_size = r.area_size ∙ p.area_size ∙ g.area_size;
        safe = rw (a.states_stay, a.area_stays) (safe-purged g.safe p);
        settles = λ _ m ws run c. let b = g.reaches m ws run c in
            let none = rw (same, before) at (a.none m ws _ (carried g.safe p m ws b.next b.carries) (told g.safe p m ws b.next b.carries)) in
            record {
              end = _;
              phase_one_is = b.rest (no_candidate (purges ws (epsilon_in held₀) b.next) none);
              carries = rw (a.states_stay, a.area_stays, ← before) (carried g.safe p m ws b.next b.carries);
            };
        crowds = λ err. absurd (false≢true err);
      }

  -- There was no room for the candidates.
  pub going_crowded : {states' : Bytes} {area' : List ℕ} {none : NoRoom} (end : Result (Unit {0}) NoRoom) → IsErr end → Rounded weights states₁ area₁ purged states' area' (Err none) →
      PhaseOneOver weights states₀ area₀ held₀ states' area' purged end
  going_crowded (Ok done) err r = absurd (false≢true err)
  going_crowded (Err none) err r =
      let a = r.comes_to in
      record {
        states_size = r.states_size ∙ p.states_size ∙ g.states_size;
        area_size = r.area_size ∙ p.area_size ∙ g.area_size;
        safe = rw (a.states_stay, a.area_stays) (safe-purged g.safe p);
        settles = λ ok. absurd (false≢true ok);
        crowds = λ _ m ws run c. let b = g.reaches m ws run c in
            let kept = carried g.safe p m ws b.next b.carries in
            let crowded = rw (same, before) at (a.crowded m ws _ kept (told g.safe p m ws b.next b.carries)) in
            let rounds = rw before at kept.holds.rounds_are in
            rw rounds (b.rest (no_room (purges ws (epsilon_in held₀) b.next) crowded.some crowded.no_room));
      }
