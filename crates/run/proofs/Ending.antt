-- How a run ends: Phase I had no room, and memory is zero; or it settled, and Phase II leaves what the rules leave.
use mathlib.Core.Path.{◌≡◌, refl, ap, ◌∙◌}
use mathlib.Core.Bool.{Bool, true, false, false≢true}
use mathlib.Core.List.{List}
use Prim.Native.Nat.{ℕ, ◌+◌, ◌≤◌}
use native.Mathlib.Omega.{arith}
use lib.ListN.{length, replicate, length-replicate}
use Rattle.rules.specs.Job.{Bytes}
use Rattle.rules.specs.Purge.{Run, purge}
use Rattle.rules.specs.Run.{Outcome, settled, full}
use Rattle.rules.specs.declared.Refusal.TheVariants.{Room}
use Rattle.rules.proofs.Keeps.{made-count}
use Rattle.rules.proofs.Ends.{phase_same}
use Rattle.purge.specs.State.{second_phase}
use Rattle.purge.specs.Holds.{Holds, Purged}
use Rattle.purge.specs.declared.state.Held.{Held}
use Rattle.std.specs.Prelude.{Result, Ok, Err, IsOk, IsErr}
use Rattle.round.specs.declared.candidates.NoRoom.{NoRoom}
use Rattle.run.specs.Phases.{PhaseOneOver, NetworkHeld, PhasesOver}

-- An outcome is one of two: a round that had no room, by its number, or a run.
abbrev had_no_room : Outcome → Bool
had_no_room (settled run) = false
had_no_room (full round) = true

abbrev round_in : Outcome → ℕ
round_in (settled run) = 0
round_in (full round) = round

abbrev pub run_in : Run → Outcome → Run
run_in other (settled run) = run
run_in other (full round) = other

-- The state with which Phase II begins.
abbrev pub in_phase_two : Held → Held
in_phase_two held = record { state = second_phase held.state; kinds = held.kinds }

-- The phase is nothing that memory holds.
second_holds : {m : ℕ} {ws : List ℕ} {run : Run} {states : Bytes} {area : List ℕ} {held : Held} →
    Holds m ws run states area held → Holds m ws run states area (in_phase_two held)
second_holds h = record {
  narrow = h.narrow;
  wide = h.wide;
  types_are = h.types_are;
  made_are = h.made_are;
  rounds_are = h.rounds_are;
  kinds_are = h.kinds_are;
  states_are = h.states_are;
  distances_are = h.distances_are;
  rest_zero = h.rest_zero;
}

module _ {weights : List ℕ} {states states' states'' : Bytes} {area area' area'' : List ℕ} {held last : Held} {end : Result (Unit {0}) NoRoom}
    (over : PhaseOneOver weights states area held states' area' last end) where
  -- A round had no room: both areas are cleared.
  pub ended-full : IsErr end → states'' ≡ replicate (length states') 0 → area'' ≡ replicate (length area') 0 →
      PhasesOver weights states area held states'' area'' (Err (Room (last.state.rounds + 1)))
  ended-full crowd zeros zeros' = record {
    states_size = ap length zeros ∙ length-replicate (length states') 0 ∙ over.states_size;
    area_size = ap length zeros' ∙ length-replicate (length area') 0 ∙ over.area_size;
    settles = λ m ws run end c p. absurd (false≢true (ap had_no_room (phase_same p (over.crowds crowd m ws run c))));
    crowds = λ m ws run round c p. (
      ap (λ n. Err (Room n)) (ap round_in (phase_same (over.crowds crowd m ws run c) p)),
      record {
        states_are = zeros ∙ ap (λ n. replicate n 0) over.states_size;
        area_is = zeros' ∙ ap (λ n. replicate n 0) over.area_size;
      },
    );
  }

  -- Phase I settled: Phase II purges at epsilon 0.
  pub ended-kept : {kept : Held} → IsOk end → Purged states' area' (in_phase_two last) states'' area'' kept →
      PhasesOver weights states area held states'' area'' (Ok kept)
  ended-kept {kept} still p = record {
    states_size = p.states_size ∙ over.states_size;
    area_size = p.area_size ∙ over.area_size;
    settles = λ m ws run end c one. let s = over.settles still m ws run c in
        let same : s.end ≡ end = ap (run_in end) (phase_same s.phase_one_is one) in
        let holds = second_holds s.carries.holds in (
          kept,
          refl,
          record {
            holds = rw same at (p.holds m ws s.end holds);
            tells = rw same at (p.tells m ws s.end holds);
            few = omega (arith, p.made_stays, over.safe.few);
            second = p.phase_stays;
          },
        );
    crowds = λ m ws run round c one. let s = over.settles still m ws run c in
        absurd (false≢true (ap had_no_room (phase_same s.phase_one_is one)));
  }

-- What is kept are at most 128 types, as at most 128 were ever made.
module _ {m : ℕ} {ws : List ℕ} {end : Run} {states : Bytes} {area : List ℕ} {held : Held} (kept : NetworkHeld m ws end states area held) where
  pub kept-few : length (purge ws 0 end).current ≤ 128
  kept-few = omega (arith, kept.few, kept.holds.made_are, made-count (purge ws 0 end))

  pub types-few : held.state.types ≤ 128
  types-few = rw kept.holds.types_are kept-few
