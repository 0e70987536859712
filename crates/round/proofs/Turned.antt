-- What a round comes to: where no row is found everything stays as it was, and where rows are found memory holds the next run.
use mathlib.Core.Path.{◌≡◌, refl}
use mathlib.Core.Bool.{false≢true}
use mathlib.Core.List.{List}
use Prim.Native.Nat.{ℕ, ◌+◌, ◌≤◌, ◌<◌}
use native.Mathlib.Omega.{arith}
use lib.ListN.{length}
use Rattle.rules.specs.Job.{Bytes}
use Rattle.rules.specs.Types.{rows_of}
use Rattle.rules.specs.Purge.{Run}
use Rattle.rules.specs.Round.{made}
use Rattle.rules.specs.Run.{fresh}
use Rattle.links.specs.Marks.{TellsLinks}
use Rattle.purge.specs.State.{epsilon_of}
use Rattle.purge.specs.declared.state.Held.{Held}
use Rattle.std.specs.Prelude.{Option, Some, None, Result, Ok, Err, IsErr}
use Rattle.round.specs.declared.candidates.NoRoom.{NoRoom}
use Rattle.sweep.specs.Candidate.{Faithful}
use Rattle.round.specs.Fresh.{TooMany, Fitting}
use Rattle.round.proofs.Faithful.{faithful}
use Rattle.round.specs.declared.candidates.Added.{Added}
use Rattle.round.specs.Grown.{Grew}
use Rattle.round.specs.Rounded.{Carries, Grows, Rounded}
use Rattle.round.proofs.Grown.{grew_bounds, grown-holds}
use Rattle.round.proofs.Added.{fresh-wide, fresh-count, fresh-laid, no_offer, some_offer, crowded}

-- There is no room.
pub none-fits : {weights : List ℕ} {states : Bytes} {area : List ℕ} {held : Held} (r : Result (Option Held) NoRoom) → IsErr r → held.state.made ≤ 128 →
    (Faithful weights states area held.state.types → TooMany weights states area held.state.types held.state.made (epsilon_of held.state.phase)) →
    Rounded weights states area held states area r
none-fits (Ok next) err few found = absurd (false≢true err)
none-fits (Err none) err few found = record {
  states_size = refl;
  area_size = refl;
  comes_to = record {
    states_stay = refl;
    area_stays = refl;
    crowded = λ m ws run carries tells. crowded carries few tells (found (faithful carries few));
  };
}

module _ {weights : List ℕ} {states : Bytes} {area : List ℕ} {held : Held} {r : Added} (within : held.state.types ≤ held.state.made)
    (few : held.state.made ≤ 128) (rounds : held.state.rounds ≤ held.state.made)
    (found : Fitting weights states area held.state.types held.state.made (epsilon_of held.state.phase) r) where
  pub none-added : r.count ≡ 0 → Rounded weights states area held states area (Ok None)
  none-added none = record {
    states_size = refl;
    area_size = refl;
    comes_to = record { states_stay = refl; area_stays = refl; none = λ m ws run carries tells. no_offer carries few tells found none };
  }

  module _ (some : 0 < r.count) (fits : 8192 ≤ length states) {states' : Bytes} {area' : List ℕ} {next : Held}
      (grew : Grew weights states area held r.rows r.count states' area' next) where
    next-run : (m : ℕ) (ws : List ℕ) (run : Run) → Carries weights m ws run states area held →
        TellsLinks ws (epsilon_of held.state.phase) (rows_of run.current) area → Grows m ws (epsilon_of held.state.phase) run states' area' next
    next-run m ws run carries tells =
        let xs = fresh ws (epsilon_of held.state.phase) run in
        let all = fresh-count carries few tells found in
        let room : length (made run) + length xs ≤ 128 = omega (arith, found.room, carries.holds.made_are) in
        record {
          some = some_offer carries few tells found some;
          room = room;
          holds = grown-holds carries.holds carries.weights_are carries.as_wide fits xs (fresh-wide carries few tells) room (fresh-laid carries few tells found) all grew;
        }

    pub some-added : Rounded weights states area held states' area' (Ok (Some next))
    some-added =
        let b = grew_bounds grew within found.room found.size fits in
        let enough = found.room in
        record {
          states_size = b.states_size;
          area_size = b.area_size;
          comes_to = record {
            phase_stays = b.phase_stays;
            kinds_size = b.kinds_size;
            more = omega (arith, b.made_are);
            made_are = rw grew.state_is (omega arith);
            few = omega arith;
            within = omega arith;
            rounds_few = omega arith;
            grows = next-run;
          };
        }
