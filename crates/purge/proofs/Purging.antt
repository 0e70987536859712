-- Purging, time after time: what memory holds whenever links were found, and what one time more makes of it.
use mathlib.Core.Path.{◌≡◌, sym, ap, ◌∙◌}
use mathlib.Core.List.{List}
use Prim.Native.Nat.{ℕ, ◌*◌, ◌≤◌, ◌<◌}
use native.Mathlib.Omega.{arith}
use lib.ListN.{length}
use Rattle.rules.specs.Job.{Bytes}
use Rattle.rules.specs.Types.{rows_of}
use Rattle.rules.specs.Purge.{Run, links_of, purge_once, purge}
use Rattle.rules.proofs.Ends.{purge-again, purge-none}
use Rattle.memory.proofs.Placed.{length-placed}
use Rattle.purge.specs.Left.{Chosen, parted}
use Rattle.purge.proofs.retire.Parted.{parted-size}
use Rattle.links.specs.Marks.{TellsLinks}
use Rattle.purge.specs.State.{epsilon_of}
use Rattle.purge.specs.Stay.{staying, Stays}
use Rattle.purge.specs.Once.{Once, Surveyed}
use Rattle.purge.specs.Holds.{Holds, Purged}
use Rattle.purge.specs.declared.state.Held.{Held}
use Rattle.purge.specs.declared.stay.Stay.{Stay}
use Rattle.purge.proofs.stay.Places.{stays-chosen}
use Rattle.purge.proofs.stay.Staying.{stay_in}
use Rattle.purge.proofs.Told.{survey_holds, survey_tells, fewer-stay, all_stay}
use Rattle.purge.proofs.Once.{once-holds}

abbrev epsilon_in : Held → ℕ
epsilon_in held = epsilon_of held.state.phase

-- Memory holds a run that some times of purging made of `run`, and tells its links.
pub record Since (m : ℕ) (ws : List ℕ) (e : ℕ) (run : Run) (states : Bytes) (area : List ℕ) (now : Held) : Type 0 where
  pub after : Run
  pub holds : Holds m ws after states area now
  pub tells : TellsLinks ws e (rows_of after.current) area
  pub same : purge ws e after ≡ purge ws e run

-- Since the links were found for the first time. Sizes and phase are as they were, whatever memory holds.
pub record Purging (states₀ : Bytes) (area₀ : List ℕ) (held : Held) (states : Bytes) (area : List ℕ) (now : Held) (stay : Stay) : Type 0 where
  pub states_size : length states ≡ length states₀
  pub area_size : length area ≡ length area₀
  pub phase_stays : now.state.phase ≡ held.state.phase
  pub made_stays : now.state.made ≡ held.state.made
  pub rounds_stay : now.state.rounds ≡ held.state.rounds
  pub kinds_size : length held.kinds ≡ 128 → length now.kinds ≡ 128
  pub no_more : now.state.types ≤ held.state.types
  pub within : now.state.types ≤ now.state.made
  pub full : now.state.made ≤ 128
  pub stays : Stays (staying area now.kinds now.state.types) stay
  pub since : (m : ℕ) (ws : List ℕ) (run : Run) → Holds m ws run states₀ area₀ held →
      TellsLinks ws (epsilon_in held) (rows_of run.current) area₀ → Since m ws (epsilon_in held) run states area now

module _ {states₀ states : Bytes} {area₀ area : List ℕ} {held now : Held} {stay : Stay}
    (p : Purging states₀ area₀ held states area now stay) where
  pub purging_chosen : Chosen stay.kept stay.count now.state.types
  unfolding staying
  purging_chosen = stays-chosen now.state.types (stay_in area now.kinds now.state.types) p.stays

  -- One time more: fewer types are left, and the phase is the same.
  module _ {states' : Bytes} {area' : List ℕ} {next : Held}
      (fewer : stay.count < now.state.types) (once : Once states area now stay states' area' next) where
    pub fewer-types : next.state.types < now.state.types
    fewer-types = rw once.state_is fewer

    pub same_phase : next.state.phase ≡ held.state.phase
    same_phase = rw once.state_is p.phase_stays

    pub one_time_more : {area'' : List ℕ} {stay' : Stay} → 8192 ≤ length states₀ → Surveyed area' next area'' stay' →
        Purging states₀ area₀ held states' area'' next stay'
    one_time_more room s = record {
      states_size = ap length once.rows_are ∙ length-placed states _ 0 (omega (arith, parted-all)) ∙ p.states_size;
      area_size = s.found.size ∙ once.distances_are.size ∙ p.area_size;
      phase_stays = same_phase;
      made_stays = rw once.state_is p.made_stays;
      rounds_stay = rw once.state_is p.rounds_stay;
      kinds_size = λ h. once.kinds_are.size;
      no_more = omega (arith, fewer-types, p.no_more);
      within = rw once.state_is (omega (arith, p.within));
      full = rw once.state_is p.full;
      stays = s.stays;
      since = λ m ws run h t. let b = p.since m ws run h t in
          let few : now.state.types ≤ 128 = omega (arith, p.within, p.full) in
          let few' : next.state.types ≤ 128 = omega (arith, fewer-types) in
          let held-once = once-holds b.holds p.full roomy b.tells p.stays once in
          record {
            after = purge_once (links_of ws (epsilon_in held) b.after) b.after;
            holds = survey_holds held-once few' s.found;
            tells = rw same_phase at (survey_tells held-once few' s.found);
            same = purge-again ws (epsilon_in held) b.after (fewer-stay b.holds few b.tells p.stays fewer) ∙ b.same;
          };
    }
      where
        roomy : 8192 ≤ length states
        roomy = rw p.states_size room

        parted-all : 64 * now.state.made ≡ length (parted stay.kept stay.count now.state.types now.state.made states)
        parted-all =
            let fits : 64 * now.state.made ≤ length states = omega (arith, roomy, p.full) in
            sym (parted-size stay.kept stay.count states now.state.types now.state.made p.within fits)

  -- None is obsolete: the run is purged, for what memory held before the links were found for the first time.
  pub all-purged : {before : List ℕ} {stay₀ : Stay} → Surveyed before held area₀ stay₀ → held.state.types ≤ 128 →
      now.state.types ≤ stay.count → Purged states₀ before held states area now
  all-purged {before} s few l = record {
    states_size = p.states_size;
    area_size = p.area_size ∙ s.found.size;
    phase_stays = p.phase_stays;
    made_stays = p.made_stays;
    rounds_stay = p.rounds_stay;
    kinds_size = p.kinds_size;
    no_more = p.no_more;
    holds = λ m ws run h. let b = at m ws run h in rw (← ends m ws run h) b.holds;
    tells = λ m ws run h. let b = at m ws run h in rw (← ends m ws run h) b.tells;
  }
    where
      at : (m : ℕ) (ws : List ℕ) (run : Run) → Holds m ws run states₀ before held → Since m ws (epsilon_in held) run states area now
      at m ws run h = p.since m ws run (survey_holds h few s.found) (survey_tells h few s.found)

      ends : (m : ℕ) (ws : List ℕ) (run : Run) (h : Holds m ws run states₀ before held) → (at m ws run h).after ≡ purge ws (epsilon_in held) run
      ends m ws run h =
          let b = at m ws run h in
          let kept = all_stay b.holds (omega (arith, p.within, p.full)) b.tells p.stays l in
          sym (purge-none ws (epsilon_in held) b.after kept) ∙ b.same
