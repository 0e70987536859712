-- RULES 12: the run, from the sampled types to the network.
use Rattle.std.specs.Prelude.{◌≡◌, ◌≢◌, Bool, cond, not, List, [], ◌++◌, map, ℕ, zero, suc, ◌+◌, ◌≤◌, ◌<◌, ltb, eqb, length}
use Rattle.rules.specs.Sizes.{most_types}
use Rattle.rules.specs.Job.{Row}
use Rattle.rules.specs.Types.{Node, sampled}
use Rattle.rules.specs.Links.{join_all}
use Rattle.rules.specs.Purge.{Run, links_of, Purges, purge}
use Rattle.rules.specs.Round.{made, offers, added}
use Rattle.rules.specs.declared.Link.{Link}
use Rattle.rules.specs.declared.Origin.TheVariants.{Inferred}

-- RULES 12.1, 12.2: how Phase I ends: without a candidate, or for want of room in the round of this number.
pub data Outcome : Type 0 where
  settled : Run → Outcome
  full : ℕ → Outcome

-- RULES 12.1: what the run begins with.
abbrev pub start : List Row → Run
start rs = record { current = sampled rs; retired = []; rounds = 0 }

-- RULES 11.4: the rows that the next round adds.
abbrev pub fresh : List ℕ → ℕ → Run → List Row
fresh ws e run = added e (offers ws e run)

-- RULES 11.5, 12.4: the run after a round that adds xs.
unfoldable pub grown : List Row → Run → Run
grown xs run =
    let round = run.rounds + 1 in
    record {
      current = run.current ++ map (λ x. record { row = x; origin = Inferred round }) xs;
      retired = run.retired;
      rounds = round;
    }

-- RULES 12.1, 12.2: Phase I, round by round. Each turn purges; then there is no candidate, or no room, or a round and the next turn. This
-- is what to believe.
pub data PhaseOne (ws : List ℕ) (e : ℕ) : Run → Outcome → Type 0 where
  no_candidate : {run purged : Run} → Purges ws e run purged → offers ws e purged ≡ [] → PhaseOne ws e run (settled purged)
  no_room : {run purged : Run} → Purges ws e run purged → offers ws e purged ≢ [] →
      most_types < length (made purged) + length (fresh ws e purged) → PhaseOne ws e run (full (purged.rounds + 1))
  round : {run purged : Run} {end : Outcome} → Purges ws e run purged → offers ws e purged ≢ [] →
      length (made purged) + length (fresh ws e purged) ≤ most_types → PhaseOne ws e (grown (fresh ws e purged) purged) end → PhaseOne ws e run end

-- RULES 12.1, 12.2, computed: so many turns at most. A round makes a type, and no more than 128 are ever made, so 129 turns are enough.
-- proofs/Ends.antt shows that phaseOne does what PhaseOne says.
unfoldable pub phase_one_in : ℕ → List ℕ → ℕ → Run → Outcome
phase_one_in zero ws e run = settled run
phase_one_in (suc rounds) ws e run =
    let purged = purge ws e run in
    let candidates = offers ws e purged in
    let xs = added e candidates in
    let next = phase_one_in rounds ws e (grown xs purged) in
    let round = cond (ltb most_types (length (made purged) + length xs)) (full (purged.rounds + 1)) next in
    cond (eqb (length candidates) 0) (settled purged) round

unfoldable pub phase_one : List ℕ → ℕ → Run → Outcome
phase_one ws e run = phase_one_in (suc most_types) ws e run

-- RULES 12.3, 12.4: a network: the types that are left, their links, the count of rounds.
pub record Network : Type 0 where
  pub types : List Node
  pub links : List Link
  pub rounds : ℕ

-- RULES 12.3: Phase II.
unfoldable pub phase_two : List ℕ → Run → Network
phase_two ws run =
    let purged = purge ws 0 run in
    record { types = purged.current; links = links_of ws 0 purged; rounds = purged.rounds }

-- RULES 4.3 (SPLIT): some kept type is not joined with the others.
abbrev pub split : Network → Bool
split net = not (join_all (length net.types) net.links)
