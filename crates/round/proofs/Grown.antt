-- A round that adds types: memory that held a run holds the grown run, and whatever memory held, its sizes and counts are known.
use mathlib.Core.Path.{◌≡◌, refl, sym, ap, ap₂, ◌∙◌}
use mathlib.Core.Logic.{◌≢◌}
use mathlib.Core.List.{List, [], ◌∷◌, ◌++◌, map, map-append, append_assoc}
use Prim.Native.Nat.{ℕ, ◌+◌, ◌*◌, ◌≤◌, ◌<◌}
use native.Mathlib.Omega.{arith}
use lib.ListN.{length, get_or, length-append, length-map, length-replicate, get_or-append}
use Rattle.graph.proofs.Below.{In, each-place}
use Rattle.rules.specs.Job.{Bytes, Row}
use Rattle.rules.specs.Distance.{distance, apart}
use Rattle.rules.specs.Types.{rows_of}
use Rattle.rules.specs.Purge.{Run}
use Rattle.rules.specs.Round.{made}
use Rattle.rules.specs.Run.{grown}
use Rattle.rules.specs.Call.{padded}
use Rattle.rules.proofs.Keeps.{made-count, made-grown}
use Rattle.memory.proofs.Placed.{length-placed}
use Rattle.types.specs.State.{stored, laid, kinds_of}
use Rattle.types.proofs.State.{OfWidth, length-laid}
use Rattle.distances.specs.Area.{cell_at, Measures}
use Rattle.distances.proofs.Measured.{measures_new}
use Rattle.purge.specs.Holds.{Holds}
use Rattle.purge.specs.declared.state.Held.{Held}
use Rattle.round.specs.Grown.{kinds_with, Grew}
use Rattle.round.proofs.Origins.{new_node, length_with, kinds-grown}
use Rattle.round.proofs.Lying.{wide-front, wide_rear, wide_both, lies-current}
use Rattle.round.proofs.Behind.{between-size, rows-between}

-- What is known of memory when a round has added so many types.
pub record Larger (states : Bytes) (area : List ℕ) (held : Held) (count : ℕ) (states' : Bytes) (area' : List ℕ) (held' : Held) : Type 0 where
  pub states_size : length states' ≡ length states
  pub area_size : length area' ≡ length area
  pub phase_stays : held'.state.phase ≡ held.state.phase
  pub kinds_size : length held'.kinds ≡ 128
  pub types_are : held'.state.types ≡ held.state.types + count
  pub made_are : held'.state.made ≡ held.state.made + count
  pub few : held'.state.made ≤ 128
  pub within : held'.state.types ≤ held'.state.made
  pub rounds_are : held'.state.rounds ≡ held.state.rounds + 1

-- So it is whatever memory held.
pub grew_bounds : {ws : List ℕ} {states : Bytes} {area : List ℕ} {held : Held} {rows : Bytes} {count : ℕ}
    {states' : Bytes} {area' : List ℕ} {held' : Held} →
    Grew ws states area held rows count states' area' held' → held.state.types ≤ held.state.made → held.state.made + count ≤ 128 →
    length rows ≡ 8192 → 8192 ≤ length states → Larger states area held count states' area' held'
grew_bounds {states} {held} {rows} {count} grew within few size room =
    let t = held.state.types in
    let all = held.state.made in
    let s = grew.state_is in
    let n = between-size states t all within (omega arith) rows count (omega arith) in
    record {
      states_size = ap length grew.rows_are ∙ length-placed states _ (64 * t) (omega arith);
      area_size = grew.distances_are.size;
      phase_stays = rw s;
      kinds_size = ap length grew.kinds_are ∙ length_with held.kinds t count (held.state.rounds + 1);
      types_are = rw s;
      made_are = rw s;
      few = rw s few;
      within = rw s (omega arith);
      rounds_are = rw s;
    }

-- The rows of a grown run.
new-rows : (round : ℕ) (xs : List Row) → rows_of (map (new_node round) xs) ≡ xs
new-rows round [] = refl
new-rows round (x ∷ xs) = ap (λ (r : List Row). x ∷ r) (new-rows round xs)

module _ (xs : List Row) (run : Run) where
  rows_grown : rows_of (grown xs run).current ≡ rows_of run.current ++ xs
  unfolding grown
  rows_grown =
      map-append (λ t. t.row) run.current (map (new_node (run.rounds + 1)) xs)
      ∙ ap (λ (r : List Row). rows_of run.current ++ r) (new-rows (run.rounds + 1) xs)

  made-is : made (grown xs run) ≡ rows_of run.current ++ (xs ++ run.retired)
  unfolding grown
  made-is = ap (λ (r : List Row). r ++ run.retired) rows_grown ∙ append_assoc (rows_of run.current) xs run.retired

  current-count : length (grown xs run).current ≡ length run.current + length xs
  unfolding grown
  current-count = simp (length-append, length-map)

  rounds-grown : (grown xs run).rounds ≡ run.rounds + 1
  unfolding grown
  rounds-grown = refl

  kinds_are : kinds_with (kinds_of run.current) (length run.current) (length xs) (run.rounds + 1) ≡ kinds_of (grown xs run).current
  unfolding grown
  kinds_are = kinds-grown run.current xs (run.rounds + 1)

module _ {m : ℕ} {ws : List ℕ} {run : Run} {states : Bytes} {area : List ℕ} {held : Held} (holds : Holds m ws run states area held)
    {weights : List ℕ} (weights_are : weights ≡ padded 64 ws) (as_wide : length ws ≡ m) (room : 8192 ≤ length states)
    (xs : List Row) (each-wide : (x : Row) → In x xs → length x ≡ m) (few : length (made run) + length xs ≤ 128)
    {rows : Bytes} (rows_are : rows ≡ padded 8192 (laid (map stored xs))) {count : ℕ} (count_is : count ≡ length xs)
    {states' : Bytes} {area' : List ℕ} {held' : Held} (grew : Grew weights states area held rows count states' area' held') where
  abbrev next : Run
  next = grown xs run

  abbrev cs : List Row
  cs = rows_of run.current

  current-wide : OfWidth m cs
  current-wide = wide-front m cs run.retired holds.wide

  retired-wide : OfWidth m run.retired
  retired-wide = wide_rear m cs run.retired holds.wide

  new-wide : OfWidth m xs
  new-wide = (each-place (λ x. length x ≡ m) xs []).1 each-wide

  made_wide : OfWidth m (made next)
  made_wide =
      rw (made-is xs run) (wide_both m cs (xs ++ run.retired) current-wide (wide_both m xs run.retired new-wide retired-wide))

  states_are : states' ≡ padded (length states) (laid (made next))
  states_are =
      grew.rows_are ∙ rw (made-is xs run) (rows-between m cs xs run.retired holds.narrow current-wide new-wide
      retired-wide (length states) count held.state.types held.state.made
      (omega (arith, holds.made_are)) (length-map run.current _ ∙ sym holds.types_are) (sym count_is)
      (omega (arith, holds.types_are, holds.made_are, made-count run)) states rows holds.states_are rows_are)

  same_size : length states' ≡ length states
  same_size =
      let n = length-laid m (made next) holds.narrow made_wide in
      rw states_are (simp (length-append, length-replicate) (omega (arith, n, made-grown xs run)))

  -- The types that were have the distances that they had.
  known : (i j : ℕ) → i < j → j < held.state.types → cell_at area i j ≡ apart ws (rows_of next.current) i j
  known i j h l =
      let n = length-map run.current (λ t. t.row) in
      let k : j < length cs = omega (arith, holds.types_are) in
      holds.distances_are i j h k
      ∙ rw (rows_grown xs run) (ap₂ (distance ws) (sym (get_or-append cs xs [] i (omega arith))) (sym (get_or-append cs xs [] j k)))

  count_now : length (rows_of next.current) ≡ held.state.types + count
  count_now = length-map next.current (λ t. t.row) ∙ current-count xs run ∙ omega (arith, holds.types_are)

  distances_are : Measures ws (rows_of next.current) area'
  distances_are =
      measures_new m (rows_of next.current) holds.narrow (wide-front m (rows_of next.current) next.retired made_wide) ws as_wide states'
      (lies-current m next holds.narrow made_wide states' (length states) states_are)
      held.state.types area area' (omega (arith, count_now, holds.types_are, made-count run)) known
      (rw (weights_are, ← count_now) at grew.distances_are)

  -- Only cells of current types are written.
  rest_zero : (p : ℕ) → ((i j : ℕ) → i < length next.current → j < length next.current → i ≢ j → p ≢ 128 * i + j) → get_or area' p 0 ≡ 0
  rest_zero p other =
      let n = current-count xs run in
      grew.distances_are.kept p (λ i j t. other i j (omega (arith, t.rising, t.last, holds.types_are)) (omega (arith, t.last, holds.types_are))
      (omega (arith, t.rising)))
      ∙ holds.rest_zero p (λ i j h l. other i j (omega arith) (omega arith))

  -- Memory holds the grown run.
  pub grown-holds : Holds m ws (grown xs run) states' area' held'
  grown-holds = record {
    narrow = holds.narrow;
    wide = made_wide;
    types_are = rw grew.state_is (omega (arith, current-count xs run, holds.types_are));
    made_are = rw grew.state_is (omega (arith, made-grown xs run, holds.made_are));
    rounds_are = rw grew.state_is (omega (arith, rounds-grown xs run, holds.rounds_are));
    kinds_are = grew.kinds_are ∙ rw (holds.kinds_are, holds.types_are, holds.rounds_are, count_is) (kinds_are xs run);
    states_are = rw same_size states_are;
    distances_are = distances_are;
    rest_zero = rest_zero;
  }
