-- From the two sweeps to the rows that a round adds: the first one finds lambda, the least cost of any candidate, and the second one
-- gathers the candidates of a cost of at most lambda and epsilon, or finds more of them than there is room for.
use mathlib.Core.Path.{◌≡◌, refl, sym, ap, ◌∙◌}
use mathlib.Core.Logic.{◌≢◌, ⊎_elim}
use mathlib.Core.Bool.{Bool, true, false, cond}
use mathlib.Core.List.{List, []}
use Prim.Native.Nat.{ℕ, ◌+◌, ◌*◌, ◌≤◌, ◌<◌}
use native.Mathlib.Decide.{dec_lt}
use native.Mathlib.Omega.{arith}
use lib.Dec.{ltb}
use lib.ListN.{length, get_or, drop, replicate, length-drop, length-replicate}
use lib.Seq.{get_or-drop, ext_get_or}
use borrow.Author.Tests.{lt-ltb, le-ltb}
use Rattle.graph.specs.Below.{gather}
use Rattle.rules.specs.Job.{Bytes}
use Rattle.rules.specs.Call.{padded}
use Rattle.memory.specs.Placed.{placed}
use Rattle.memory.proofs.Placed.{length-placed, placed-padded}
use Rattle.types.specs.State.{stored_at, laid}
use Rattle.distances.specs.Area.{Weighed}
use Rattle.round.specs.Sorted.{sorted}
use Rattle.round.proofs.ascending.Sorted.{in_sorted, length-sorted, sorted-ascends}
use Rattle.round.proofs.ascending.Inserted.{length-laid-sorted}
use Rattle.medians.specs.Search.{for_lambda, for_all}
use Rattle.medians.specs.declared.search.Search.{Search}
use Rattle.medians.specs.Swept.{Gathered, Swept}
use Rattle.sweep.specs.declared.Size.{Size}
use Rattle.sweep.specs.declared.Survey.{Survey}
use Rattle.sweep.specs.Candidate.{Candidate, Faithful, Everywhere, Remembered}
use Rattle.sweep.specs.Floors.{Surveyed}
use Rattle.round.specs.declared.candidates.Added.{Added}
use Rattle.round.specs.Fresh.{with_rows, Choosing, LambdaSought, InWindow, All, TooMany, Fresh, none_fits, added_of}
use Rattle.sweep.proofs.Dropped.{gives-small}
use Rattle.sweep.proofs.Seated.{candidate-met}

-- A cost is small.
pub candidate-small : {ws : List ℕ} {states : Bytes} {area : List ℕ} {n made : ℕ} → Weighed ws → n ≤ made → 64 * made ≤ length states →
    {x : Bytes} {cost : ℕ} → Candidate ws states area n made x cost → cost ≤ 128000
candidate-small weighed few lie k = gives-small weighed lie k.is_triplet.rising (omega (arith, k.is_triplet.current)) k.gives

-- No candidate, no row.
none-added : {ws : List ℕ} {states : Bytes} {area : List ℕ} {n made e : ℕ} (r : Added) →
    ((x : Bytes) (cost : ℕ) → Candidate ws states area n made x cost → ⊥) → r.count ≡ 0 → r.rows ≡ replicate 8192 0 → All ws states area n made e r
unfolding laid gather
none-added r nowhere count_is rows_are = record {
  xs = [];
  ascends = tt;
  exact = λ x. (absurd, λ w. nowhere x w.cost w.candidate);
  count_is = count_is;
  rows_are = rows_are;
}

-- Bytes in front of memory: it matters only what is behind them.
same-behind : (b b' xs : Bytes) → length b ≡ length b' → ((p : ℕ) → length xs ≤ p → get_or b p 0 ≡ get_or b' p 0) → placed b 0 xs ≡ placed b' 0 xs
unfolding placed
same-behind b b' xs size same =
    let n = 0 + length xs in
    let behind : drop n b ≡ drop n b' = ext_get_or 0 _ _ (rw (length-drop, length-drop, size)) (λ p h.
    get_or-drop n b p 0 ∙ same (n + p) (omega arith) ∙ sym (get_or-drop n b' p 0)) in
    rw behind

-- So many rows gathered, and one behind them.
module _ (found : Bytes) (count : ℕ) (row : Bytes) where
  unfoldable with_last : ℕ → Bytes
  with_last k = cond (ltb k count) (stored_at found k) row

  with_last-found : (k : ℕ) → k < count → with_last k ≡ stored_at found k
  unfolding with_last
  with_last-found k h = rw (lt-ltb k count h)

  with_last-row : (k : ℕ) → count ≤ k → with_last k ≡ row
  unfolding with_last
  with_last-row k h = rw (le-ltb k count h)

-- The first sweep, in which no row is gathered, comes to lambda.
pub lambda_sought : {ws : List ℕ} {states : Bytes} {area : List ℕ} {v v' : Survey} {mismatches mismatches' : List ℕ} {found guesses : Bytes} (made : ℕ) →
    Surveyed ws states area v mismatches (replicate 8192 0) mismatches' found guesses v' → v.search ≡ for_lambda made → LambdaSought ws states area v'
lambda_sought {ws} {states} {area} {v} {v'} made e is =
    let first = e.swept in
    let seeking : v.search.gathering ≡ false = rw is refl in
    let from : v.search.below ≡ 128001 = rw is refl in
    let none : v.search.count ≡ 0 = rw is refl in
    record {
      no_higher = omega (arith, first.no_higher);
      met = λ lower.
          ⊎_elim (λ same. absurd (lower (same ∙ from))) (λ g. (g.0, rw (e.size_stays, first.made_stays) g.1)) (first.lowers seeking);
      least = λ faithful x cost k.
          let met = candidate-met (rw e.size_stays at faithful) x cost (rw (e.size_stays, first.made_stays) at k) in
          ⊎_elim (λ l. l) (λ d. absurd (omega (arith, first.count_stays seeking, d.1))) (first.deals x cost met);
      floors = rw (e.size_stays, first.made_stays) e.floors;
    }

-- What is said of a size and of the rows made holds of others that are equal.
module _ {size size' : Size} {made made' : ℕ} (s : size ≡ size') (m : made ≡ made') where
  pub choosing_as : {states : Bytes} {area ws next : List ℕ} → Choosing states area ws next size.types made → Choosing states area ws next size'.types made'
  choosing_as c = rw (← s, ← m) c

  pub remembered_as : {states : Bytes} {mismatches : List ℕ} → Remembered states mismatches size.width made → Remembered states mismatches size'.width made'
  remembered_as c = rw (← s, ← m) c

-- It leaves the memory for rows as it was.
pub lambda_rows : {asked given : Bytes → ℕ → Type 0} {rows rows' : Bytes} {s s' : Search} → Swept asked given rows s rows' s' → s.gathering ≡ false →
    s.count ≡ 0 → rows' ≡ rows
lambda_rows w seeking none = ext_get_or 0 _ _ w.size (λ p h. w.rest_stays p (omega (arith, w.count_stays seeking)))

module _ {ws : List ℕ} {states : Bytes} {area : List ℕ} {v : Survey} (sought : LambdaSought ws states area v) where
  abbrev n : ℕ
  n = v.size.types

  abbrev made : ℕ
  made = v.search.made

  -- There is no candidate.
  pub fresh-none : (e : ℕ) → Weighed ws → n ≤ made → made ≤ 128 → 64 * made ≤ length states → v.search.below ≡ 128001 → {rows : Bytes} {s : Search} →
      rows ≡ replicate 8192 0 → s ≡ for_all made 0 → Fresh ws states area n made e (added_of rows s)
  fresh-none e weighed few room lie high r is = rw (r, is) (record {
    comes_to = record {
      size = simp length-replicate;
      room = omega arith;
      all = λ faithful.
          none-added _ (λ x cost k. omega (arith, sought.least faithful x cost k, candidate-small weighed few lie k)) refl refl;
    };
  })

  -- The second sweep.
  module _ (e : ℕ) (lower : v.search.below ≢ 128001) {found : Bytes} {all : Search}
      (second : Swept (Everywhere ws states area n made n) (Candidate ws states area n made) (replicate 8192 0) (for_all made (v.search.below + e + 1)) found all) where
    gathered : Gathered (Candidate ws states area n made) (replicate 8192 0) (for_all made (v.search.below + e + 1)) found all
    gathered = second.gathers refl

    found-differ : (i k : ℕ) → i < k → k < all.count → stored_at found i ≢ stored_at found k
    found-differ i k h l = gathered.differ i k h (omega arith) l

    module _ (faithful : Faithful ws states area n) where
      in_window : (x : Bytes) (cost : ℕ) → Candidate ws states area n made x cost → cost < v.search.below + e + 1 → InWindow ws states area n made e x
      in_window x cost k h = record { cost = cost; candidate = k; cheap = λ y other l. omega (arith, sought.least faithful y other l) }

      found_in_window : (k : ℕ) → k < all.count → InWindow ws states area n made e (stored_at found k)
      found_in_window k h = let (cost, c, l) = gathered.newer k (omega arith) h in in_window (stored_at found k) cost c l

      all-gathered : (r : Added) → all.full ≡ false → r.count ≡ all.count → r.rows ≡ padded 8192 (laid (sorted all.count (stored_at found))) →
          All ws states area n made e r
      all-gathered r open_is count_is rows_are = record {
        xs = sorted all.count (stored_at found);
        ascends = sorted-ascends all.count (stored_at found) found-differ;
        exact = λ x. (
          λ h. let (k, l, f) = (in_sorted all.count (stored_at found) x).0 h in rw f (found_in_window k l),
          λ w.
              let cheapest = sought.met lower in
              let cheap = w.cheap cheapest.0 v.search.below cheapest.1 in
              ⊎_elim
              (λ dear. absurd (omega (arith, (gathered.still_open open_is).1)))
              (λ d. (in_sorted all.count (stored_at found) x).1 (d.0, d.1, sym d.2))
              (second.deals x w.cost (candidate-met faithful x w.cost w.candidate)),
        );
        count_is = count_is ∙ sym (length-sorted all.count (stored_at found));
        rows_are = rows_are;
      }

      -- The rows gathered and the one that found no room are one more than there is room for.
      crowded : all.full ≡ true → TooMany ws states area n made e
      crowded full =
          let c = gathered.crowd refl full in
          let m = all.count + 1 in
          let f = with_last found all.count c.row in
          let early = with_last-found found all.count c.row in
          let late = with_last-row found all.count c.row in
          record {
            xs = sorted m f;
            ascends = sorted-ascends m f (λ i k h l. elim (dec_lt k all.count) [
              | yes g ↦ rw (early i (omega arith), early k g) (found-differ i k h g)
              | no g ↦ rw (early i (omega arith), late k (omega arith)) (c.another i (omega arith))
            ]);
            each = λ x h.
                let (k, l, is) = (in_sorted m f x).0 h in
                elim (dec_lt k all.count) [
                  | yes g ↦ rw (is, early k g) (found_in_window k g)
                  | no g ↦ rw (is, late k (omega arith)) (in_window c.row c.cost c.is_given c.matters)
                ];
            no_room = omega (arith, length-sorted m f, c.all_used, second.made_stays);
          }

    -- There is no room.
    pub fresh-full : all.full ≡ true → Fresh ws states area n made e none_fits
    fresh-full full = record { comes_to = λ faithful. crowded faithful full }

    -- There is room for all.
    pub fresh-all : all.full ≡ false → {rows : Bytes} → rows ≡ placed found 0 (laid (sorted all.count (stored_at found))) →
        Fresh ws states area n made e (with_rows rows all.count)
    fresh-all open_is {rows} sorts = record {
      comes_to = record {
        size = ap length sorts ∙ length-placed found _ 0 (omega (arith, long, second.room, size)) ∙ size;
        room = omega (arith, second.room, second.made_stays);
        all = λ faithful. all-gathered faithful _ open_is refl rows_are;
      };
    }
      where
        size : length found ≡ 8192
        size = second.size ∙ length-replicate {A = ℕ} 8192 0

        long : length (laid (sorted all.count (stored_at found))) ≡ 64 * all.count
        long = length-laid-sorted found all.count (omega (arith, second.room, size))

        rows_are : rows ≡ padded 8192 (laid (sorted all.count (stored_at found)))
        rows_are =
            sorts
            ∙ same-behind found (replicate 8192 0) _ second.size (λ p h. second.rest_stays p (omega (arith, long)))
            ∙ placed-padded 8192 _

    -- Either way, once the rows are in order.
    pub fresh_added : made ≤ 128 → {rows : Bytes} → rows ≡ placed found 0 (laid (sorted all.count (stored_at found))) →
        Fresh ws states area n made e (added_of rows all)
    fresh_added room {rows} sorts = go all.full refl
      where
        go : (t : Bool) → all.full ≡ t → Fresh ws states area n made e (cond t none_fits (with_rows rows all.count))
        go true full = fresh-full full
        go false open_is = fresh-all open_is sorts
