-- A candidate of a cost that matters is taken: it lowers the cost looked for, finds no room, or is one more.
use mathlib.Core.Path.{◌≡◌, refl, sym, ◌∙◌}
use mathlib.Core.Logic.{◌≢◌, inl, inr, ⊎_elim}
use mathlib.Core.Bool.{Bool, true, false, false≢true}
use Prim.Native.Nat.{ℕ, ◌+◌, ◌*◌, ◌≤◌, ◌<◌}
use native.Mathlib.Decide.{ℕ_discrete}
use native.Mathlib.Omega.{arith}
use lib.ListN.{length}
use borrow.Author.Tests.{eq-eqb, ne_eqb}
use Rattle.rules.specs.Job.{Bytes}
use Rattle.rules.proofs.Block.{stands_part}
use Rattle.memory.specs.Placed.{placed}
use Rattle.memory.proofs.Placed.{stands_placed, length-placed, get_or-placed-before, get_or-placed-behind}
use Rattle.types.specs.State.{stored_at}
use Rattle.types.proofs.State.{stored_at-is, stored_at-state, length-stored_at}
use Rattle.medians.specs.declared.search.Search.{Search}
use Rattle.medians.specs.Search.{lowered, filled, with_one, taken, gathered_after}
use Rattle.medians.specs.Swept.{Swept}
use Rattle.medians.proofs.search.Sweeping.{Rows}

module _ (gathered : Bytes) (s : Search) (row : Bytes) (cost : ℕ) where
  -- What it makes of the search and of the rows gathered, by the search's aim and its room.
  abbrev Takes : Search → Bytes → Type 0
  Takes r found' = (r ≡ taken s cost) × (found' ≡ gathered_after gathered s row)

  pub takes_lowered : s.gathering ≡ false → Takes (lowered s cost) gathered
  takes_lowered e = rw e (refl, refl)

  pub takes_filled : s.gathering ≡ true → s.made + s.count ≡ 128 → Takes (filled s) gathered
  takes_filled e f = rw (e, eq-eqb (s.made + s.count) 128 f) (refl, refl)

  pub takes_one : s.gathering ≡ true → s.made + s.count ≢ 128 → Takes (with_one s) (placed gathered (64 * s.count) row)
  takes_one e f = rw (e, ne_eqb (s.made + s.count) 128 f) (refl, refl)

-- A row placed behind those gathered stands there, and those before it stay.
module _ (gathered : Bytes) (count : ℕ) (row : Bytes) (wide : length row ≡ 64) (room : 64 * count + 64 ≤ length gathered) where
  stands_one : stored_at (placed gathered (64 * count) row) count ≡ row
  stands_one = rw wide at (stands_part (stands_placed gathered row (64 * count) (omega arith)))

  one_size : length (placed gathered (64 * count) row) ≡ length gathered
  one_size = length-placed gathered row (64 * count) (omega arith)

  others-stay : (k : ℕ) → k < count → stored_at (placed gathered (64 * count) row) k ≡ stored_at gathered k
  others-stay k h =
      stored_at-is (placed gathered (64 * count) row) k (stored_at gathered k) (length-stored_at gathered k (omega arith)) (omega (arith, one_size)) (λ c l.
      get_or-placed-before gathered row (64 * count) (omega arith) (64 * k + c) 0 (omega arith) ∙ sym (stored_at-state gathered k c l))

-- What is asked for is one row at one cost, which is given, matters, and is not among those gathered.
module _ (asked given : Rows) (gathered : Bytes) (s : Search) (row : Bytes) (cost : ℕ)
    (only : (x : Bytes) (c : ℕ) → asked x c → (x ≡ row) × (c ≡ cost)) (gives : given row cost) (matters : cost < s.below)
    (another : (k : ℕ) → k < s.count → stored_at gathered k ≢ row) (room : s.made + s.count ≤ 128) where
  swept-lowered : s.gathering ≡ false → Swept asked given gathered s gathered (lowered s cost)
  swept-lowered e = record {
    size = refl;
    rest_stays = λ p h. refl;
    made_stays = refl;
    aim_stays = refl;
    room = room;
    no_higher = omega arith;
    deals = λ x c a. inl (omega (arith, (only x c a).1));
    keeps = λ x c. ⊎_elim (λ l. inl (omega arith)) inr;
    count_stays = λ _. refl;
    lowers = λ _. inr (row, gives);
    gathers = λ f. absurd (false≢true (sym e ∙ f));
  }

  swept-filled : s.gathering ≡ true → s.made + s.count ≡ 128 → Swept asked given gathered s gathered (filled s)
  swept-filled e full = record {
    size = refl;
    rest_stays = λ p h. refl;
    made_stays = refl;
    aim_stays = refl;
    room = room;
    no_higher = omega arith;
    deals = λ x c a. inl (omega arith);
    keeps = λ x c d. inl (omega arith);
    count_stays = λ f. absurd (false≢true (sym f ∙ e));
    lowers = λ f. absurd (false≢true (sym f ∙ e));
    gathers = λ _. record {
      no_fewer = omega arith;
      older = λ k h. refl;
      newer = λ k l h. absurd (omega arith);
      differ = λ i k l m h. absurd (omega arith);
      still_open = λ f. absurd (false≢true (sym f));
      crowd = λ _ _. record {
        closed = refl;
        all_used = full;
        row = row;
        cost = cost;
        is_given = gives;
        matters = matters;
        another = another;
      };
    };
  }

  module _ (wide : length row ≡ 64) (size : length gathered ≡ 8192) where
    swept-one : s.gathering ≡ true → s.made + s.count ≢ 128 →
        Swept asked given gathered s (placed gathered (64 * s.count) row) (with_one s)
    swept-one e free = record {
      size = one_size gathered s.count row wide fits;
      rest_stays = λ p h. get_or-placed-behind gathered row (64 * s.count) (omega arith) p 0 (omega arith);
      made_stays = refl;
      aim_stays = refl;
      room = omega arith;
      no_higher = omega arith;
      deals = λ x c a. inr (s.count, omega arith, here ∙ sym (only x c a).0);
      keeps = λ x c. ⊎_elim inl (λ d. inr (d.0, omega (arith, d.1), stay d.0 d.1 ∙ d.2));
      count_stays = λ f. absurd (false≢true (sym f ∙ e));
      lowers = λ f. absurd (false≢true (sym f ∙ e));
      gathers = λ _. record {
        no_fewer = omega arith;
        older = stay;
        newer = λ k l h. let last : k ≡ s.count = omega arith in rw (last, here) (cost, gives, matters);
        differ = λ i k l m h. let last : k ≡ s.count = omega arith in
            rw (last, here, stay i (omega arith)) (another i (omega arith));
        still_open = λ f. (f, refl);
        crowd = λ f g. absurd (false≢true (sym f ∙ g));
      };
    }
      where
        fits : 64 * s.count + 64 ≤ length gathered
        fits = omega arith

        here : stored_at (placed gathered (64 * s.count) row) s.count ≡ row
        here = stands_one gathered s.count row wide fits

        stay : (k : ℕ) → k < s.count → stored_at (placed gathered (64 * s.count) row) k ≡ stored_at gathered k
        stay = others-stay gathered s.count row wide fits

    -- It is taken, by the search's aim and its room.
    pub swept-taken : Swept asked given gathered s (gathered_after gathered s row) (taken s cost)
    swept-taken = by_aim s.gathering refl
      where
        by_aim : (gathering : Bool) → s.gathering ≡ gathering → Swept asked given gathered s (gathered_after gathered s row) (taken s cost)
        by_aim false e = let q = takes_lowered gathered s row cost e in rw (← q.0, ← q.1) (swept-lowered e)
        by_aim true e = elim (ℕ_discrete (s.made + s.count) 128) [
          | yes f ↦ let q = takes_filled gathered s row cost e f in rw (← q.0, ← q.1) (swept-filled e f)
          | no f ↦ let q = takes_one gathered s row cost e f in rw (← q.0, ← q.1) (swept-one e f)
        ]
