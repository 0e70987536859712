-- The walk through the triplets: at a type c, the types linked with it are met one after the other. What is asked for up to the next
-- one is what was asked for up to this one, and what is met here.
use mathlib.Core.Path.{◌≡◌, refl, sym, ◌∙◌}
use mathlib.Core.Logic.{◌⊎◌, inl, inr, ⊎_elim}
use mathlib.Core.Bool.{true, false, false≢true}
use mathlib.Core.List.{List}
use Prim.Native.Nat.{ℕ, ◌+◌, ◌*◌, ◌-◌, ◌≤◌, ◌<◌, min}
use native.Mathlib.Decide.{dec_lt}
use native.Mathlib.Omega.{arith}
use lib.ListN.{length, get_or}
use Rattle.rules.specs.Job.{Bytes}
use Rattle.links.specs.Marks.{marked}
use Rattle.triplets.specs.Followers.{Follower}
use Rattle.triplets.specs.Triplet.{in_order}
use Rattle.triplets.specs.declared.Triplet.{Triplet}
use Rattle.medians.specs.declared.search.Search.{Search}
use Rattle.medians.specs.Search.{Inside}
use Rattle.medians.specs.Swept.{Gives, Swept}
use Rattle.medians.proofs.search.Sweeping.{Rows, swept_none, swept-more, swept_as, swept_at}
use Rattle.sweep.specs.declared.Size.{Size}
use Rattle.sweep.specs.declared.Met.{Met}
use Rattle.sweep.specs.Candidate.{IsTriplet, Candidate, Faithful, WithFirst, AtCentre, Everywhere, Remembered, Sweepable, TablesKept}
use Rattle.sweep.specs.Floors.{met, Outlook, Passed, Floors}
use Rattle.sweep.proofs.Dropped.{no_less}
use Rattle.sweep.proofs.Floors.{floored-none, floored-more}

-- A walk has come to a type that is linked with c, from `start` on, or to n.
pub record Walk (area : List ℕ) (n c start at : ℕ) : Type 0 where
  pub on : start ≤ at
  pub within : at ≤ n
  pub linked : at < n → marked area c at ≡ true

module _ {area : List ℕ} {n c : ℕ} where
  pub walk_first : {start at : ℕ} → Follower area n c start at → Walk area n c start at
  walk_first f = record { on = f.from; within = f.within; linked = f.linked }

  pub walk-next : {start at next : ℕ} → Walk area n c start at → Follower area n c (at + 1) next → Walk area n c start next
  walk-next w f = record { on = omega (arith, w.on, f.from); within = f.within; linked = f.linked }

  -- It comes nearer to its end, and there all that is asked for up to n is asked for.
  pub walk-less : {at next : ℕ} → at < n → Follower area n c (at + 1) next → n - next < n - at
  walk-less h f = omega (arith, f.from, f.within)

  pub walk-done : {start at : ℕ} → Walk area n c start at → n ≤ at → at ≡ n
  walk-done w h = omega (arith, w.within)

  -- A type that is linked with c is none of those passed over.
  not-passed : {i at : ℕ} → Follower area n c i at → (k : ℕ) → marked area c k ≡ true → k < at → k < i
  not-passed {i} f k linked h = elim (dec_lt k i) [
    | yes l ↦ l
    | no other ↦ absurd (false≢true (sym (f.none_between k (omega arith) h) ∙ linked))
  ]

-- What is met at a type c with two others.
abbrev pub Here : List ℕ → Bytes → List ℕ → ℕ → ℕ → ℕ → ℕ → ℕ → Rows
Here ws states area n made c a b x cost =
    Faithful ws states area n × ((c < a) ⊎ (marked area a b ≡ false)) × Gives ws states made (in_order c a b) x cost

-- What is asked for up to the next type is asked for up to this one, or at this one.
module _ {ws : List ℕ} {states : Bytes} {area : List ℕ} {n made c : ℕ} {x : Bytes} {cost : ℕ} where
  which_centre : Everywhere ws states area n made (c + 1) x cost → Everywhere ws states area n made c x cost ⊎ AtCentre ws states area n made c n x cost
  which_centre k = elim (dec_lt k.c c) [
    | yes h ↦ inl (record { c = k.c; within = h; rest = k.rest })
    | no other ↦ let e : k.c ≡ c = omega (arith, k.within) in inr (rw e at k.rest)
  ]

  pub which-first : {a to : ℕ} → Follower area n c (a + 1) to → AtCentre ws states area n made c to x cost →
      AtCentre ws states area n made c a x cost ⊎ WithFirst ws states area n made c a n x cost
  which-first {a} f k = elim (dec_lt k.a a) [
    | yes h ↦ inl (record { a = k.a; within = h; linked = k.linked; rest = k.rest })
    | no other ↦ let e : k.a ≡ a = omega (arith, not-passed f k.a k.linked k.within) in inr (rw e at k.rest)
  ]

  pub which-second : {a b to : ℕ} → Follower area n c (b + 1) to → WithFirst ws states area n made c a to x cost →
      WithFirst ws states area n made c a b x cost ⊎ Here ws states area n made c a b x cost
  which-second {b} f k = elim (dec_lt k.b b) [
    | yes h ↦ inl (record {
      faithful = k.faithful;
      b = k.b;
      higher = k.higher;
      within = h;
      linked = k.linked;
      met_here = k.met_here;
      gives = k.gives;
    })
    | no other ↦
        let e : k.b ≡ b = omega (arith, not-passed f k.b k.linked k.within) in
        inr (k.faithful, rw e at k.met_here, rw e at k.gives)
  ]

-- What is kept is kept by one sweep after the other.
pub kept_then : {states : Bytes} {m made made' : ℕ} {mismatches₀ words₁ words₂ guesses₁ guesses₂ : List ℕ} → made' ≡ made →
    TablesKept states m made mismatches₀ words₁ guesses₁ → TablesKept states m made' words₁ words₂ guesses₂ → TablesKept states m made mismatches₀ words₂ guesses₂
kept_then e a b = record { remembered = rw e at b.remembered; mismatches_size = b.mismatches_size ∙ a.mismatches_size; guesses_sized = b.guesses_sized }

module _ {states : Bytes} {area ws next mismatches₀ : List ℕ} {gathered₀ guesses₀ : Bytes} {size : Size} {s₀ : Search}
    (ready : Sweepable states area ws next mismatches₀ gathered₀ guesses₀ size s₀) where
  pub kept-none : TablesKept states size.width s₀.made mismatches₀ mismatches₀ guesses₀
  kept-none = record { remembered = ready.remembered; mismatches_size = refl; guesses_sized = ready.guesses_sized }

  -- What a search needs, it has after a sweep too.
  pub still_ready : {A G : Rows} {mismatches : List ℕ} {gathered guesses : Bytes} {s : Search} → Swept A G gathered₀ s₀ gathered s →
      TablesKept states size.width s₀.made mismatches₀ mismatches guesses → Sweepable states area ws next mismatches gathered guesses size s
  still_ready a kept = record {
    weighed = ready.weighed;
    follows = ready.follows;
    remembered = rw a.made_stays kept.remembered;
    current = rw a.made_stays ready.current;
    room = a.room;
    lie = rw a.made_stays ready.lie;
    cells = ready.cells;
    gathered_size = a.size ∙ ready.gathered_size;
    guesses_sized = kept.guesses_sized;
    low = omega (arith, a.no_higher, ready.low);
  }

  -- Numbers of types are small.
  pub few : {c : ℕ} → c < size.types → c < 128
  few h = omega (arith, ready.current, ready.room)

  -- The first type linked with c, and the next one behind i, where they stand in the table.
  module _ {c : ℕ} (h : c < size.types) where
    pub follower_first : Follower area size.types c 0 (get_or next (129 * c) 0)
    follower_first = let e : 129 * c ≡ 129 * c + 0 = omega arith in rw e (ready.follows.each c 0 h (omega arith))

    pub follower_next : {i : ℕ} → i < size.types → Follower area size.types c (i + 1) (get_or next (129 * c + i + 1) 0)
    follower_next {i} l = let e : 129 * c + i + 1 ≡ 129 * c + (i + 1) = omega arith in rw e (ready.follows.each c (i + 1) h (omega arith))

  -- The types of a triplet are among those made.
  pub ready-inside : {t : Triplet} → IsTriplet area size.types t → Inside states s₀ t
  ready-inside i = record {
    u_made = omega (arith, ready.current, i.rising, i.current);
    v_made = omega (arith, ready.current, i.rising, i.current);
    w_made = omega (arith, ready.current, i.current);
    room = ready.room;
    lie = ready.lie;
  }

  -- Nothing that a triplet gives costs less than its outlook.
  here_no_less : (c a b : ℕ) {t : Triplet} {r : ℕ} → t ≡ in_order c a b → IsTriplet area size.types t → Outlook states area s₀.made t r →
      (x : Bytes) (cost : ℕ) → Here ws states area size.types s₀.made c a b x cost → r ≤ cost
  here_no_less c a b {t} is triplet outlook x cost k =
      let gives : Gives ws states s₀.made t x cost = rw is k.2 in
      ⊎_elim
      (λ e. omega (arith, no_less ready.weighed ready.lie triplet.rising (ready-inside triplet).w_made k.0 triplet.current gives))
      (λ settled.
      let (i, h, e) = settled.0 gives.median.number gives.median.below_three in
      absurd (gives.unmade i h (e ∙ sym gives.median.row_is)))
      outlook

  -- Candidates, where this many rows are made.
  abbrev Given : ℕ → Rows
  Given made = Candidate ws states area size.types made

  -- Nothing is asked for yet.
  none-asked : {A : Rows} → ((x : Bytes) (cost : ℕ) → A x cost → ⊥) → Swept A (Given s₀.made) gathered₀ s₀ gathered₀ s₀
  none-asked none = swept_none (λ x cost k. absurd (none x cost k)) ready.room

  -- One sweep more, which is asked for the rest.
  one_more : {A C : Rows} (B : ℕ → Rows) {gathered found' : Bytes} {s s' : Search} →
      Swept A (Given s₀.made) gathered₀ s₀ gathered s → Swept (B s.made) (Given s.made) gathered s found' s' →
      ((x : Bytes) (cost : ℕ) → C x cost → A x cost ⊎ B s₀.made x cost) → Swept C (Given s₀.made) gathered₀ s₀ found' s'
  one_more B a b which = swept-more a (swept_at B Given a.made_stays b) which

  -- The sweep of all types.
  pub everywhere-more : (c : ℕ) {gathered found' : Bytes} {s s' : Search} →
      Swept (Everywhere ws states area size.types s₀.made c) (Given s₀.made) gathered₀ s₀ gathered s →
      Swept (AtCentre ws states area size.types s.made c size.types) (Given s.made) gathered s found' s' →
      Swept (Everywhere ws states area size.types s₀.made (c + 1)) (Given s₀.made) gathered₀ s₀ found' s'
  everywhere-more c a b = one_more (λ made. AtCentre ws states area size.types made c size.types) a b (λ x cost. which_centre)

  -- A type is passed over where its floor does not matter.
  pub everywhere-passed : (c : ℕ) {gathered : Bytes} {s : Search} {floors : List ℕ} → c < size.types →
      Floors ws states area size.types s₀.made floors → s.below ≤ get_or floors c 0 →
      Swept (Everywhere ws states area size.types s₀.made c) (Given s₀.made) gathered₀ s₀ gathered s →
      Swept (Everywhere ws states area size.types s₀.made (c + 1)) (Given s₀.made) gathered₀ s₀ gathered s
  everywhere-passed c h floors high a =
      everywhere-more c a (swept_none (λ x cost k. inl (omega (arith, floors.each c h x cost (rw a.made_stays at k)))) a.room)

-- Triplets are passed, one after the other.
module _ {states : Bytes} {area ws next mismatches₀ : List ℕ} {gathered₀ guesses₀ : Bytes} {size : Size} {met₀ : Met}
    (ready : Sweepable states area ws next mismatches₀ gathered₀ guesses₀ size met₀.search) where
  -- Nothing is asked for yet.
  pub passed_none : {A : Rows} → ((x : Bytes) (cost : ℕ) → A x cost → ⊥) →
      Passed ws states area size met₀ A mismatches₀ gathered₀ mismatches₀ gathered₀ guesses₀ met₀
  passed_none none = record { kept = kept-none ready; swept = none-asked ready none; floored = floored-none none }

  module _ {A : Rows} {mismatches : List ℕ} {gathered guesses : Bytes} {met : Met}
      (so_far : Passed ws states area size met₀ A mismatches₀ gathered₀ mismatches gathered guesses met) where
    -- What a search needs, it has still.
    pub ready_on : Sweepable states area ws next mismatches gathered guesses size met.search
    ready_on = still_ready ready so_far.swept so_far.kept

    -- More is passed, and what is asked for was asked for before, or is now.
    pub passed-more : {C : Rows} (B : ℕ → Rows) {mismatches' : List ℕ} {gathered' guesses' : Bytes} {met' : Met} →
        Passed ws states area size met (B met.search.made) mismatches gathered mismatches' gathered' guesses' met' →
        ((x : Bytes) (cost : ℕ) → C x cost → A x cost ⊎ B met₀.search.made x cost) →
        Passed ws states area size met₀ C mismatches₀ gathered₀ mismatches' gathered' guesses' met'
    passed-more B more which =
        let stays = so_far.swept.made_stays in
        record {
          kept = kept_then stays so_far.kept more.kept;
          swept = one_more ready B so_far.swept more.swept which;
          floored = floored-more so_far.floored (rw stays at more.floored) which;
        }

  -- A walk at a type c begins: nothing is asked for before the first type linked with c, or before the first one behind a.
  module _ {c : ℕ} (h : c < size.types) where
    pub centre_none : Passed ws states area size met₀ (AtCentre ws states area size.types met₀.search.made c (get_or next (129 * c) 0))
        mismatches₀ gathered₀ mismatches₀ gathered₀ guesses₀ met₀
    centre_none = passed_none (λ x cost k. omega (arith, not-passed (follower_first ready h) k.a k.linked k.within))

    pub first-none : {a : ℕ} → a < size.types → Passed ws states area size met₀
        (WithFirst ws states area size.types met₀.search.made c a (get_or next (129 * c + a + 1) 0)) mismatches₀ gathered₀ mismatches₀ gathered₀ guesses₀ met₀
    first-none l = passed_none (λ x cost k. omega (arith, k.higher, not-passed (follower_next ready h l) k.b k.linked k.within))

  -- What is met at c, a and b: the triplet is met at type a instead, or it is asked what it costs at least.
  module _ (c a b : ℕ) where
    pub here-skipped : a ≤ c → marked area a b ≡ true →
        Passed ws states area size met₀ (Here ws states area size.types met₀.search.made c a b) mismatches₀ gathered₀ mismatches₀ gathered₀ guesses₀ met₀
    here-skipped h e = passed_none (λ x cost k. ⊎_elim (λ l. omega arith) (λ f. false≢true (sym f ∙ e)) k.1)

    module _ {t : Triplet} (is : t ≡ in_order c a b) (triplet : IsTriplet area size.types t) {r : ℕ}
        (outlook : Outlook states area met₀.search.made t r) {mismatches : List ℕ}
        (remembered : Remembered states mismatches size.width met₀.search.made) (same : length mismatches ≡ length mismatches₀) where
      -- The floor is lowered to its outlook, whatever the search comes to.
      here-met : {gathered guesses : Bytes} {s : Search} → length guesses ≡ 4096 →
          Swept (Here ws states area size.types met₀.search.made c a b) (Given ready met₀.search.made) gathered₀ met₀.search gathered s →
          Passed ws states area size met₀ (Here ws states area size.types met₀.search.made c a b) mismatches₀ gathered₀ mismatches gathered guesses
          (met s (min met₀.floor r))
      here-met long swept = record {
        kept = record { remembered = remembered; mismatches_size = same; guesses_sized = long };
        swept = swept;
        floored = record { no_higher = omega arith; no_less = λ x cost k. omega (arith, here_no_less ready c a b is triplet outlook x cost k) };
      }

      -- It is passed where that does not matter.
      pub here_dear : met₀.search.below ≤ r →
          Passed ws states area size met₀ (Here ws states area size.types met₀.search.made c a b) mismatches₀ gathered₀ mismatches gathered₀ guesses₀
          (met met₀.search (min met₀.floor r))
      here_dear h = here-met ready.guesses_sized (swept_none (λ x cost k. inl (omega (arith, here_no_less ready c a b is triplet outlook x cost k))) ready.room)

      -- It is visited, and what it gives is a candidate.
      pub here_visited : {gathered guesses : Bytes} {s : Search} → length guesses ≡ 4096 →
          Swept (Gives ws states met₀.search.made t) (Gives ws states met₀.search.made t) gathered₀ met₀.search gathered s →
          Passed ws states area size met₀ (Here ws states area size.types met₀.search.made c a b) mismatches₀ gathered₀ mismatches gathered guesses
          (met s (min met₀.floor r))
      here_visited long q =
          here-met long (swept_as (λ x cost k. rw is k.2) (λ x cost g. record { triplet = t; is_triplet = triplet; gives = g }) q)
