-- A refusal is the answer exactly if its condition holds and no earlier one does. And SPLIT is never the answer.
-- The proof goes down the tests in the order they are tried, and keeps what is known of the rows of the table passed so far.
use Rattle.std.specs.Prelude.{Ok, Err}
use mathlib.Core.Path.{◌≡◌, refl, sym, ap, ◌∙◌}
use mathlib.Core.Logic.{◌⊎◌, inl, inr, ⊎_elim, ⊎_map, ◌↔◌, ◌≢◌}
use mathlib.Core.Bool.{Bool, true, false, not, cond, ◌||◌, false≢true}
use mathlib.Core.List.{List, [], ◌∷◌}
use Prim.Native.Nat.{ℕ, suc, ◌*◌, ◌≤◌, ◌<◌}
use native.Mathlib.Omega.{arith}
use native.Mathlib.Decide.{ℕ_discrete, dec_lt}
use lib.Dec.{ltb, eqb}
use lib.ListN.{length, get_or}
use borrow.Author.Tests.{ltb-true, lt-ltb, eqb-true, eqb-false, eq-eqb, ne_eqb}
use Rattle.graph.specs.Below.{first}
use Rattle.graph.proofs.Below.{or_true, is_false, first-hits, first-before, first-is}
use Rattle.rules.specs.Answers.{number, place, when◌refuse◌else◌, passed, Answer}
use Rattle.rules.specs.Job.{Bytes, weights_offset, word, rows, width, weight_at, state_at, outside, states_offset, whole_length, bad_weight, bad_state, checked, Row, weights, job_rows}
use Rattle.rules.specs.Lent.{Lent, area_short}
use Rattle.rules.specs.Types.{sampled, has_too_many, row129}
use Rattle.rules.specs.Purge.{Run}
use Rattle.rules.specs.Run.{Outcome, settled, full}
use Rattle.rules.specs.Call.{Verdict, refused, answer_to, ◌then◌, ended, outcome, verdict, answer}
use Rattle.rules.specs.declared.Refusal.TheVariants.{Area, Head, Rows, Width, Layout, Weight, State, Types, Room, Split}
use Rattle.rules.proofs.Ends.{phase_same}
use Rattle.rules.proofs.Types.{is-first, Nth, too_many, too_many-at, length-sampled, few-sampled}
use Rattle.readback.specs.Runs.{Runs}
use Rattle.readback.proofs.Found.{never_split-network, unrefused, runs-outcome}
use Rattle.claims.specs.Refusals.{FirstWhere, Outside, WrongField, weights_offset_wrong, states_offset_wrong, whole_length_wrong, bytes_lent, Type129, Condition, order, Due}
use Rattle.claims.proofs.Drawing.{network-joined}

-- ── The table by its numbers ──

-- The refusals in the order they are tried, each at its number, with a place.
abbrev refusals : ℕ → List Answer
refusals p = (Ok 0) ∷ (Err Area) ∷ (Err Head) ∷ (Err Rows) ∷ (Err Width) ∷ (Err (Layout p)) ∷ (Err (Weight p)) ∷ (Err (State p)) ∷ (Err (Types p)) ∷ (Err (Room p)) ∷ (Err Split) ∷ []

abbrev refusal : ℕ → ℕ → Answer
refusal k p = get_or (refusals p) k (Ok 0)

refusal_is : (a : Answer) → number a ≢ 0 → a ≡ refusal (number a) (place a)
refusal_is (Ok used) h = absurd (h refl)
refusal_is (Err Area) h = refl
refusal_is (Err Head) h = refl
refusal_is (Err Rows) h = refl
refusal_is (Err Width) h = refl
refusal_is (Err (Layout p)) h = refl
refusal_is (Err (Weight p)) h = refl
refusal_is (Err (State p)) h = refl
refusal_is (Err (Types p)) h = refl
refusal_is (Err (Room p)) h = refl
refusal_is (Err Split) h = refl

-- ── Tests and what they test ──

abbrev Tests : Bool → Type 0 → Type 0
Tests t A = (t ≡ true) ↔ A

ltb_tests : (a b : ℕ) → Tests (ltb a b) (a < b)
ltb_tests a b = (ltb-true a b, lt-ltb a b)

zero_tests : (a : ℕ) → Tests (ltb a 1) (a ≡ 0)
zero_tests a = (λ e. omega (arith, ltb-true a 1 e), λ e. lt-ltb a 1 (omega arith))

or_tests : {s t : Bool} {A B : Type 0} → Tests s A → Tests t B → Tests (s || t) (A ⊎ B)
or_tests {s} {t} f g = let o = or_true s t in (λ e. ⊎_map f.0 g.0 (o.0 e), λ h. o.1 (⊎_map f.1 g.1 h))

module _ (n : ℕ) (t : ℕ → Bool) (P : ℕ → Type 0) (is : (i : ℕ) → Tests (t i) (P i)) where
  first_tests : Tests (ltb (first n t) n) (FirstWhere n P (first n t))
  first_tests = (λ e. let h = ltb-true _ _ e in record { below = h; here = (is _).0 (first-hits n t h); before = λ i l p. false≢true (sym (first-before n t i l) ∙ (is i).1 p) }, λ f. lt-ltb _ _ f.below)

  first_one : (p : ℕ) → FirstWhere n P p → FirstWhere n P (first n t)
  first_one p f = rw (first-is n t p (omega (arith, f.below)) (λ i l. is_false (t i) (λ e. f.before i l ((is i).0 e))) (λ l. (is p).1 f.here)) f

first-same : {n : ℕ} {P : ℕ → Type 0} (p q : ℕ) → FirstWhere n P p → FirstWhere n P q → p ≡ q
first-same p q f g = elim (dec_lt p q) [
  | yes h ↦ absurd (g.before p h f.here)
  | no h ↦ elim (dec_lt q p) [ yes l ↦ absurd (f.before q l g.here) | no l ↦ omega arith ]
]

-- The first wrong field, by tests.
abbrev wrong_field : Bytes → ℕ
wrong_field job =
    cond (eqb (word job 6) weights_offset) (cond (eqb (word job 8) (states_offset job)) (cond (eqb (word job 10) (whole_length job)) 12 10) 8) 6

wrong_field_lem : (job : Bytes) {p : ℕ} → WrongField job p → p ≡ wrong_field job
wrong_field_lem job (weights_offset_wrong n) = rw (ne_eqb _ _ n)
wrong_field_lem job (states_offset_wrong a n) = rw (eq-eqb _ _ a, ne_eqb _ _ n)
wrong_field_lem job (whole_length_wrong a b n) = rw (eq-eqb _ _ a, eq-eqb _ _ b, ne_eqb _ _ n)
wrong_field_lem job (bytes_lent a b c n) = rw (eq-eqb _ _ a, eq-eqb _ _ b, eq-eqb _ _ c)

module _ (lent : Lent) (job : Bytes) where
  abbrev Given : Answer → Type 0
  Given = Condition lent job

  -- Of the refusals numbered from k to before l, a is the first whose condition holds; where there is none, a is no refusal.
  record Right (k l : ℕ) (a : Answer) : Type 0 where
    holds : number a ≢ 0 → Given a
    from : number a ≢ 0 → (k ≤ number a) × (number a < l)
    earlier : (b : Answer) → k ≤ number b → number b < l → (number a ≡ 0) ⊎ (number b < number a) → ¬ Given b

  -- The test at hand refuses.
  stops : (k l : ℕ) (a : Answer) → 0 < k → number a ≡ k → k < l → Given a → Right k l a
  stops k l a h e hl g = record {
    holds = λ z. g;
    from = λ z. (omega arith, omega arith);
    earlier = λ b hk hb s. absurd (⊎_elim (λ z. omega arith) (λ z. omega arith) s);
  }

  -- It does not, and no place of its number does.
  passes : (k l : ℕ) (a : Answer) → 0 < k → ((p : ℕ) → ¬ Given (refusal k p)) → Right (suc k) l a → Right k l a
  passes k l a h none r = record {
    holds = r.holds;
    from = λ z. (omega (arith, r.from z), (r.from z).1);
    earlier = λ b hk hb s. elim (ℕ_discrete (number b) k) [
      | yes e ↦ λ g. none (place b) (rw (refusal_is b (λ z. omega arith), e) at g)
      | no ne ↦ r.earlier b (omega arith) hb s
    ];
  }

  -- Nothing is left to try.
  ends : (l : ℕ) (used : ℕ) → Right l l (Ok used)
  ends l used = record { holds = λ z. absurd (z refl); from = λ z. absurd (z refl); earlier = λ b h g. absurd (let z : ⊥ = omega arith in z) }

  -- The next test, which passes exactly where its refusal is given; a refusal of its number can be given with no other place.
  tries : (k l : ℕ) (t : Bool) (a next : Answer) → 0 < k → number a ≡ k → k < l → Tests t (Given a) →
      ((p : ℕ) → Given (refusal k p) → Given a) → (t ≡ false → Right (suc k) l next) → Right k l (when t refuse a else next)
  tries k l true a next h e hl is one r = stops k l a h e hl (is.0 refl)
  tries k l false a next h e hl is one r = passes k l next h (λ p g. false≢true (is.1 (one p g))) (r refl)

  -- One list of tests behind another.
  follows : (k l m : ℕ) (a : Answer) (v : Verdict) → k ≤ l → l ≤ 11 → Right k l a → (number a ≡ 0 → Right l 11 (answer_to m v)) →
      Right k 11 (answer_to m (a then v))
  follows k l m a v hk hl r s = go (eqb (number a) 0) refl
    where
      go : (t : Bool) → eqb (number a) 0 ≡ t → Right k 11 (answer_to m (cond t v (refused a)))
      go true e =
          let z = eqb-true (number a) 0 e in
          let n = s z in
          record {
            holds = n.holds;
            from = λ w. (omega (arith, n.from w), (n.from w).1);
            earlier = λ b h g c. elim (dec_lt (number b) l) [ yes i ↦ r.earlier b h i (inl z) | no i ↦ n.earlier b (omega arith) g c ];
          }
      go false e =
          let z = eqb-false (number a) 0 e in
          record {
            holds = r.holds;
            from = λ w. ((r.from w).0, omega (arith, r.from w));
            earlier = λ b h g c. ⊎_elim (λ w. absurd (z w)) (λ w. r.earlier b h (omega (arith, r.from z)) (inr w)) c;
          }

  -- ── 1, and 2 to 7 ──

  area : Right 1 2 (when area_short lent refuse Err Area else passed)
  unfolding area_short
  area =
      tries 1 2 (area_short lent) (Err Area) passed (omega arith) refl (omega arith)
      (or_tests (or_tests (or_tests (ltb_tests _ _) (ltb_tests _ _)) (ltb_tests _ _)) (ltb_tests _ _)) (λ p g. g) (λ e. ends 2 0)

  -- The four tests of LAYOUT: each is made where those before it passed.
  layout : (l : ℕ) (next : Answer) → 5 < l → Right 6 l next → Right 5 l (
      when not (eqb (word job 6) weights_offset) refuse Err (Layout 6) else
      when not (eqb (word job 8) (states_offset job)) refuse Err (Layout 8) else
      when not (eqb (word job 10) (whole_length job)) refuse Err (Layout 10) else
      when not (eqb (length job) (whole_length job)) refuse Err (Layout 12) else next)
  layout l next h r = go _ _ _ _ refl refl refl refl
    where
      refuses : (p : ℕ) → WrongField job p → Right 5 l (Err (Layout p))
      refuses p w = stops 5 l (Err (Layout p)) (omega arith) refl h w

      fits : word job 6 ≡ weights_offset → word job 8 ≡ states_offset job → word job 10 ≡ whole_length job → length job ≡ whole_length job → (p : ℕ) → ¬ WrongField job p
      fits a b c d p (weights_offset_wrong n) = n a
      fits a b c d p (states_offset_wrong e n) = n b
      fits a b c d p (whole_length_wrong e f n) = n c
      fits a b c d p (bytes_lent e f g n) = n d

      go : (s t x y : Bool) → eqb (word job 6) weights_offset ≡ s → eqb (word job 8) (states_offset job) ≡ t → eqb (word job 10) (whole_length job) ≡ x →
          eqb (length job) (whole_length job) ≡ y → Right 5 l (when not s refuse Err (Layout 6) else when not t refuse Err (Layout 8) else when not x refuse Err (Layout 10) else when not y refuse Err (Layout 12) else next)
      go false t x y a b c d = refuses 6 (weights_offset_wrong (eqb-false _ _ a))
      go true false x y a b c d = refuses 8 (states_offset_wrong (eqb-true _ _ a) (eqb-false _ _ b))
      go true true false y a b c d = refuses 10 (whole_length_wrong (eqb-true _ _ a) (eqb-true _ _ b) (eqb-false _ _ c))
      go true true true false a b c d = refuses 12 (bytes_lent (eqb-true _ _ a) (eqb-true _ _ b) (eqb-true _ _ c) (eqb-false _ _ d))
      go true true true true a b c d = passes 5 l next (omega arith) (fits (eqb-true _ _ a) (eqb-true _ _ b) (eqb-true _ _ c) (eqb-true _ _ d)) r

  checks : Right 2 8 (checked job)
  unfolding checked bad_weight bad_state
  checks =
      tries 2 8 _ (Err Head) _ (omega arith) refl (omega arith) (ltb_tests _ _) (λ p g. g)
      (λ e. tries 3 8 _ (Err Rows) _ (omega arith) refl (omega arith) (or_tests (zero_tests _) (ltb_tests _ _)) (λ p g. g)
      (λ e. tries 4 8 _ (Err Width) _ (omega arith) refl (omega arith) (or_tests (zero_tests _) (ltb_tests _ _)) (λ p g. g)
      (λ e. layout 8 _ (omega arith)
      (tries 6 8 _ (Err (Weight (bad_weight job))) _ (omega arith) refl (omega arith) (first_tests (width job) _ _ weight) (first_one (width job) _ _ weight)
      (λ e. tries 7 8 _ (Err (State (bad_state job))) _ (omega arith) refl (omega arith) (first_tests (rows job * width job) _ _ state) (first_one (rows job * width job) _ _ state)
      (λ e. ends 8 0))))))
    where
      weight : (c : ℕ) → Tests (outside 1 1000 (weight_at job c)) ((weight_at job c ≡ 0) ⊎ (1000 < weight_at job c))
      weight c = or_tests (zero_tests _) (ltb_tests _ _)

      state : (i : ℕ) → Tests (outside 33 126 (state_at job i)) (Outside 33 126 (state_at job i))
      state i = or_tests (ltb_tests _ _) (ltb_tests _ _)

  -- ── 8, then 9 and 10 ──

  abbrev rs : List Row
  rs = job_rows job

  abbrev types : Answer
  types = when has_too_many rs refuse Err (Types (row129 rs)) else passed

  type-nth : (p : ℕ) → Nth rs 128 p ↔ Type129 rs p
  type-nth p = (
    λ n. record { below = n.within; new = (is-first rs p).0 n.new; before = length-sampled _ ∙ n.before },
    λ t. record { within = t.below; new = (is-first rs p).1 t.new; before = sym (length-sampled _) ∙ t.before },
  )

  types-right : Right 8 9 types
  types-right =
      tries 8 9 (has_too_many rs) (Err (Types (row129 rs))) passed (omega arith) refl (omega arith) is
      (λ p t. is.0 (too_many-at rs p ((type-nth p).1 t)).0) (λ e. ends 9 0)
    where
      is : Tests (has_too_many rs) (Type129 rs (row129 rs))
      is = (λ e. (type-nth _).0 (too_many rs e), λ t. (too_many-at rs _ ((type-nth _).1 t)).0)

  abbrev ws : List ℕ
  ws = weights job

  -- The run gives ROOM, or ends in a network, whose links always join all its types.
  ran : length (sampled rs) ≤ 128 → Right 9 11 (answer_to (width job) (ended ws (outcome job)))
  ran h = go (outcome job) (runs-outcome job h)
    where
      differ : {run : Run} {p : ℕ} → settled run ≡ full p → ⊥
      differ e = let z : ◌≡◌ {A = ℕ} 0 1 = cc in omega arith

      go : (end : Outcome) → Runs job end → Right 9 11 (answer_to (width job) (ended ws end))
      go (full round) r = stops 9 11 (Err (Room round)) (omega arith) refl (omega arith) r
      go (settled run) r =
          passes 9 11 _ (omega arith) (λ p g. differ (phase_same r g))
          (passes 10 11 _ (omega arith) (λ p s. s.2 (network-joined ws s.0)) (rw (never_split-network ws run) (ends 11 _)))

  right : Right 1 11 (answer lent job)
  unfolding answer verdict
  right =
      follows 1 2 (width job) _ _ (omega arith) (omega arith) area
      (λ z. follows 2 8 (width job) _ _ (omega arith) (omega arith) checks
      (λ z. follows 8 9 (width job) _ _ (omega arith) (omega arith) types-right
      (λ z. ran (few-sampled rs (unrefused (has_too_many rs) (Err (Types (row129 rs))) (omega arith) z)))))

  -- ── What follows ──

  given-number : (a : Answer) → Given a → (1 ≤ number a) × (number a < 11)
  given-number (Ok used) g = absurd g
  given-number (Err Area) g = omega arith
  given-number (Err Head) g = omega arith
  given-number (Err Rows) g = omega arith
  given-number (Err Width) g = omega arith
  given-number (Err (Layout p)) g = omega arith
  given-number (Err (Weight p)) g = omega arith
  given-number (Err (State p)) g = omega arith
  given-number (Err (Types p)) g = omega arith
  given-number (Err (Room p)) g = omega arith
  given-number (Err Split) g = omega arith

  -- A refusal's condition holds with one place at most.
  one_place : (a : Answer) (q : ℕ) → Given a → Given (refusal (number a) q) → a ≡ refusal (number a) q
  one_place (Ok used) q g h = absurd g
  one_place (Err Area) q g h = refl
  one_place (Err Head) q g h = refl
  one_place (Err Rows) q g h = refl
  one_place (Err Width) q g h = refl
  one_place (Err (Layout p)) q g h = ap (λ (x : ℕ). Err (Layout x)) (wrong_field_lem job g ∙ sym (wrong_field_lem job h))
  one_place (Err (Weight p)) q g h = ap (λ (x : ℕ). Err (Weight x)) (first-same p q g h)
  one_place (Err (State p)) q g h = ap (λ (x : ℕ). Err (State x)) (first-same p q g h)
  one_place (Err (Types p)) q g h = ap (λ (x : ℕ). Err (Types x)) (sym (too_many-at rs p ((type-nth p).1 g)).1 ∙ (too_many-at rs q ((type-nth q).1 h)).1)
  one_place (Err (Room p)) q g h = ap (λ (x : ℕ). Err (Room x)) (let e = phase_same g h in cc)
  one_place (Err Split) q g h = refl

  -- No refusal is given exactly if no condition holds.
  pub accepted : (number (answer lent job) ≡ 0) ↔ ((a : Answer) → ¬ Condition lent job a)
  accepted = (
    λ z a g. right.earlier a (given-number a g).0 (given-number a g).1 (inl z) g,
    λ f. elim (ℕ_discrete (number (answer lent job)) 0) [ yes z ↦ z | no n ↦ absurd (f (answer lent job) (right.holds n)) ],
  )

  -- A refusal is the answer exactly if its condition holds and no earlier one does.
  refused_exactly : (a : Answer) → number a ≢ 0 →
      (answer lent job ≡ a) ↔ (Condition lent job a × ((b : Answer) → number b < number a → ¬ Condition lent job b))
  refused_exactly a n = (there, λ s. back s.0 s.1)
    where
      there : answer lent job ≡ a → Given a × ((b : Answer) → number b < number a → ¬ Given b)
      there e =
          let r : Right 1 11 a = rw e at right in
          (r.holds n, λ b h g. r.earlier b (given-number b g).0 (given-number b g).1 (inr h) g)

      -- The answer has no smaller number, no larger one, and so no other place.
      back : Given a → ((b : Answer) → number b < number a → ¬ Given b) → answer lent job ≡ a
      back g none = elim (dec_lt (number r) (number a)) [
        | yes h ↦ absurd (none r h (right.holds is-refusal))
        | no h ↦ elim (dec_lt (number a) (number r)) [
          | yes l ↦ absurd (right.earlier a (given-number a g).0 (given-number a g).1 (inr l) g)
          | no l ↦ same (omega arith)
        ]
      ]
        where
          r : Answer
          r = answer lent job

          is-refusal : number r ≢ 0
          is-refusal z = accepted.0 z a g

          same : number a ≡ number r → r ≡ a
          same e =
              let f : r ≡ refusal (number a) (place r) = rw e (refusal_is r is-refusal) in
              f ∙ sym (one_place a (place r) g (rw f at (right.holds is-refusal)))

  -- SPLIT is never the answer.
  pub never_split-answer : answer lent job ≢ (Err Split)
  never_split-answer e = let s = ((refused_exactly (Err Split) (λ z. omega arith)).0 e).0 in s.2 (network-joined ws s.0)

-- The order in which the refusals are tried is that of their numbers.
order_is : (a : Answer) → order a ≡ number a
order_is (Ok used) = refl
order_is (Err Area) = refl
order_is (Err Head) = refl
order_is (Err Rows) = refl
order_is (Err Width) = refl
order_is (Err (Layout place)) = refl
order_is (Err (Weight column)) = refl
order_is (Err (State place)) = refl
order_is (Err (Types row)) = refl
order_is (Err (Room round)) = refl
order_is (Err Split) = refl

pub given_in_turn : (lent : Lent) (job : Bytes) (a : Answer) → number a ≢ 0 → (answer lent job ≡ a) ↔ Due lent job a
given_in_turn lent job a n =
    let (there, back) = refused_exactly lent job a n in (
      λ e. let (given, none) = there e in (given, λ b h. none b (omega (arith, h, order_is a, order_is b))),
      λ t. back (t.0, λ b h. t.1 b (omega (arith, h, order_is a, order_is b))),
    )
