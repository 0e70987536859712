-- Links: those that the test finds are the feasible ones, they ascend by lower, then higher number, they are few enough for the
-- link table, and they always join all types.
use mathlib.Core.Path.{◌≡◌, refl, sym, ap, ap₂, ◌∙◌}
use mathlib.Core.Logic.{◌↔◌, ◌≢◌, ◌⊎◌, inl, inr, ⊎_elim}
use mathlib.Core.Bool.{Bool, true, false, cond, not, ◌&&◌, ◌||◌, and-eq-true_iff}
use mathlib.Core.List.{List}
use Prim.Native.Nat.{ℕ, ◌+◌, ◌*◌, ◌-◌, ◌≤◌, ◌<◌}
use native.Mathlib.Nat.{mul-le-mul}
use native.Mathlib.Omega.{arith}
use native.Mathlib.Decide.{ℕ_discrete, dec_lt}
use lib.Dec.{ltb, eqb}
use lib.ListN.{length}
use borrow.Author.Tests.{eqb-true, eq-eqb, ne_eqb, ltb-true, lt-ltb}
use Rattle.graph.specs.Below.{gather, only, sum, count, every}
use Rattle.graph.specs.Walk.{Walk, stop}
use Rattle.graph.specs.Feasible.{Short, Chain}
use Rattle.graph.specs.Spans.{cell, spans, feasible}
use Rattle.graph.proofs.Below.{
  is_false,
  same_tests,
  or_true,
  In,
  in_gather,
  in_only,
  in_at,
  in_place,
  some_true,
  every_true,
  sum_ext,
  sum_le,
  sum_bound,
  sum_plus,
  sum_swap,
  count-not,
  count-one,
  count_ext,
  count_zero,
  sum_one,
  passing-gather,
  passing_kept,
  length-gather,
  length-kept,
}
use Rattle.graph.proofs.Walks.{single, reverse, expand, relax}
use Rattle.graph.proofs.Spans.{span_self, chain-spans, feasible-is}
use Rattle.graph.proofs.Theorems.{links-join}
use Rattle.rules.specs.Job.{Row}
use Rattle.rules.specs.Distance.{apart}
use Rattle.rules.specs.Links.{FeasibleLink, links_at, link_at, Between, Before, names, linked, link_count, unlinked, join_all}
use Rattle.rules.specs.declared.Link.{Link}
use Rattle.rules.proofs.Distance.{apart_sym}
use Rattle.rules.proofs.Ascending.{Ascending, ascending-only, ascending-gather, ascending-at}

pub names-end : (l : Link) (i : ℕ) → (names l i ≡ true) ↔ ((l.low ≡ i) ⊎ (l.high ≡ i))
names-end l i =
    let o = or_true (eqb l.low i) (eqb l.high i) in (
      λ e. ⊎_elim (λ p. inl (eqb-true _ _ p)) (λ p. inr (eqb-true _ _ p)) (o.0 e),
      λ s. o.1 (⊎_elim (λ p. inl (eq-eqb _ _ p)) (λ p. inr (eq-eqb _ _ p)) s),
    )

names-both : (l : Link) (i j : ℕ) → i ≢ j → (names l i && names l j ≡ true) ↔ Between l i j
names-both l i j ne =
    let a = and-eq-true_iff (names l i) (names l j) in
    let at_i = names-end l i in
    let at_j = names-end l j in (
      λ e. ⊎_elim
          (λ p. ⊎_elim (λ q. absurd (ne (sym p ∙ q))) (λ q. inl (p, q)) (at_j.0 (a.0 e).1))
          (λ p. ⊎_elim (λ q. inr (q, p)) (λ q. absurd (ne (sym p ∙ q))) (at_j.0 (a.0 e).1)) (at_i.0 (a.0 e).0),
      ⊎_elim (λ s. a.1 (at_i.1 (inl s.0), at_j.1 (inr s.1))) (λ s. a.1 (at_i.1 (inr s.1), at_j.1 (inl s.0))),
    )

pub in_link : (ls : List Link) (k : ℕ) → k < length ls → In (link_at ls k) ls
in_link ls k h = in_at ls k (record { low = 0; high = 0; length = 0 }) h

-- Two different types are linked where a link has them for its ends.
pub linked_in : (ls : List Link) (i j : ℕ) → i ≢ j → (linked ls i j ≡ true) ↔ ((l : Link) × In l ls × Between l i j)
linked_in ls i j ne = (
  λ e. let s = (some_true (length ls) _).0 e in (link_at ls s.0, in_link ls s.0 s.1, (names-both (link_at ls s.0) i j ne).0 s.2),
  λ s. let p = in_place s.0 ls s.1 in
      (some_true (length ls) _).1 (p.0, p.1, (names-both (link_at ls p.0) i j ne).1 (rw p.2 s.2)),
)

-- Two tests that never pass together, nor with a third: at most one passes, and only where the third does not.
at_most : (p q r : Bool) → (p ≡ true → q ≡ true → ⊥) → (p ≡ true → r ≡ false) → (q ≡ true → r ≡ false) → cond p 1 0 + cond q 1 0 ≤ cond (not r) 1 0
at_most true true r a b c = absurd (a refl refl)
at_most true false r a b c = rw (b refl) (omega arith)
at_most false true r a b c = rw (c refl) (omega arith)
at_most false false r a b c = omega arith

-- Pairs i < j of numbers below n are at most half of n * (n - 1): each with its mirror image, n - 1 of them begin with i.
pairs_few : (n : ℕ) (t : ℕ → ℕ → Bool) → ((i j : ℕ) → t i j ≡ true → i < j) →
    sum n (λ i. count n (t i)) + sum n (λ i. count n (t i)) ≤ n * (n - 1)
pairs_few n t lt = omega (arith, swapped, sum_plus n (λ i. count n (t i)) (λ i. count n (λ j. t j i)), sum_bound n (n - 1) _ each)
  where
    swapped : sum n (λ i. count n (t i)) ≡ sum n (λ i. count n (λ j. t j i))
    swapped = sum_swap n n (λ i j. cond (t i j) 1 0)

    pair : (i j : ℕ) → cond (t i j) 1 0 + cond (t j i) 1 0 ≤ cond (not (eqb i j)) 1 0
    pair i j = at_most (t i j) (t j i) (eqb i j) (λ p q. omega (arith, lt i j p, lt j i q))
        (λ p. ne_eqb i j (omega (arith, lt i j p))) (λ q. ne_eqb i j (omega (arith, lt j i q)))

    each : (i : ℕ) → i < n → count n (t i) + count n (λ j. t j i) ≤ n - 1
    each i h = omega (
      arith,
      sum_plus n (λ j. cond (t i j) 1 0) (λ j. cond (t j i) 1 0),
      sum_le n _ _ (λ j l. pair i j),
      count-not n (eqb i),
      count-one n (eqb i) i h (eq-eqb i i refl) (λ j l e. sym (eqb-true i j e)),
    )

-- A link between types of rs, lower number first, of their length and feasible.
pub record LinkOf (ws : List ℕ) (e : ℕ) (rs : List Row) (l : Link) : Type 0 where
  pub rising : l.low < l.high
  pub within : l.high < length rs
  pub long : l.length ≡ apart ws rs l.low l.high
  pub feasible-link : FeasibleLink ws e rs l.low l.high

module _ (ws : List ℕ) (e : ℕ) (rs : List Row) where
  abbrev n : ℕ
  n = length rs

  abbrev d : ℕ → ℕ → ℕ
  d = apart ws rs

  abbrev link_of : ℕ → ℕ → Link
  link_of i j = record { low = i; high = j; length = d i j }

  abbrev test : ℕ → ℕ → Bool
  test i j = ltb i j && feasible d (spans n d) e i j

  -- The chain turned round.
  pub feasible_sym : (i j : ℕ) → FeasibleLink ws e rs i j → FeasibleLink ws e rs j i
  feasible_sym i j f c = f (rw (apart_sym ws rs i j) (reverse turn c))
    where
      turn : (a b : ℕ) → Short n d e (d j i) a b → Short n d e (d j i) b a
      turn a b s = record { from = s.to; to = s.from; below = rw (apart_sym ws rs b a) s.below }

  test-is : (i j : ℕ) → i < n → j < n → (test i j ≡ true) ↔ ((i < j) × FeasibleLink ws e rs i j)
  test-is i j hi hj =
      let a = and-eq-true_iff (ltb i j) _ in (
        λ t. let l = ltb-true i j (a.0 t).0 in (l, (feasible-is n d e i j hi hj (omega arith)).0 (a.0 t).1),
        λ s. a.1 (lt-ltb i j s.0, (feasible-is n d e i j hi hj (omega arith)).1 s.1),
      )

  -- The links of type i with higher types.
  abbrev up : ℕ → List Link
  up i = gather n (λ j. only (test i j) (link_of i j))

  in_up : (i : ℕ) (l : Link) → In l (up i) ↔ ((j : ℕ) × (j < n) × (test i j ≡ true) × (l ≡ link_of i j))
  in_up i l = (
    λ h. let s = (in_gather l n _).0 h in let o = (in_only l (test i s.0) _).0 s.2 in (s.0, s.1, o.0, o.1),
    λ s. (in_gather l n _).1 (s.0, s.1, (in_only l (test i s.0) _).1 (s.2, s.3)),
  )

  -- The links are the feasible ones.
  pub in_links : (l : Link) → In l (links_at ws e rs) ↔ LinkOf ws e rs l
  unfolding links_at
  in_links l = (
    λ h. let s = (in_gather l n up).0 h in
        let r = (in_up s.0 l).0 s.2 in
        let t = (test-is s.0 r.0 s.1 r.1).0 r.2 in
        rw r.3 (record { rising = t.0; within = r.1; long = refl; feasible-link = t.1 }),
    λ f. let lies : l.low < n = omega (arith, f.rising, f.within) in
        (in_gather l n up).1 (
          l.low,
          lies,
          (in_up l.low l).1 (
            l.high,
            f.within,
            (test-is l.low l.high lies f.within).1 (f.rising, f.feasible-link),
            λ i. record { low = l.low; high = l.high; length = f.long i },
          ),
        ),
  )

  pub links-at : (k : ℕ) → k < length (links_at ws e rs) → LinkOf ws e rs (link_at (links_at ws e rs) k)
  links-at k h = (in_links _).0 (in_link (links_at ws e rs) k h)

  -- They ascend by lower, then higher number.
  pub links_ascend : Ascending Before (links_at ws e rs)
  unfolding links_at
  links_ascend = ascending-gather Before n up
      (λ i h. ascending-gather Before n _ (λ j l. ascending-only Before (test i j) (link_of i j))
      (λ j k m l x y p q.
      let a = ((in_only x (test i j) (link_of i j)).0 p).1 in
      let b = ((in_only y (test i k) (link_of i k)).0 q).1 in
      rw (a, b) (inr (refl, m))))
      (λ i j h l x y p q. rw (((in_up i x).0 p).3, ((in_up j y).0 q).3) (inl h))

  pub links-order : (j k : ℕ) → j < k → k < length (links_at ws e rs) → Before (link_at (links_at ws e rs) j) (link_at (links_at ws e rs) k)
  links-order = ascending-at Before (links_at ws e rs) _ links_ascend

  pub links-few : length (links_at ws e rs) + length (links_at ws e rs) ≤ n * (n - 1)
  unfolding links_at
  links-few = rw (length-gather n up, sum_ext n (λ i. length (up i)) (λ i. count n (test i)) (λ i h. length-kept n (test i) (link_of i)))
      (pairs_few n test (λ i j t. ltb-true i j ((and-eq-true_iff (ltb i j) _).0 t).0))

  -- 128 types have at most 8,128 links.
  pub links_fit : n ≤ 128 → length (links_at ws e rs) ≤ 8128
  links_fit h = let m : n - 1 ≤ 127 = omega arith in omega (arith, links-few, mul-le-mul h m)

  pub linked-is : (i j : ℕ) → i ≢ j → (linked (links_at ws e rs) i j ≡ true) ↔ ((i < n) × (j < n) × FeasibleLink ws e rs i j)
  linked-is i j ne =
      let m = linked_in (links_at ws e rs) i j ne in (
        λ t. let s = m.0 t in ends s.0 ((in_links s.0).0 s.1) s.2,
        λ s. elim (dec_lt i j) [
          | yes h ↦ m.1 (link_of i j, (in_links _).1 (record { rising = h; within = s.1; long = refl; feasible-link = s.2 }), inl (refl, refl))
          | no f ↦ m.1 (
            link_of j i,
            (in_links _).1 (record { rising = omega arith; within = s.0; long = refl; feasible-link = feasible_sym i j s.2 }),
            inr (refl, refl),
          )
        ],
      )
    where
      ends : (l : Link) → LinkOf ws e rs l → Between l i j → (i < n) × (j < n) × FeasibleLink ws e rs i j
      ends l f (inl s) = (omega (arith, f.rising, f.within), omega (arith, f.within), rw (s.0, s.1) at f.feasible-link)
      ends l f (inr s) =
          (omega (arith, f.within), omega (arith, f.rising, f.within), feasible_sym j i (rw (s.0, s.1) at f.feasible-link))

  -- A type's links are as many as the other types that it is linked with: a link with x as its lower end is one of `test x j`, and
  -- one with x as its higher end is one of `test j x`.
  ends-apart : (t a b : Bool) → (t ≡ true → a ≡ true → b ≡ true → ⊥) → cond (t && (a || b)) 1 0 ≡ cond (a && t) 1 0 + cond (b && t) 1 0
  ends-apart true true true f = absurd (f refl refl refl)
  ends-apart true true false f = omega arith
  ends-apart true false true f = omega arith
  ends-apart true false false f = omega arith
  ends-apart false true true f = omega arith
  ends-apart false true false f = omega arith
  ends-apart false false true f = omega arith
  ends-apart false false false f = omega arith

  not_down : (i j : ℕ) → j ≤ i → test i j ≡ false
  not_down i j h = rw (is_false (ltb i j) (λ t. omega (arith, ltb-true i j t)))

  module _ (x : ℕ) (hx : x < n) where
    lower : sum n (λ i. count n (λ j. eqb i x && test i j)) ≡ count n (test x)
    lower =
        sum_one n (λ i. count n (λ j. eqb i x && test i j)) x hx (λ i h ne. count_zero n (λ j. eqb i x && test i j) (λ j l. rw (ne_eqb i x ne)))
        ∙ count_ext n (λ j. eqb x x && test x j) (test x) (λ j l. rw (eq-eqb x x refl))

    higher : sum n (λ i. count n (λ j. eqb j x && test i j)) ≡ count n (λ i. test i x)
    higher = sum_ext n _ _ (λ i h.
        sum_one n (λ j. cond (eqb j x && test i j) 1 0) x hx (λ j l ne. rw (ne_eqb j x ne)) ∙ rw (eq-eqb x x refl))

    named : (i j : ℕ) → cond (test i j && names (link_of i j) x) 1 0 ≡ cond (eqb i x && test i j) 1 0 + cond (eqb j x && test i j) 1 0
    named i j = ends-apart (test i j) (eqb i x) (eqb j x) (λ t a b.
        omega (arith, ltb-true i j ((and-eq-true_iff (ltb i j) _).0 t).0, eqb-true i x a, eqb-true j x b))

    one_way : (j : ℕ) → j < n → cond (test x j) 1 0 + cond (test j x) 1 0 ≡ cond (not (eqb x j) && linked (links_at ws e rs) x j) 1 0
    one_way j h =
        let l = linked (links_at ws e rs) x j in
        elim (ℕ_discrete x j) [
          | yes p ↦ rw (not_down x j (omega arith), not_down j x (omega arith), eq-eqb x j p)
          | no ne ↦ let is = linked-is x j ne in elim (dec_lt x j) [
            | yes up ↦ let t = test-is x j hx h in
                let same = same_tests (test x j) l (λ p. is.1 (hx, h, (t.0 p).1)) (λ p. t.1 (up, (is.0 p).2)) in
                rw (not_down j x (omega arith), ne_eqb x j ne, same) (omega arith)
            | no f ↦ let t = test-is j x h hx in
                let same = same_tests (test j x) l (λ p. is.1 (hx, h, feasible_sym j x (t.0 p).1)) (λ p. t.1 (omega arith, feasible_sym x j (is.0 p).2)) in
                rw (not_down x j (omega arith), ne_eqb x j ne, same) (omega arith)
          ]
        ]

    pub link-count : link_count (links_at ws e rs) x ≡ count n (λ j. not (eqb x j) && linked (links_at ws e rs) x j)
    unfolding links_at
    link-count =
        passing-gather (λ l. names l x) _ n up
        ∙ sum_ext n _ _ (λ i h. passing_kept (λ l. names l x) _ n (test i) (link_of i) ∙ sum_ext n _ _ (λ j l. named i j) ∙ sum_plus n _ _)
        ∙ sum_plus n _ _ ∙ ap₂ (λ a b. a + b) lower higher ∙ sym (sum_plus n _ _) ∙ sum_ext n _ _ one_way

-- A step along a link.
abbrev pub Along : List Link → ℕ → ℕ → Type 0
Along ls a b = linked ls a b ≡ true

unlinked_zero : (ls : List Link) (a b : ℕ) → (unlinked ls a b ≡ 0) ↔ ((a ≡ b) ⊎ Along ls a b)
unlinked_zero ls a b =
    let o = or_true (eqb a b) (linked ls a b) in (
      λ e. ⊎_elim (λ p. inl (eqb-true a b p)) inr (o.0 (passes _ e)),
      λ s. ap (λ t. cond t 0 1) (o.1 (⊎_elim (λ p. inl (eq-eqb a b p)) inr s)),
    )
  where
    passes : (t : Bool) → ◌≡◌ {A = ℕ} (cond t 0 1) 0 → t ≡ true
    passes true e = refl
    passes false e = absurd (omega arith)

module _ (n : ℕ) (ls : List Link) (inside : (k : ℕ) → k < length ls → ((link_at ls k).low < n) × ((link_at ls k).high < n)) where
  named-below : (k : ℕ) → k < length ls → (a : ℕ) → names (link_at ls k) a ≡ true → a < n
  named-below k h a e =
      ⊎_elim (λ p. rw p at (inside k h).0) (λ p. rw p at (inside k h).1) ((names-end (link_at ls k) a).0 e)

  walk-chain : {u v : ℕ} → Walk (Along ls) u v → Chain n (unlinked ls) 0 1 u v
  walk-chain = relax along
    where
      along : (a b : ℕ) → Along ls a b → Short n (unlinked ls) 0 1 a b
      along a b e =
          let s = (some_true (length ls) _).0 e in
          let both = (and-eq-true_iff (names (link_at ls s.0) a) (names (link_at ls s.0) b)).0 s.2 in
          record {
            from = named-below s.0 s.1 a both.0;
            to = named-below s.0 s.1 b both.1;
            below = omega (arith, (unlinked_zero ls a b).1 (inr e));
          }

  chain-walk : {u v : ℕ} → Chain n (unlinked ls) 0 1 u v → Walk (Along ls) u v
  chain-walk = expand (λ a b s. ⊎_elim stop single ((unlinked_zero ls a b).0 (omega (arith, s.below))))

  abbrev span : ℕ → ℕ → ℕ
  span u v = cell (spans n (unlinked ls)) u v

  span-walk : (u v : ℕ) → u < n → v < n → (span u v ≡ 0) ↔ Walk (Along ls) u v
  span-walk u v hu hv = elim (ℕ_discrete u v) [
    | yes p ↦ (λ z. stop p, λ w. rw p (span_self n (unlinked ls) v hv ((unlinked_zero ls v v).1 (inl refl))))
    | no ne ↦ let c = chain-spans n (unlinked ls) 0 1 u v hu hv ne in (λ z. chain-walk (c.1 (omega arith)), λ w. omega (arith, c.0 (walk-chain w)))
  ]

  -- The test says true exactly if a walk along links leads between any two types.
  pub join-all : (join_all n ls ≡ true) ↔ ((u v : ℕ) → u < n → v < n → Walk (Along ls) u v)
  unfolding join_all
  join-all = (
    λ e u v hu hv. (span-walk u v hu hv).0 (eqb-true (span u v) 0 ((every_true n (λ b. eqb (span u b) 0)).0
        ((every_true n (λ a. every n (λ b. eqb (span a b) 0))).0 e u hu) v hv)),
    λ w. (every_true n _).1 (λ u hu. (every_true n _).1 (λ v hv. eq-eqb (span u v) 0 ((span-walk u v hu hv).1 (w u v hu hv)))),
  )

-- Links at epsilon join all types, whatever the rows, the weights and epsilon are.
pub never_split : (ws : List ℕ) (e : ℕ) (rs : List Row) → join_all (length rs) (links_at ws e rs) ≡ true
never_split ws e rs =
    let n = length rs in
    let d = apart ws rs in
    (join-all n (links_at ws e rs) (λ k h. let f = links-at ws e rs k h in (omega (arith, f.rising, f.within), f.within))).1
    (λ u v hu hv. relax (λ a b s. (linked-is ws e rs a b s.differ).1 (s.from, s.to, s.feasible))
    (links-join n d (apart_sym ws rs) e u v hu hv))
