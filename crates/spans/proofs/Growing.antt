-- The tree grows: what the order, the steps, `near` and `inside` say of it while it does, and what one type more makes of them.
use mathlib.Core.Path.{◌≡◌, refl, sym, ap, ◌∙◌}
use mathlib.Core.Logic.{◌≢◌, ◌⊎◌, inl, inr, ⊎_elim}
use mathlib.Core.Bool.{Bool, true, false, cond, false≢true}
use mathlib.Core.List.{List}
use Prim.Native.Nat.{ℕ, ◌+◌, ◌-◌, ◌≤◌, ◌<◌, min, max}
use native.Mathlib.Omega.{arith}
use native.Mathlib.Decide.{ℕ_discrete, dec_lt, map_dec}
use lib.Dec.{eqb}
use lib.ListN.{length, get_or, set}
use lib.Seq.{get_or-set_same, get_or-set_other}
use borrow.Author.Count.{below_more}
use borrow.Author.Tests.{eqb-true, eq-eqb, ne_eqb}
use Rattle.graph.specs.Below.{count, some}
use Rattle.graph.specs.Spans.{cell, spans}
use Rattle.graph.proofs.Below.{sum_ext, sum_plus, count-one, count_pos, some_true}
use Rattle.graph.proofs.Growing.{span_sym, span-step, span-by}
use Rattle.spans.specs.Tree.{between}
use Rattle.spans.specs.Growth.{longest}
use Rattle.spans.proofs.Stretch.{longest-none, longest-by, longest-more, longest-same}

pub between_sym : (area : List ℕ) (i j : ℕ) → between area i j ≡ between area j i
between_sym area i j = ap (λ p. get_or area p 0) (omega arith)

-- Type u is none of the first types of the order.
abbrev pub Out : (ℕ → ℕ) → ℕ → ℕ → Type 0
Out o size u = (i : ℕ) → i < size → o i ≢ u

-- The first types of the order are those inside, each once, and all others are outside.
pub record Listed (n size : ℕ) (o : ℕ → ℕ) (inside : List ℕ) : Type 0 where
  pub types : (k : ℕ) → k < size → o k < n
  pub once : (i k : ℕ) → i < k → k < size → o i ≢ o k
  pub joined : (k : ℕ) → k < size → get_or inside (o k) 0 ≡ 65535
  pub past : (u : ℕ) → n ≤ u → u < 128 → get_or inside u 0 ≡ 65535
  pub left : (u : ℕ) → u < n → (get_or inside u 0 ≡ 0) ⊎ ((k : ℕ) × (k < size) × (o k ≡ u))
  pub counted : size + count n (λ u. eqb (get_or inside u 0) 0) ≡ n

-- The spans of the tree's types are their stretches. A type outside is as near as the tree's nearest type to it, and no stretch up
-- to the last type is longer than the step out of the tree from its first type.
pub record Reached (n size : ℕ) (d : ℕ → ℕ → ℕ) (o w : ℕ → ℕ) (near : List ℕ) : Type 0 where
  pub spanned : (i k : ℕ) → i < k → k < size → cell (spans n d) (o i) (o k) ≡ longest w i k
  pub least : (u : ℕ) → u < n → Out o size u → (i : ℕ) → i < size → get_or near u 0 ≤ d (o i) u
  pub led : (u : ℕ) → u < n → Out o size u → (65535 ≤ get_or near u 0) ⊎ ((i : ℕ) × (i < size) × (get_or near u 0 ≡ d (o i) u))
  pub held : (u : ℕ) → u < n → Out o size u → (i : ℕ) → i < size → longest w i (size - 1) ≤ d (o i) u

-- What is outside by the list is outside by the order, and back.
module _ {n size : ℕ} {o : ℕ → ℕ} {inside : List ℕ} (l : Listed n size o inside) where
  pub out_of : (u : ℕ) → get_or inside u 0 ≡ 0 → Out o size u
  out_of u e i h s = let z : get_or inside u 0 ≡ 65535 = rw (sym s) (l.joined i h) in omega arith

  pub outside : (u : ℕ) → u < n → Out o size u → get_or inside u 0 ≡ 0
  outside u h f = ⊎_elim (λ e. e) (λ (k, hk, e). absurd (f k hk e)) (l.left u h)

  -- While types are left, one is outside; and then none.
  pub some_left : size < n → (u : ℕ) × (u < n) × (get_or inside u 0 ≡ 0)
  some_left h =
      let (u, hu, e) = (count_pos n (λ x. eqb (get_or inside x 0) 0)).0 (omega (arith, l.counted)) in
      (u, hu, eqb-true _ 0 e)

  pub none_left : n ≤ size → (u : ℕ) → u < n → (k : ℕ) × (k < size) × (o k ≡ u)
  none_left h u hu =
      ⊎_elim (λ e. absurd (omega (arith, l.counted, (count_pos n (λ x. eqb (get_or inside x 0) 0)).1 (u, hu, eq-eqb _ 0 e)))) (λ k. k)
      (l.left u hu)

-- One fewer passes a test where one that passed does no more.
one_fewer : (n : ℕ) (p q : ℕ → Bool) (v : ℕ) → v < n → p v ≡ true → q v ≡ false → ((u : ℕ) → u ≢ v → q u ≡ p u) →
    count n q + 1 ≡ count n p
one_fewer n p q v h t f same =
    let is : (u : ℕ) → Bool = λ u. eqb u v in
    let one = count-one n is v h (eq-eqb v v refl) (λ u l e. eqb-true u v e) in
    let each : (u : ℕ) → u < n → cond {A = ℕ} (q u) 1 0 + cond (is u) 1 0 ≡ cond (p u) 1 0 =
    λ u l. elim (ℕ_discrete u v) [
      | yes e ↦ rw (e, t, f, eq-eqb v v refl)
      | no ne ↦ rw (ne_eqb u v ne, same u ne) (omega arith)
    ]
    in
    omega (arith, one, sum_plus n (λ u. cond (q u) 1 0) (λ u. cond (is u) 1 0), sum_ext n _ _ each)

-- Type v, outside, joins the order.
module _ {n size v : ℕ} {o o' : ℕ → ℕ} {inside : List ℕ} (long : length inside ≡ 128) (few : n ≤ 128) (hv : v < n)
    (l : Listed n size o inside) (free : get_or inside v 0 ≡ 0) (same : (k : ℕ) → k < size → o' k ≡ o k) (here : o' size ≡ v) where
  abbrev inside' : List ℕ
  inside' = set inside v 65535

  this : get_or inside' v 0 ≡ 65535
  this = get_or-set_same inside v 65535 0 (omega arith)

  other : (u : ℕ) → u ≢ v → get_or inside' u 0 ≡ get_or inside u 0
  other u ne = get_or-set_other inside v u 65535 0 ne

  pub listed_more : Listed n (size + 1) o' inside'
  listed_more = record {
    types = below_more _ size (λ k h. rw (same k h) (l.types k h)) (rw here hv);
    once = λ i k h b. below_more (λ x. i < x → o' i ≢ o' x) size
        (λ x hx g. rw (same i (omega arith), same x hx) (l.once i x g hx))
        (λ g. rw (same i g, here) (out_of l v free i g))
        k b h;
    joined = below_more _ size
        (λ k h. rw (same k h) (other (o k) (out_of l v free k h) ∙ l.joined k h))
        (rw here this);
    past = λ u h b. other u (omega arith) ∙ l.past u h b;
    left = λ u h. elim (ℕ_discrete u v) [
      | yes e ↦ inr (size, omega arith, here ∙ sym e)
      | no ne ↦ ⊎_elim (λ e. inl (other u ne ∙ e)) (λ (k, hk, e). inr (k, omega arith, same k hk ∙ e)) (l.left u h)
    ];
    counted =
        let fewer = one_fewer n (λ u. eqb (get_or inside u 0) 0) (λ u. eqb (get_or inside' u 0) 0) v hv (eq-eqb _ 0 free)
        (ne_eqb (get_or inside' v 0) 0 (λ e. omega (arith, this))) (λ u ne. rw (other u ne)) in
        omega (arith, l.counted, fewer);
  }

-- A step more: the stretches up to the types before are as they were, and those up to the next type.
module _ {size step : ℕ} {w w' : ℕ → ℕ} (taken : (k : ℕ) → k < size → w' k ≡ w k) (by : w' size ≡ step) where
  pub stretch-kept : (i k : ℕ) → k < size → longest w' i k ≡ longest w i k
  stretch-kept i k h = longest-same w' w i k (λ x l. taken x (omega arith))

  pub stretch-more : (i : ℕ) → i < size → longest w' i size ≡ max (longest w i (size - 1)) step
  stretch-more i h =
      let e : size - 1 + 1 ≡ size = omega arith in
      omega (arith, by, rw e at (longest-more w' i (size - 1) (omega arith)), stretch-kept i (size - 1) (omega arith))

-- The first types of the order.
abbrev In : (ℕ → ℕ) → ℕ → ℕ → Type 0
In o size u = (k : ℕ) × (k < size) × (o k ≡ u)

in_or_out : (o : ℕ → ℕ) (size u : ℕ) → Dec (In o size u)
in_or_out o size u =
    let f = some_true size (λ k. eqb (o k) u) in
    map_dec (λ e. let (k, h, t) = f.0 e in (k, h, eqb-true (o k) u t)) (λ (k, h, e). f.1 (k, h, eq-eqb (o k) u e))
    (true? (some size (λ k. eqb (o k) u)))
  where
    true? : (t : Bool) → Dec (t ≡ true)
    true? true = yes refl
    true? false = no (λ e. absurd (false≢true e))

-- Type v, nearest of those outside, is reached by a step.
module _ {n size v step : ℕ} {d : ℕ → ℕ → ℕ} {o w : ℕ → ℕ} {near : List ℕ} (back : (a b : ℕ) → d a b ≡ d b a)
    (small : (a b : ℕ) → d a b ≤ 65535) (types : (k : ℕ) → k < size → o k < n) (once : (i k : ℕ) → i < k → k < size → o i ≢ o k)
    (r : Reached n size d o w near) (hv : v < n) (free : Out o size v)
    (at : 0 < size → step ≡ get_or near v 0) (nearest : (u : ℕ) → u < n → Out o size u → step ≤ get_or near u 0) where
  -- It is that far from a type of the tree, and no step out of the tree is shorter.
  leader : 0 < size → (j : ℕ) × (j < size) × (d (o j) v ≡ step)
  leader h =
      let last = r.least v hv free (size - 1) (omega arith) in
      ⊎_elim
      (λ l. (size - 1, omega arith, omega (arith, small (o (size - 1)) v, at h)))
      (λ (j, hj, e). (j, hj, sym e ∙ sym (at h)))
      (r.led v hv free)

  apart : (a b : ℕ) → a < n → b < n → In o size a → ¬ In o size b → step ≤ d a b
  apart a b ha hb (k, h, e) f =
      let g : Out o size b = λ i hi s. f (i, hi, s) in
      rw (sym e) (omega (arith, nearest b hb g, r.least b hb g k h))

  -- Its span with a type of the tree is the longer of that type's stretch and the step.
  reach : (i : ℕ) → i < size → cell (spans n d) (o i) v ≡ max (longest w i (size - 1)) step
  reach i h =
      let (j, hj, e) = leader (omega arith) in
      let no-in : ¬ In o size v = λ (k, hk, s). free k hk s in
      let far : (a b : ℕ) → a < n → b < n → In o size a → ¬ In o size b → d (o j) v ≤ d a b = rw e apart in
      let within = r.held v hv free j hj in
      let by = span-by n d back (in_or_out o size) (types j hj) hv (j, hj, refl) no-in far (o i) (types i h) (i, h, refl) in
      elim (ℕ_discrete i j) [
        | yes s ↦ let step = span-step n d back (in_or_out o size) (types j hj) hv (j, hj, refl) no-in far in rw s (omega arith)
        | no ne ↦ elim (dec_lt i j) [
          | yes l ↦ omega (arith, by (once i j l hj), r.spanned i j l hj, longest-by w i j (size - 1) (omega arith) (omega arith))
          | no f ↦ let l : j < i = omega arith in
              let away = once j i l h in
              let other = span_sym n d back (o j) (o i) (types j hj) (types i h) away in
              omega (arith, by (λ s. away (sym s)), other, r.spanned j i l h, longest-by w j i (size - 1) (omega arith) (omega arith))
        ]
      ]

  module _ {o' w' : ℕ → ℕ} (same : (k : ℕ) → k < size → o' k ≡ o k) (here : o' size ≡ v)
      (taken : (k : ℕ) → k < size → w' k ≡ w k) (by : w' size ≡ step) where
    -- What is outside now was so before, and is not v.
    was_out : (u : ℕ) → Out o' (size + 1) u → Out o size u × (u ≢ v)
    was_out u f = (λ i h s. f i (omega arith) (same i h ∙ s), λ e. f size (omega arith) (here ∙ sym e))

    pub reached-more : {near' : List ℕ} → ((u : ℕ) → u < n → u ≢ v → get_or near' u 0 ≡ min (d v u) (get_or near u 0)) →
        Reached n (size + 1) d o' w' near'
    reached-more lowered = record {
      spanned = λ i k h b. below_more (λ x. i < x → cell (spans n d) (o' i) (o' x) ≡ longest w' i x) size
          (λ x hx g. rw (same i (omega arith), same x hx, stretch-kept taken by i x hx) (r.spanned i x g hx))
          (λ g. rw (same i g, here) (reach i g ∙ sym (stretch-more taken by i g)))
          k b h;
      least = λ u h f.
          let (out, ne) = was_out u f in
          let l = lowered u h ne in
          below_more _ size (λ i hi. rw (same i hi) (omega (arith, r.least u h out i hi))) (rw here (omega arith));
      led = λ u h f.
          let (out, ne) = was_out u f in
          let l = lowered u h ne in
          elim (dec_lt (d v u) (get_or near u 0)) [
            | yes m ↦ inr (size, omega arith, rw here (omega arith))
            | no m ↦ ⊎_elim (λ t. inl (omega arith)) (λ (i, hi, e). inr (i, omega arith, rw (same i hi) (omega arith))) (r.led u h out)
          ];
      held = λ u h f.
          let (out, ne) = was_out u f in
          let e : size + 1 - 1 ≡ size = omega arith in
          rw e (below_more _ size
          (λ i hi. rw (same i hi)
          (omega (arith, stretch-more taken by i hi, r.held u h out i hi, nearest u h out, r.least u h out i hi)))
          (omega (arith, longest-none w' size size (omega arith))));
    }
