-- Laws of Triplet.antt: three types in order, how a triplet is met once, by its type c that is linked with both others, and which
-- triplets cannot matter.
use mathlib.Core.Path.{◌≡◌, refl, sym, ◌∙◌}
use mathlib.Core.Logic.{◌⊎◌, inl, inr, ◌≢◌}
use mathlib.Core.Bool.{Bool, true, false, false≢true}
use mathlib.Core.List.{List}
use Prim.Native.Nat.{ℕ, ◌+◌, ◌*◌, ◌≤◌, ◌<◌, min, max}
use native.Mathlib.Nat.{div-add-mod'}
use native.Mathlib.Decide.{ℕ_discrete, dec_lt}
use native.Mathlib.Omega.{arith}
use lib.Dec.{eqb}
use lib.ListN.{get_or}
use borrow.Author.Tests.{lt-ltb, le-ltb, eq-eqb, ne_eqb}
use Rattle.rules.specs.Median.{two_of}
use Rattle.distances.specs.Area.{cell_at}
use Rattle.links.specs.Marks.{marked}
use Rattle.triplets.specs.declared.Triplet.{Triplet}
use Rattle.triplets.specs.Triplet.{in_order, cost_floor}

-- A mark has no direction, and is of two types that differ.
module _ (area : List ℕ) (i j : ℕ) where
  pub marked_sym : marked area i j ≡ marked area j i
  marked_sym = elim (ℕ_discrete i j) [
    | yes e ↦ rw e
    | no other ↦ let e : 128 * max i j + min i j ≡ 128 * max j i + min j i = omega arith in rw (ne_eqb i j other, ne_eqb j i (λ e. other (sym e)), e)
  ]

  -- It stands in the line of the higher one.
  pub mark-read : i < j → marked area i j ≡ eqb (get_or area (128 * j + i) 0) 1
  mark-read h = let e : 128 * max i j + min i j ≡ 128 * j + i = omega arith in rw (ne_eqb i j (omega arith), e)

  pub marked_other : marked area i j ≡ true → i ≢ j
  marked_other t e = false≢true (rw (eq-eqb i j e) at t)

-- Where type c stands: below the other two, between them, or above.
module _ (c a b : ℕ) where
  pub in_order_low : c < a → in_order c a b ≡ record { u = c; v = a; w = b }
  in_order_low h = rw (lt-ltb c a h)

  pub in_order_mid : a ≤ c → c < b → in_order c a b ≡ record { u = a; v = c; w = b }
  in_order_mid h l = rw (le-ltb c a h, lt-ltb c b l)

  pub in_order_high : a ≤ c → b ≤ c → in_order c a b ≡ record { u = a; v = b; w = c }
  in_order_high h l = rw (le-ltb c a h, le-ltb c b l)

  -- What holds in each of these cases holds.
  in_order-all : (P : Triplet → Type 0) → (c < a → P (record { u = c; v = a; w = b })) →
      (a ≤ c → c < b → P (record { u = a; v = c; w = b })) → (a ≤ c → b ≤ c → P (record { u = a; v = b; w = c })) → P (in_order c a b)
  in_order-all P low mid high = elim (dec_lt c a) [
    | yes l ↦ rw (in_order_low l) (low l)
    | no m ↦ elim (dec_lt c b) [
      | yes l ↦ rw (in_order_mid (omega arith) l) (mid (omega arith) l)
      | no h ↦ rw (in_order_high (omega arith) (omega arith)) (high (omega arith) (omega arith))
    ]
  ]

  -- The fields rise, and are as small as the types.
  pub in_order-rising : a < b → c ≢ a → c ≢ b → ((in_order c a b).u < (in_order c a b).v) × ((in_order c a b).v < (in_order c a b).w)
  in_order-rising h na nb =
      in_order-all (λ t. (t.u < t.v) × (t.v < t.w)) (λ l. (l, h)) (λ l m. (omega arith, m)) (λ l m. (h, omega arith))

  pub in_order-below : (n : ℕ) → a < n → b < n → c < n →
      ((in_order c a b).u < n) × ((in_order c a b).v < n) × ((in_order c a b).w < n)
  in_order-below n ha hb hc =
      in_order-all (λ t. (t.u < n) × (t.v < n) × (t.w < n)) (λ l. (hc, ha, hb)) (λ l m. (ha, hc, hb)) (λ l m. (ha, hb, hc))

-- Two of three, whichever they are.
two_of_lem : (x y z : Bool) → ((x ≡ true) × (y ≡ true)) ⊎ ((x ≡ true) × (z ≡ true)) ⊎ ((y ≡ true) × (z ≡ true)) → two_of x y z ≡ true
two_of_lem x y z (inl (p, q)) = rw (p, q)
two_of_lem x true z (inr (inl (p, q))) = rw p
two_of_lem x false z (inr (inl (p, q))) = rw (p, q)
two_of_lem true y z (inr (inr (p, q))) = rw p
two_of_lem false y z (inr (inr (p, q))) = rw (p, q)

-- Two pairs of a triplet are linked.
abbrev pub linked_twice : List ℕ → Triplet → Bool
linked_twice area t = two_of (marked area t.u t.v) (marked area t.u t.w) (marked area t.v t.w)

-- Where c is linked with both others, two pairs of the triplet are.
pub in_order-two : (area : List ℕ) (c a b : ℕ) → marked area c a ≡ true → marked area c b ≡ true → linked_twice area (in_order c a b) ≡ true
in_order-two area c a b p q =
    let pa = marked_sym area a c ∙ p in
    let qb = marked_sym area b c ∙ q in
    in_order-all c a b (λ t. linked_twice area t ≡ true)
    (λ l. two_of_lem (marked area c a) (marked area c b) (marked area a b) (inl (p, q)))
    (λ l m. two_of_lem (marked area a c) (marked area a b) (marked area c b) (inr (inl (pa, q))))
    (λ l m. two_of_lem (marked area a b) (marked area a c) (marked area b c) (inr (inr (pa, qb))))

-- The one way in which a triplet is met.
pub record Seat (area : List ℕ) (u v w : ℕ) : Type 0 where
  pub c : ℕ
  pub a : ℕ
  pub b : ℕ
  pub rising : a < b
  pub linked-a : marked area c a ≡ true
  pub linked-b : marked area c b ≡ true
  pub once : (c < a) ⊎ (marked area a b ≡ false)
  pub ordered : in_order c a b ≡ record { u = u; v = v; w = w }
  pub inside : (n : ℕ) → w < n → (c < n) × (a < n) × (b < n)

module _ (area : List ℕ) (u v w : ℕ) (h : u < v) (l : v < w) where
  -- By which pairs are linked.
  seated : (x y z : Bool) → marked area u v ≡ x → marked area u w ≡ y → marked area v w ≡ z → two_of x y z ≡ true → Seat area u v w
  seated true true z p q r t = record {
    c = u;
    a = v;
    b = w;
    rising = l;
    linked-a = p;
    linked-b = q;
    once = inl h;
    ordered = in_order_low u v w h;
    inside = λ n g. (omega arith, omega arith, g);
  }
  seated true false true p q r t = record {
    c = v;
    a = u;
    b = w;
    rising = omega arith;
    linked-a = marked_sym area v u ∙ p;
    linked-b = r;
    once = inr q;
    ordered = in_order_mid v u w (omega arith) l;
    inside = λ n g. (omega arith, omega arith, g);
  }
  seated true false false p q r t = absurd (false≢true t)
  seated false true true p q r t = record {
    c = w;
    a = u;
    b = v;
    rising = h;
    linked-a = marked_sym area w u ∙ q;
    linked-b = marked_sym area w v ∙ r;
    once = inr p;
    ordered = in_order_high w u v (omega arith) (omega arith);
    inside = λ n g. (g, omega arith, omega arith);
  }
  seated false true false p q r t = absurd (false≢true t)
  seated false false z p q r t = absurd (false≢true t)

  pub seat : two_of (marked area u v) (marked area u w) (marked area v w) ≡ true → Seat area u v w
  seat t = seated (marked area u v) (marked area u w) (marked area v w) refl refl refl t

-- The sum of a triplet's distances.
abbrev pub sum_of : List ℕ → Triplet → ℕ
sum_of area t = cell_at area t.u t.v + cell_at area t.u t.w + cell_at area t.v t.w

-- One type lies between the other two, by their distances.
abbrev pub Between : ℕ → ℕ → ℕ → Type 0
Between uv uw vw = (uv + vw ≡ uw) ⊎ (uv + uw ≡ vw) ⊎ (uw + vw ≡ uv)

-- No cost is that small a number's half: what a triplet's least cost says of its distances.
pub least-cost-is : (area : List ℕ) (t : Triplet) →
    (2 * cost_floor area t ≤ sum_of area t) ⊎ Between (cell_at area t.u t.v) (cell_at area t.u t.w) (cell_at area t.v t.w)
least-cost-is area t =
    let uv = cell_at area t.u t.v in
    let uw = cell_at area t.u t.w in
    let vw = cell_at area t.v t.w in
    elim (ℕ_discrete (uv + vw) uw) [
      | yes v ↦ inr (inl v)
      | no nv ↦ elim (ℕ_discrete (uv + uw) vw) [
        | yes u ↦ inr (inr (inl u))
        | no nu ↦ elim (ℕ_discrete (uw + vw) uv) [
          | yes w ↦ inr (inr (inr w))
          | no nw ↦ inl (rw (ne_eqb (uv + vw) uw nv, ne_eqb (uv + uw) vw nu, ne_eqb (uw + vw) uv nw) (omega (arith, div-add-mod' (uv + uw + vw) 2)))
        ]
      ]
    ]
