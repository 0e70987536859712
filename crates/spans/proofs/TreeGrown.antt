-- The whole of what the growing loop holds, at its start, with one type more, and at its end.
use mathlib.Core.Path.{◌≡◌, refl, sym, ap, ◌∙◌}
use mathlib.Core.Logic.{◌≢◌, inl, ⊎_elim}
use mathlib.Core.List.{List}
use Prim.Native.Nat.{ℕ, zero, suc, ◌+◌, ◌*◌, ◌≤◌, ◌<◌, min, max}
use native.Mathlib.Nat.{not-suc-le-zero}
use native.Mathlib.Omega.{arith}
use native.Mathlib.Decide.{ℕ_discrete, dec_lt}
use lib.Dec.{eqb}
use lib.ListN.{length, get_or, set, length-set, replicate, get_or-replicate}
use lib.Seq.{get_or-set_same, get_or-set_other}
use borrow.Author.Tests.{eq-eqb}
use Rattle.graph.specs.Spans.{grid, passing, spans_by, spans}
use Rattle.graph.proofs.Below.{table_ext, count-all}
use Rattle.graph.proofs.Growing.{span_sym}
use Rattle.distances.specs.Area.{cell_at, CellsWritten, Line}
use Rattle.distances.proofs.Area.{cell-kept}
use Rattle.spans.specs.Tree.{between, Mirror, opposite, Spanned}
use Rattle.spans.specs.Growth.{Full, Filled, nearer, Least, IsOutside, NearestFound, TreeGrown, Completed}
use Rattle.spans.proofs.Growing.{between_sym, Out, Listed, Reached, out_of, outside, some_left, none_left, listed_more, reached-more}
use Rattle.spans.proofs.Lines.{Lines, lines_more}

abbrev pub at : List ℕ → ℕ → ℕ
at xs k = get_or xs k 0

-- The next type to join: one outside, nearest to the tree if that has types.
pub record Next (n size v step : ℕ) (near inside order : List ℕ) : Type 0 where
  pub type : v < n
  pub free : at inside v ≡ 0
  pub taken : 0 < size → step ≡ at near v
  pub nearest : (u : ℕ) → u < n → Out (at order) size u → step ≤ at near u

pub record Growing (n size v step : ℕ) (area spans order steps near inside reach : List ℕ) : Type 0 where
  pub order_size : length order ≡ 128
  pub steps_size : length steps ≡ 128
  pub near_size : length near ≡ 128
  pub inside-size : length inside ≡ 128
  pub reach-size : length reach ≡ 128
  pub listed : Listed n size (at order) inside
  pub reached : Reached n size (between area) (at order) (at steps) near
  pub lines : Lines n size (at order) (at steps) reach spans
  pub next : size < n → Next n size v step near inside order

-- No type is in the tree.
pub growing_none : {n : ℕ} (area before : List ℕ) {order steps inside : List ℕ} → n ≤ 128 →
    length order ≡ 128 → length steps ≡ 128 → length inside ≡ 128 → ((u : ℕ) → u < n → at inside u ≡ 0) →
    ((u : ℕ) → n ≤ u → u < 128 → at inside u ≡ 65535) →
    Growing n 0 0 0 area before order steps (replicate 128 65535) inside (replicate 128 65535)
growing_none {n} area before {inside = inside} few ho hs hi free past =
    let full : (u : ℕ) → u < n → 65535 ≤ at (replicate 128 65535) u =
    λ u h. omega (arith, get_or-replicate {A = ℕ} 128 u 65535 0 (omega arith)) in
    record {
      order_size = ho;
      steps_size = hs;
      near_size = refl;
      inside-size = hi;
      reach-size = refl;
      listed = record {
        types = λ k h. absurd (not-suc-le-zero h);
        once = λ i k h l. absurd (not-suc-le-zero l);
        joined = λ k h. absurd (not-suc-le-zero h);
        past = past;
        left = λ u h. inl (free u h);
        counted = omega (arith, count-all n (λ u. eqb (at inside u) 0) (λ u h. eq-eqb _ 0 (free u h)));
      };
      reached = record {
        spanned = λ i k h l. absurd (not-suc-le-zero l);
        least = λ u h f i l. absurd (not-suc-le-zero l);
        led = λ u h f. inl (full u h);
        held = λ u h f i l. absurd (not-suc-le-zero l);
      };
      lines = record {
        reached = λ i h. absurd (not-suc-le-zero h);
        beyond = λ u h f. full u h;
        earlier = λ i k h l. absurd (not-suc-le-zero l);
        later = λ k u h. absurd (not-suc-le-zero h);
      };
      next = λ h. record {
        type = h;
        free = free 0 h;
        taken = λ l. absurd (not-suc-le-zero l);
        nearest = λ u l f. omega arith;
      };
    }

-- All types are in the tree.
pub growing_all : {n size v step : ℕ} {area before spans order steps near inside reach : List ℕ} →
    Growing n size v step area spans order steps near inside reach → size ≡ n → length spans ≡ length before → TreeGrown n area before spans order steps
growing_all {n} {size} {order = order} g e long =
    let listed = rw e at g.listed in
    let lines = rw e at g.lines in
    record {
      size = long;
      order_size = g.order_size;
      steps_size = g.steps_size;
      lined = record {
        types = listed.types;
        once = listed.once;
        earlier = lines.earlier;
        later = λ i k h b. lines.later i (at order k) (omega arith) (listed.types k b) (λ j m. listed.once j k (omega arith) b);
      };
      all = none_left listed (omega arith);
      spanned = (rw e at g.reached).spanned;
    }

-- Type v joins: its line is written, types outside are approached by it, and the next one is found.
module _ {n wide size v step step' v' : ℕ} {area spans spans' order steps near near' inside reach reach' : List ℕ}
    (few : n ≤ wide) (room : wide ≤ 128) (full : Full n area) (small : (p : ℕ) → at area p ≤ 65535) (more : size < n)
    (g : Growing n size v step area spans order steps near inside reach)
    (f : Filled wide (λ u. max (at reach u) step) reach reach')
    (x : CellsWritten (Line v wide) (λ i u. max (at reach u) step) spans spans')
    (a : Filled wide (nearer v area near) near near')
    (m : Least wide (λ u. max (nearer v area near u) (at (set inside v 65535) u)) step')
    (s : NearestFound wide near' (set inside v 65535) step' v') where
  abbrev inside' : List ℕ
  inside' = set inside v 65535

  hv : v < n
  hv = (g.next more).type

  free : Out (at order) size v
  free = out_of g.listed v (g.next more).free

  same : (k : ℕ) → k < size → at (set order size v) k ≡ at order k
  same k h = get_or-set_other order size k v 0 (omega arith)

  here : at (set order size v) size ≡ v
  here = get_or-set_same order size v 0 (omega (arith, g.order_size))

  taken : (k : ℕ) → k < size → at (set steps size step) k ≡ at steps k
  taken k h = get_or-set_other steps size k step 0 (omega arith)

  by : at (set steps size step) size ≡ step
  by = get_or-set_same steps size step 0 (omega (arith, g.steps_size))

  listed' : Listed n (size + 1) (at (set order size v)) inside'
  listed' = listed_more g.inside-size (omega arith) hv g.listed (g.next more).free same here

  -- A line of the area holds the distances of its type.
  lowered : (u : ℕ) → u < n → u ≢ v → at near' u ≡ min (between area v u) (at near u)
  lowered u h ne =
      let line : cell_at area v u ≡ between area v u = elim (dec_lt u v) [
        | yes l ↦ full v u l hv ∙ ap (at area) (omega arith)
        | no l ↦ ap (at area) (omega arith)
      ]
      in
      a.holds u (omega arith) ∙ rw line

  lowest : (u : ℕ) → u < n → at inside' u ≡ 0 → step' ≤ at near' u
  lowest u h e = omega (arith, m.at_most u (omega arith), a.holds u (omega arith))

  -- While types are left, one of them is as near as the least.
  fits : size + 1 < n → (u : ℕ) × (u < wide) × IsOutside (at near' u) (at inside' u) step'
  fits l =
      let (y, hy, e) = some_left listed' l in
      let low = lowest y hy e in
      let high : at near' y ≤ 65535 = omega (arith, a.holds y (omega arith), small (128 * v + y)) in
      elim (dec_lt step' 65535) [
        | no h ↦ (y, omega arith, (omega arith, e))
        | yes h ↦ ⊎_elim
            (λ t. absurd (omega arith))
            (λ (u, hu, t). let held = a.holds u hu in
            elim (dec_lt u n) [
              | yes b ↦ ⊎_elim
                  (λ z. (u, hu, (omega arith, z)))
                  (λ (k, hk, q). absurd (omega (arith, rw q at (listed'.joined k hk))))
                  (listed'.left u b)
              | no b ↦ absurd (omega (arith, listed'.past u (omega arith) (omega arith)))
            ])
            m.taken
      ]

  next' : size + 1 < n → Next n (size + 1) v' step' near' inside' (set order size v)
  next' l =
      let (u, hu, t) = fits l in
      let (h, (e, z)) = s.fits u hu t in
      let type : v' < n = elim (dec_lt v' n) [ yes b ↦ b | no b ↦ absurd (omega (arith, listed'.past v' (omega arith) (omega arith))) ] in
      record {
        type = type;
        free = z;
        taken = λ b. sym e;
        nearest = λ y hy out. lowest y hy (outside listed' y hy out);
      }

  pub growing-more :
      Growing n (size + 1) v' step' area spans' (set order size v) (set steps size step) near' inside' (set reach' v 0)
  growing-more = record {
    order_size = length-set order size v ∙ g.order_size;
    steps_size = length-set steps size step ∙ g.steps_size;
    near_size = a.size ∙ g.near_size;
    inside-size = length-set inside v 65535 ∙ g.inside-size;
    reach-size = length-set reach' v 0 ∙ f.size ∙ g.reach-size;
    listed = listed';
    reached = reached-more (between_sym area) (λ i j. small (128 * min i j + max i j)) g.listed.types g.listed.once g.reached
        hv free (g.next more).taken (g.next more).nearest same here taken by lowered;
    lines = lines_more few room g.reach-size g.listed.types hv free g.lines f x same here taken by;
    next = next';
  }

-- Where the mirror cells hold the distances, distances are as they were.
module _ {n : ℕ} {before area : List ℕ} (few : n ≤ 128) (w : CellsWritten (Mirror n) (opposite before) before area) where
  between-kept : (i j : ℕ) → i < n → j < n → between area i j ≡ between before i j
  between-kept i j hi hj = cell-kept w (λ a b t. omega arith) (min i j) (max i j) (omega arith) (λ t. omega arith)

  spans-kept : spans n (between area) ≡ spans n (between before)
  unfolding spans spans_by grid
  spans-kept = kept n
    where
      kept : (k : ℕ) → spans_by k n (between area) ≡ spans_by k n (between before)
      kept zero = table_ext n _ _ (λ a h. table_ext n _ _ (λ b l. between-kept a b h l))
      kept (suc k) = ap (passing n k) (kept k)

  -- The settled stretches are the spans, whichever of two types joined first.
  pub spanned-all : {start grown after order steps : List ℕ} → TreeGrown n area start grown order steps →
      Completed n order steps grown after → Spanned n before start after
  spanned-all {after = after} {order} g s = record {
    size = s.size ∙ g.size;
    holds = λ i j hi hj ne.
        let (a, ha, ea) = g.all i hi in
        let (b, hb, eb) = g.all j hj in
        rw (← ea, ← eb, ← spans-kept) (elim (dec_lt a b) [
          | yes l ↦ s.later a b l hb ∙ sym (g.spanned a b l hb)
          | no f ↦ let l : b < a = elim (ℕ_discrete a b) [ yes e ↦ absurd (ne (sym ea ∙ ap (at order) e ∙ eb)) | no m ↦ omega arith ] in
              s.earlier b a l ha ∙ sym (g.spanned b a l ha)
              ∙ span_sym n (between area) (between_sym area) (at order b) (at order a) (g.lined.types b hb) (g.lined.types a ha)
              (g.lined.once b a l ha)
        ]);
  }
