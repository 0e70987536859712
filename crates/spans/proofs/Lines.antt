-- The lines of spans: what they and `reach` hold while the tree grows, and while the spans with later types are settled.
use mathlib.Core.Path.{◌≡◌, refl, sym, ◌∙◌}
use mathlib.Core.Logic.{◌≢◌}
use mathlib.Core.List.{List}
use Prim.Native.Nat.{ℕ, ◌+◌, ◌-◌, ◌≤◌, ◌<◌, min, max}
use native.Mathlib.Omega.{arith}
use native.Mathlib.Decide.{ℕ_discrete, dec_lt}
use lib.ListN.{length, get_or, set, replicate, get_or-replicate}
use lib.Seq.{get_or-set_same, get_or-set_other}
use borrow.Author.Count.{below_more}
use Rattle.distances.specs.Area.{cell_at, CellsWritten, Line}
use Rattle.distances.proofs.Area.{cell-kept}
use Rattle.spans.specs.Growth.{Filled, longest, Lined}
use Rattle.spans.proofs.Stretch.{longest-none, longest-by, longest-more, longest-within}
use Rattle.spans.proofs.Growing.{Out, stretch-kept, stretch-more}

-- The line of each type of the tree, and `reach` for the last one, hold its stretches to the types before it, and 65,535 for all others.
pub record Lines (n size : ℕ) (o w : ℕ → ℕ) (reach spans : List ℕ) : Type 0 where
  pub reached : (i : ℕ) → i < size → get_or reach (o i) 0 ≡ longest w i (size - 1)
  pub beyond : (u : ℕ) → u < n → Out o size u → 65535 ≤ get_or reach u 0
  pub earlier : (i k : ℕ) → i < k → k < size → cell_at spans (o k) (o i) ≡ longest w i k
  pub later : (k u : ℕ) → k < size → u < n → Out o (k + 1) u → 65535 ≤ cell_at spans (o k) u

-- Type v joins by a step.
module _ {n wide size v step : ℕ} {o o' w w' : ℕ → ℕ} {reach reach' spans spans' : List ℕ} (few : n ≤ wide) (room : wide ≤ 128)
    (long : length reach ≡ 128) (types : (k : ℕ) → k < size → o k < n) (hv : v < n) (free : Out o size v)
    (l : Lines n size o w reach spans)
    (f : Filled wide (λ u. max (get_or reach u 0) step) reach reach')
    (x : CellsWritten (Line v wide) (λ i u. max (get_or reach u 0) step) spans spans')
    (same : (k : ℕ) → k < size → o' k ≡ o k) (here : o' size ≡ v)
    (taken : (k : ℕ) → k < size → w' k ≡ w k) (by : w' size ≡ step) where
  -- The lines of the types before are as they were.
  line_kept : (k u : ℕ) → k < size → u < n → cell_at spans' (o k) u ≡ cell_at spans (o k) u
  line_kept k u h b = cell-kept x (λ i j t. omega arith) (o k) u (omega arith) (λ t. free k h t.0)

  line : (u : ℕ) → u < n → cell_at spans' v u ≡ max (get_or reach u 0) step
  line u h = x.holds v u (refl, omega arith)

  this : get_or (set reach' v 0) v 0 ≡ 0
  this = get_or-set_same reach' v 0 0 (omega (arith, f.size))

  others : (u : ℕ) → u < n → u ≢ v → get_or (set reach' v 0) u 0 ≡ max (get_or reach u 0) step
  others u h ne = get_or-set_other reach' v u 0 0 ne ∙ f.holds u (omega arith)

  pub lines_more : Lines n (size + 1) o' w' (set reach' v 0) spans'
  lines_more = record {
    reached =
        let e : size + 1 - 1 ≡ size = omega arith in
        rw e (below_more _ size
        (λ i h. rw (same i h)
        (omega (arith, others (o i) (types i h) (free i h), l.reached i h, stretch-more taken by i h)))
        (rw here (this ∙ sym (longest-none w' size size (omega arith)))));
    beyond = λ u h out.
        let ne : u ≢ v = λ e. out size (omega arith) (here ∙ sym e) in
        omega (arith, others u h ne, l.beyond u h (λ i hi s. out i (omega arith) (same i hi ∙ s)));
    earlier = λ i k h b. below_more (λ y. i < y → cell_at spans' (o' y) (o' i) ≡ longest w' i y) size
        (λ y hy g. rw (same y hy, same i (omega arith), stretch-kept taken by i y hy)
        (line_kept y (o i) hy (types i (omega arith)) ∙ l.earlier i y g hy))
        (λ g. rw (here, same i g) (omega (arith, line (o i) (types i g), l.reached i g, stretch-more taken by i g)))
        k b h;
    later = λ k u b h. below_more (λ y. Out o' (y + 1) u → 65535 ≤ cell_at spans' (o' y) u) size
        (λ y hy out. rw (same y hy, line_kept y u hy h)
        (l.later y u hy h (λ i hi s. out i hi (same i (omega arith) ∙ s))))
        (λ out. rw here (omega (arith, line u h, l.beyond u h (λ i hi s. out i (omega arith) (same i hi ∙ s)))))
        k b;
  }

-- Behind the first k places the lines are settled: those of the types from place k - 1 on hold all stretches, and `reach` those of
-- the type there to the types behind it.
pub record Settling (n k : ℕ) (o w : ℕ → ℕ) (reach spans : List ℕ) : Type 0 where
  pub reached : (i : ℕ) → k ≤ i → i < n → get_or reach (o i) 0 ≡ longest w (k - 1) i
  pub beyond : (i : ℕ) → i < k → i < n → 65535 ≤ get_or reach (o i) 0
  pub earlier : (i j : ℕ) → i < j → j < n → cell_at spans (o j) (o i) ≡ longest w i j
  pub settled : (i j : ℕ) → k ≤ i + 1 → i < j → j < n → cell_at spans (o i) (o j) ≡ longest w i j
  pub later : (i j : ℕ) → i + 1 < k → i < j → j < n → 65535 ≤ cell_at spans (o i) (o j)

-- No line is settled but the last, which has no type behind it.
pub settling_none : {n : ℕ} {order steps spans : List ℕ} → n ≤ 128 → Lined n order steps spans →
    Settling n n (λ k. get_or order k 0) (λ k. get_or steps k 0) (replicate 128 65535) spans
settling_none {order = order} few l = record {
  reached = λ i h b. absurd (omega arith);
  beyond = λ i h b. omega (arith, get_or-replicate {A = ℕ} 128 (get_or order i 0) 65535 0 (omega (arith, l.types i b)));
  earlier = l.earlier;
  settled = λ i j g h b. absurd (omega arith);
  later = λ i j g. l.later i j;
}

-- What `reach` comes to by a step from type v.
abbrev stepped : List ℕ → ℕ → ℕ → ℕ → ℕ
stepped reach v step u = max (get_or (set reach v 0) u 0) step

-- The step by which the type at place k joined, from the type before it to all behind.
module _ {n wide k step : ℕ} {o w : ℕ → ℕ} {reach reach' spans spans' : List ℕ} (few : n ≤ wide) (room : wide ≤ 128)
    (long : length reach ≡ 128) (types : (i : ℕ) → i < n → o i < n) (once : (i j : ℕ) → i < j → j < n → o i ≢ o j)
    (small : (i : ℕ) → w i ≤ 65535) (at : w k ≡ step) (hk : 0 < k) (inside : k < n)
    (s : Settling n (k + 1) o w reach spans)
    (f : Filled wide (stepped reach (o k) step) (set reach (o k) 0) reach')
    (x : CellsWritten (Line (o (k - 1)) wide) (λ i u. min (cell_at spans i u) (stepped reach (o k) step u)) spans spans') where
  apart : (i j : ℕ) → i < n → j < n → i ≢ j → o i ≢ o j
  apart i j hi hj ne e = elim (dec_lt i j) [ yes l ↦ once i j l hj e | no m ↦ once j i (omega arith) hi (sym e) ]

  behind : (i : ℕ) → i < n → k ≤ i → stepped reach (o k) step (o i) ≡ longest w (k - 1) i
  behind i h l =
      let e : k - 1 + 1 ≡ k = omega arith in
      let by = longest-by w (k - 1) k i (omega arith) l in
      let one = rw e at (longest-more w (k - 1) (k - 1) (omega arith)) in
      let none = longest-none w (k - 1) (k - 1) (omega arith) in
      elim (ℕ_discrete i k) [
        | yes q ↦ rw q (omega (arith, get_or-set_same reach (o k) 0 0 (omega (arith, types k inside))))
        | no ne ↦ let m : k + 1 - 1 ≡ k = omega arith in
            omega (arith, get_or-set_other reach (o k) (o i) 0 0 (apart i k h inside ne), rw m at (s.reached i (omega arith) h))
      ]

  before : (i : ℕ) → i < n → i < k → 65535 ≤ stepped reach (o k) step (o i)
  before i h l =
      omega (arith, get_or-set_other reach (o k) (o i) 0 0 (once i k l inside), s.beyond i (omega arith) h)

  -- Of the lines only that of the type before has changed.
  kept : (i j : ℕ) → i < n → j < n → i + 1 ≢ k → cell_at spans' (o i) (o j) ≡ cell_at spans (o i) (o j)
  kept i j hi hj ne =
      cell-kept x (λ a b t. omega arith) (o i) (o j) (omega (arith, types j hj)) (λ t. apart i (k - 1) hi (omega arith) (omega arith) t.0)

  changed : (j : ℕ) → j < n → cell_at spans' (o (k - 1)) (o j) ≡ min (cell_at spans (o (k - 1)) (o j)) (stepped reach (o k) step (o j))
  changed j h = x.holds (o (k - 1)) (o j) (refl, omega (arith, types j h))

  pub settling_more : Settling n k o w reach' spans'
  settling_more = record {
    reached = λ i l h. f.holds (o i) (omega (arith, types i h)) ∙ behind i h l;
    beyond = λ i l h. rw (f.holds (o i) (omega (arith, types i h))) (before i h l);
    earlier = λ i j l h. elim (ℕ_discrete (j + 1) k) [
      | yes e ↦ let p : j ≡ k - 1 = omega arith in
          let old = s.earlier i j l h in
          let far = before i (omega arith) (omega arith) in
          let within = longest-within w 65535 i j small in
          rw (← p) at (changed i (omega arith)) ∙ omega arith
      | no ne ↦ kept j i h (omega arith) ne ∙ s.earlier i j l h
    ];
    settled = λ i j g l h. elim (ℕ_discrete (i + 1) k) [
      | yes e ↦ let p : i ≡ k - 1 = omega arith in
          let old = s.later i j (omega arith) l h in
          let far = rw (← p) at (behind j h (omega arith)) in
          let within = longest-within w 65535 i j small in
          rw (← p) at (changed j h) ∙ omega arith
      | no ne ↦ kept i j (omega arith) h ne ∙ s.settled i j (omega arith) l h
    ];
    later = λ i j g l h. rw (kept i j (omega arith) h (omega arith)) (s.later i j (omega arith) l h);
  }
