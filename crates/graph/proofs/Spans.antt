-- The test of Spans.antt agrees with the chains of Feasible.antt: between two different nodes there is a chain at x exactly if their span plus ε is below x.
-- From a span to a chain: by induction on the nodes that chains may pass.
-- From a chain to a span: each step has a span, and two spans that meet in a node that chains may pass make one, so the chain's steps make one.
use mathlib.Core.Path.{◌≡◌}
use mathlib.Core.Logic.Dec
use mathlib.Core.Logic.Iff
use mathlib.Core.Logic.{◌↔◌, ◌≢◌, ◌⊎◌, inl, inr, ⊎_elim}
use mathlib.Core.Bool.{true}
use mathlib.Core.List.{[]}
use Prim.Native.Nat.{ℕ, zero, suc, ◌+◌, ◌≤◌, ◌<◌, min, max}
use native.Mathlib.Omega.{arith}
use native.Mathlib.Decide.{ℕ_discrete, dec_lt}
use lib.Dec.{leb}
use borrow.Author.Tests.{leb-true, le-leb}
use Rattle.graph.specs.Below.{table}
use Rattle.graph.specs.Walk.{stop, step}
use Rattle.graph.specs.Feasible.{Chain, Feasible}
use Rattle.graph.specs.Spans.{cell, grid, passing, spans_by, spans, feasible}
use Rattle.graph.proofs.Below.{last_or, get_or-table}
use Rattle.graph.proofs.Walks.{single, join}

pub cell-grid : (n : ℕ) (f : ℕ → ℕ → ℕ) (a b : ℕ) → a < n → b < n → cell (grid n f) a b ≡ f a b
unfolding grid
cell-grid n f a b ha hb = rw (get_or-table n (λ c. table n (f c)) a [] ha, get_or-table n (f a) b 0 hb)

min-max-below : (p q r ε x : ℕ) → (min p (max q r) + ε < x) ↔ (p + ε < x) ⊎ ((q + ε < x) × (r + ε < x))
min-max-below p q r ε x = (
  λ h. elim (dec_lt (p + ε) x) [ yes l ↦ inl l | no f ↦ inr (omega arith) ],
  ⊎_elim (λ h. omega arith) (λ h. omega arith),
)

leb-not : (a b : ℕ) → (leb a b ≡ true) ↔ ¬ (b < a)
leb-not a b = (λ e h. omega (arith, leb-true a b e), λ f. le-leb a b (omega arith))

module _ (n : ℕ) (d : ℕ → ℕ → ℕ) where
  module _ (ε x : ℕ) where
    -- The span of a and b plus ε is below x where chains pass nodes below k alone.
    abbrev Spanned : ℕ → ℕ → ℕ → Type 0
    Spanned k a b = cell (spans_by k n d) a b + ε < x

    -- With one more node to pass, it was so before, or is so of the two parts.
    spanned-more : (k a b : ℕ) → a < n → b < n → Spanned (suc k) a b ↔ Spanned k a b ⊎ (Spanned k a k × Spanned k k b)
    unfolding spans_by passing
    spanned-more k a b ha hb = rw (cell-grid n _ a b ha hb) (min-max-below _ _ _ ε x)

    spanned-step : (k a b : ℕ) → a < n → b < n → d a b + ε < x → Spanned k a b
    unfolding spans_by
    spanned-step zero a b ha hb h = rw (cell-grid n d a b ha hb) h
    spanned-step (suc k) a b ha hb h = (spanned-more k a b ha hb).1 (inl (spanned-step k a b ha hb h))

    -- Two spans that meet in j make one.
    abbrev Through : ℕ → ℕ → Type 0
    Through k j = (a b : ℕ) → a < n → b < n → Spanned k a j → Spanned k j b → Spanned k a b

    through-new : (k : ℕ) → k < n → Through (suc k) k
    through-new k hk a b ha hb p q =
        let l = ⊎_elim (λ s. s) (λ s. s.0) ((spanned-more k a k ha hk).0 p) in
        let r = ⊎_elim (λ s. s) (λ s. s.1) ((spanned-more k k b hk hb).0 q) in
        (spanned-more k a b ha hb).1 (inr (l, r))

    through_old : (k j : ℕ) → k < n → j < n → Through k j → Through (suc k) j
    through_old k j hk hj t a b ha hb p q =
        let r = (spanned-more k j b hj hb).0 q in
        (spanned-more k a b ha hb).1 (⊎_elim
        (λ s. ⊎_elim (λ z. inl (t a b ha hb s z)) (λ z. inr (t a k ha hk s z.0, z.1)) r)
        (λ s. ⊎_elim (λ z. inr (s.0, t k b hk hb s.1 z)) (λ z. inr (s.0, z.1)) r)
        ((spanned-more k a j ha hj).0 p))

    through : (k : ℕ) → k ≤ n → (j : ℕ) → j < k → Through k j
    through zero hk j h = elim h [ ]
    through (suc k) hk j h =
        last_or (Through (suc k)) k j h (through-new k hk) (λ l. through_old k j hk (omega arith) (through k (omega arith) j l))

    chain : (k : ℕ) → k ≤ n → (a b : ℕ) → a < n → b < n → Spanned k a b → Chain n d ε x a b
    unfolding spans_by
    chain zero hk a b ha hb h = single (record { from = ha; to = hb; below = rw (cell-grid n d a b ha hb) at h })
    chain (suc k) hk a b ha hb h =
        let c = chain k (omega arith) in
        ⊎_elim (c a b ha hb) (λ s. join (c a k ha hk s.0) (c k b hk hb s.1)) ((spanned-more k a b ha hb).0 h)

    spanned : {u v : ℕ} → v < n → Chain n d ε x u v → (u ≡ v) ⊎ Spanned n u v
    spanned hv (stop e) = inl e
    spanned {u} {v} hv (step {v = w} r p) =
        let s = spanned-step n u w r.from r.to r.below in
        inr (⊎_elim (λ e. rw e at s) (through n (omega arith) w r.to u v r.from hv s) (spanned hv p))

    pub chain-spans : (u v : ℕ) → u < n → v < n → u ≢ v → Chain n d ε x u v ↔ (cell (spans n d) u v + ε < x)
    unfolding spans
    chain-spans u v hu hv ne = (λ c. ⊎_elim (λ e. absurd (ne e)) (λ s. s) (spanned hv c), chain n (omega arith) u v hu hv)

    pub dec_chain : (u v : ℕ) → u < n → v < n → Dec (Chain n d ε x u v)
    dec_chain u v hu hv = elim (ℕ_discrete u v) [
      | yes e ↦ yes (stop e)
      | no ne ↦ Dec.of_iff (Iff.symm (chain-spans u v hu hv ne)) (dec_lt _ _)
    ]

  -- The test says true exactly of the feasible links.
  pub feasible-is : (ε u v : ℕ) → u < n → v < n → u ≢ v → (feasible d (spans n d) ε u v ≡ true) ↔ Feasible n d ε u v
  feasible-is ε u v hu hv ne = Iff.trans (leb-not _ _) (Iff.not (Iff.symm (chain-spans ε (d u v) u v hu hv ne)))

-- From a node to itself the span is 0 where the distance is.
self_by : (k n : ℕ) (d : ℕ → ℕ → ℕ) (a : ℕ) → a < n → d a a ≡ 0 → cell (spans_by k n d) a a ≡ 0
unfolding spans_by passing
self_by zero n d a h z = rw (cell-grid n d a a h h) z
self_by (suc k) n d a h z = rw (cell-grid n _ a a h h) (omega (arith, self_by k n d a h z))

pub span_self : (n : ℕ) (d : ℕ → ℕ → ℕ) (a : ℕ) → a < n → d a a ≡ 0 → cell (spans n d) a a ≡ 0
unfolding spans
span_self n = self_by n n
