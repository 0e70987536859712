-- A tree that grows by its nearest node, where distances are the same both ways. The nodes reached are a set S: every chain that leaves
-- S takes a step out of it, so a span from S to outside is no shorter than the shortest step out.
use mathlib.Core.Path.{◌≡◌, sym}
use mathlib.Core.Logic.{◌↔◌, ◌≢◌}
use Prim.Native.Nat.{ℕ, ◌+◌, ◌≤◌, ◌<◌, max}
use native.Mathlib.Omega.{arith}
use Rattle.graph.specs.Walk.{Walk, stop, step}
use Rattle.graph.specs.Feasible.{Chain}
use Rattle.graph.specs.Spans.{cell, spans}
use Rattle.graph.proofs.Walks.{single, join, reverse}
use Rattle.graph.proofs.Feasibility.{short_back}
use Rattle.graph.proofs.Spans.{chain-spans}

-- A step out of S.
record Leaving (R : ℕ → ℕ → Type 0) (S : ℕ → Type 0) : Type 0 where
  from : ℕ
  to : ℕ
  inside : S from
  outside : ¬ S to
  taken : R from to

-- A walk from S to outside takes a step out of S.
leaves : {R : ℕ → ℕ → Type 0} {S : ℕ → Type 0} → ((a : ℕ) → Dec (S a)) → {u v : ℕ} → S u → ¬ S v → Walk R u v → Leaving R S
leaves dec i o (stop e) = absurd (o (rw e at i))
leaves dec {u} i o (step {v = w} r p) = elim (dec w) [
  | yes s ↦ leaves dec s o p
  | no f ↦ record { from = u; to = w; inside = i; outside = f; taken = r }
]

module _ (n : ℕ) (d : ℕ → ℕ → ℕ) (back : (a b : ℕ) → d a b ≡ d b a) where
  abbrev span : ℕ → ℕ → ℕ
  span u v = cell (spans n d) u v

  -- Between two different nodes a chain has no step longer than x exactly if their span is not.
  within : (x u v : ℕ) → u < n → v < n → u ≢ v → Chain n d 0 (x + 1) u v ↔ (span u v ≤ x)
  within x u v hu hv ne =
      let c = chain-spans n d 0 (x + 1) u v hu hv ne in
      (λ w. omega (arith, c.0 w), λ l. c.1 (omega arith))

  no_longer : (u v : ℕ) → u < n → v < n → u ≢ v → span v u ≤ span u v
  no_longer u v hu hv ne =
      (within (span u v) v u hv hu (λ e. ne (sym e))).0
      (reverse (short_back n d back 0 (span u v + 1)) ((within (span u v) u v hu hv ne).1 (omega arith)))

  pub span_sym : (u v : ℕ) → u < n → v < n → u ≢ v → span u v ≡ span v u
  span_sym u v hu hv ne = omega (arith, no_longer u v hu hv ne, no_longer v u hv hu (λ e. ne (sym e)))

  module _ {S : ℕ → Type 0} (dec : (a : ℕ) → Dec (S a)) where
    -- No step out of S is shorter than w.
    abbrev pub Apart : ℕ → Type 0
    Apart w = (a b : ℕ) → a < n → b < n → S a → ¬ S b → w ≤ d a b

    -- A span out of S is no shorter than its steps out.
    pub crossing : (w u v : ℕ) → Apart w → u < n → v < n → S u → ¬ S v → w ≤ span u v
    crossing w u v far hu hv i o =
        let s = leaves dec i o ((within (span u v) u v hu hv (λ e. o (rw e at i))).1 (omega arith)) in
        omega (arith, far s.from s.to s.taken.from s.taken.to s.inside s.outside, s.taken.below)

    -- The shortest step out of S is one from p to v.
    module _ {p v : ℕ} (hp : p < n) (hv : v < n) (i : S p) (o : ¬ S v) (far : Apart (d p v)) where
      pub span-step : span p v ≡ d p v
      span-step =
          let l = (within (d p v) p v hp hv (λ e. o (rw e at i))).0 (single (record { from = hp; to = hv; below = omega arith })) in
          omega (arith, l, crossing (d p v) p v far hp hv i o)

      -- From another node of S, the chain to v goes by p.
      pub span-by : (u : ℕ) → u < n → S u → u ≢ p → span u v ≡ max (span u p) (d p v)
      span-by u hu j ne =
          let s = span-step in
          let away : p ≢ v = λ e. o (rw e at i) in
          let apart : u ≢ v = λ e. o (rw e at j) in
          let long = crossing (d p v) u v far hu hv j o in
          let m = max (span u p) (d p v) in
          let there = (within m u v hu hv apart).0
          (join ((within m u p hu hp ne).1 (omega arith)) ((within m p v hp hv away).1 (omega arith))) in
          let again = (within (span u v) u p hu hp ne).0
          (join ((within (span u v) u v hu hv apart).1 (omega arith))
          ((within (span u v) v p hv hp (λ e. away (sym e))).1 (omega (arith, no_longer p v hp hv away)))) in
          omega arith
