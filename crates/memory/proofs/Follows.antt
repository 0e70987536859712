-- What is written in pieces is written as one: piece behind piece, with room for each.
use mathlib.Core.Path.{◌≡◌, refl, sym, ap, ◌∙◌}
use mathlib.Core.List.{List, [], ◌∷◌, ◌++◌}
use Prim.Native.Nat.{ℕ, ◌+◌, ◌-◌, ◌≤◌, ◌<◌}
use native.Mathlib.Omega.{arith}
use lib.ListN.{length, set, length-append}
use lib.Seq.{sets-eq}
use Rattle.graph.specs.Below.{gather}
use Rattle.graph.proofs.Below.{gather-more, gather_add}
use Rattle.memory.specs.Placed.{placed, Follows}
use Rattle.memory.proofs.Placed.{placed-none, placed-twice, length-placed}

module _ {A : Type 0} where
  pub follows-none : (b : List A) (at : ℕ) → Follows b at [] b at
  follows-none b at = record { is = placed-none b at; behind = omega arith }

  -- One store.
  pub follows-stored : (b : List A) (at : ℕ) (v : A) → at < length b → Follows b at (v ∷ []) (set b at v) (at + 1)
  unfolding placed
  follows-stored b at v h = record { is = sets-eq (v ∷ []) b at (omega arith); behind = refl }

  pub follows-once : {b xs b' : List A} {at : ℕ} → b' ≡ placed b at xs → Follows b at xs b' (at + length xs)
  follows-once e = record { is = e; behind = refl }

  -- Two pieces, one behind the other; room for both is room for the second behind the first.
  module _ {b xs b₁ : List A} {at p : ℕ} (f : Follows b at xs b₁ p) where
    pub room_next : (ys : List A) → at + length (xs ++ ys) ≤ length b → p + length ys ≤ length b₁
    room_next ys h =
        let n = length-append xs ys in rw (f.is, f.behind, length-placed b xs at (omega arith)) (omega arith)

    pub follows_on : {ys b₂ : List A} {r : ℕ} → at ≤ length b → Follows b₁ p ys b₂ r → Follows b at (xs ++ ys) b₂ r
    follows_on {ys} h g = record {
      is = g.is ∙ rw f.is (placed-twice b xs at h p ys (sym f.behind));
      behind = rw length-append (omega (arith, f.behind, g.behind));
    }

  -- Many pieces: some of them take no more than all; one more, and the room for it.
  pub pieces_within : (f : ℕ → List A) (t n : ℕ) → n ≤ t → length (gather n f) ≤ length (gather t f)
  pieces_within f t n h =
      let e : n + (t - n) ≡ t = omega arith in
      omega (arith, simp length-append at (ap length (sym (gather_add n (t - n) f) ∙ ap (λ (k : ℕ). gather k f) e)))

  module _ (f : ℕ → List A) {b b' : List A} {at k : ℕ} (n : ℕ) (w : Follows b at (gather n f) b' k) where
    pub follows-more : {b'' : List A} {r : ℕ} → at ≤ length b → Follows b' k (f n) b'' r → Follows b at (gather (n + 1) f) b'' r
    follows-more h g = rw gather-more (follows_on w h g)

    pub follows-room : (t : ℕ) → n < t → at + length (gather t f) ≤ length b → k + length (f n) ≤ length b
    follows-room t h room =
        omega (arith, w.behind, pieces_within f t (n + 1) (omega arith), simp length-append at (ap length (gather-more n f)))
