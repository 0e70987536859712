-- Laws of Floors.antt: a floor of some rows and one of others is a floor of both.
use mathlib.Core.Path.{◌≡◌, refl}
use mathlib.Core.Logic.{◌⊎◌, ⊎_elim}
use mathlib.Core.List.{List}
use Prim.Native.Nat.{ℕ, zero, suc, ◌<◌}
use native.Mathlib.Decide.{ℕ_discrete}
use native.Mathlib.Omega.{arith}
use lib.ListN.{get_or, set, replicate, length-set, length-replicate}
use lib.Seq.{get_or-set_same, get_or-set_other}
use Rattle.rules.specs.Job.{Bytes}
use Rattle.medians.proofs.search.Sweeping.{Rows}
use Rattle.sweep.specs.Candidate.{AtCentre}
use Rattle.sweep.specs.Floors.{Floored, Floors}

pub floored-none : {A : Rows} {low : ℕ} → ((x : Bytes) (cost : ℕ) → A x cost → ⊥) → Floored A low low
floored-none none = record { no_higher = omega arith; no_less = λ x cost k. absurd (none x cost k) }

pub floored-more : {A B C : Rows} {f g h : ℕ} → Floored A f g → Floored B g h → ((x : Bytes) (cost : ℕ) → C x cost → A x cost ⊎ B x cost) → Floored C f h
floored-more a b which = record {
  no_higher = omega (arith, a.no_higher, b.no_higher);
  no_less = λ x cost k.
      ⊎_elim (λ p. omega (arith, a.no_less x cost p, b.no_higher)) (λ q. b.no_less x cost q) (which x cost k);
}

-- Floors at first, and one of them found anew.
zeros : (k c : ℕ) → ◌≡◌ {A = ℕ} (get_or (replicate k 0) c 0) 0
zeros zero c = refl
zeros (suc k) zero = refl
zeros (suc k) (suc c) = zeros k c

module _ {ws : List ℕ} {states : Bytes} {area : List ℕ} {n made : ℕ} where
  pub floors-first : Floors ws states area n made (replicate 128 0)
  floors-first = record { size = simp length-replicate; each = λ c h x cost k. rw (zeros 128 c) (omega arith) }

  pub floors-one : {floors : List ℕ} {c low high : ℕ} → Floors ws states area n made floors → c < 128 →
      Floored (AtCentre ws states area n made c n) high low → Floors ws states area n made (set floors c low)
  floors-one {floors} {c} {low} f h a = record {
    size = rw length-set f.size;
    each = λ d l x cost k. elim (ℕ_discrete d c) [
      | yes e ↦
          let same = get_or-set_same floors c low 0 (omega (arith, f.size)) in
          let met : AtCentre ws states area n made c n x cost = rw e at k in
          rw (e, same) (a.no_less x cost met)
      | no e ↦ rw (get_or-set_other floors c d low 0 e) (f.each d l x cost k)
    ];
  }
