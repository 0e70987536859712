-- n - 1 links are the fewest that join n nodes. Each node begins with a name of its own, and each link has one name replaced by another,
-- so that its two ends share one. Joined nodes then share theirs, so n nodes that are joined have lost all their own names but one.
use mathlib.Core.Path.{◌≡◌, refl, sym, ap, ◌∙◌}
use mathlib.Core.Logic.{◌⊎◌, inl, inr, ⊎_map, ⊎_elim, ◌≢◌}
use mathlib.Core.Bool.{cond}
use mathlib.Core.List.{List, [], ◌∷◌}
use Prim.Native.Nat.{ℕ, zero, suc, ◌≤◌, ◌<◌}
use native.Mathlib.Omega.{arith}
use native.Mathlib.Decide.{ℕ_discrete}
use lib.Dec.{eqb}
use lib.ListN.{length}
use borrow.Author.Tests.{eq-eqb, ne_eqb}
use Rattle.graph.specs.Walk.{stop, step}
use Rattle.graph.specs.Tree.{Ends, Has, Joined}
use Rattle.graph.proofs.Below.{In}
use Rattle.graph.proofs.Links.{between}

-- A list with one element fewer, that still has all the others.
without : (x : ℕ) (L : List ℕ) → In x L → (M : List ℕ) × (length L ≡ suc (length M)) × ((y : ℕ) → y ≢ x → In y L → In y M)
unfolding ⊎_map
without x [] x'' = elim x'' [ ]
without x (z ∷ L) (inl e) = (L, refl, λ y ne. ⊎_elim (λ g. absurd (ne (g ∙ sym e))) (λ h. h))
without x (z ∷ L) (inr h) = let (M, e, f) = without x L h in (z ∷ M, ap suc e, λ y ne. ⊎_map (λ g. g) (f y ne))

-- A list that has all the numbers below n has n elements or more.
pub pigeonhole : (n : ℕ) (L : List ℕ) → ((i : ℕ) → i < n → In i L) → n ≤ length L
pigeonhole zero L f = omega arith
pigeonhole (suc n) L f =
    let (M, e, g) = without n L (f n (omega arith)) in
    omega (arith, pigeonhole n M (λ i h. g i (omega arith) (f i (omega arith))))

-- Names for the nodes: the two ends of a link share theirs, and every node has its own, unless it is one of a list as long as E.
record Names (E : List Ends) : Type 0 where
  name : ℕ → ℕ
  same : (a b : ℕ) → Has E a b → name a ≡ name b
  gone : List ℕ
  as_many : length gone ≡ length E
  own : (v : ℕ) → (name v ≡ v) ⊎ In v gone

-- x and y renamed alike, and nothing but x renamed.
rename : (x y : ℕ) → (m : ℕ → ℕ) × (m x ≡ m y) × ((z : ℕ) → (m z ≡ z) ⊎ (z ≡ x))
rename x y = (
  m,
  elim (ℕ_discrete y x) [ yes e ↦ ap m (sym e) | no ne ↦ rw (eq-eqb x x refl, ne_eqb y x ne) ],
  λ z. elim (ℕ_discrete z x) [ yes e ↦ inr e | no ne ↦ inl (rw (ne_eqb z x ne)) ],
)
  where
    m : ℕ → ℕ
    m z = cond (eqb z x) y z

names : (E : List Ends) → Names E
unfolding ⊎_map
names [] = record { name = λ v. v; same = λ a b h. absurd h; gone = []; as_many = refl; own = λ v. inl refl }
names (l ∷ E) =
    let N = names E in
    let c = N.name in
    let (m, alike, others) = rename (c l.0) (c l.1) in
    record {
      name = λ v. m (c v);
      same = λ a b. ⊎_elim (between (λ x y. m (c x) ≡ m (c y)) (λ x y. sym) l alike a b) (λ h. ap m (N.same a b h));
      gone = c l.0 ∷ N.gone;
      as_many = ap suc N.as_many;
      own = λ v. ⊎_elim (λ e. ⊎_map (λ g. ap m e ∙ g) inl (others v)) (λ i. inr (inr i)) (N.own v);
    }

-- Joined nodes have the same name.
shared : (E : List Ends) (N : Names E) {u v : ℕ} → Joined E u v → N.name u ≡ N.name v
shared E N (stop e) = ap N.name e
shared E N (step h p) = N.same _ _ h ∙ shared E N p

pub fewest : (n : ℕ) (E : List Ends) → ((u v : ℕ) → u < n → v < n → Joined E u v) → n ≤ suc (length E)
unfolding ⊎_map
fewest n E f = omega (arith, N.as_many, pigeonhole n (N.name 0 ∷ N.gone) here)
  where
    N : Names E
    N = names E

    here : (v : ℕ) → v < n → In v (N.name 0 ∷ N.gone)
    here v h = ⊎_map (λ e. sym e ∙ shared E N (f v 0 h (omega arith))) (λ i. i) (N.own v)
