-- RULES 10.3: the three median vectors of a triplet have one connection cost. Character by character: where two rows agree, the three
-- vectors do too; where no two agree, each vector is one weight away from two of the rows.
use mathlib.Core.Path.{◌≡◌, refl, sym, ap, ◌∙◌}
use mathlib.Core.Logic.{◌⊎◌, inl, inr}
use mathlib.Core.Bool.{Bool, true, false, cond}
use mathlib.Core.List.{List}
use Prim.Native.Nat.{ℕ, ◌+◌, ◌<◌}
use native.Mathlib.Omega.{arith}
use lib.Dec.{eqb}
use lib.ListN.{length, get_or}
use borrow.Author.Tests.{eq-eqb, ne_eqb, eqb-false}
use Rattle.graph.specs.Below.{sum}
use Rattle.graph.proofs.Below.{sum_ext, sum_plus, length-table, get_or-table}
use Rattle.rules.specs.Job.{Row}
use Rattle.rules.specs.Distance.{difference, distance}
use Rattle.rules.specs.Median.{common, median, connection}

-- x is one of a, b and c.
abbrev pub OneOf : {A : Type 0} → A → A → A → A → Type 0
OneOf x a b c = (x ≡ a) ⊎ (x ≡ b) ⊎ (x ≡ c)

-- What a character of weight k costs between two states, and between a state and those of three rows.
abbrev pub gap : ℕ → ℕ → ℕ → ℕ
gap k x y = cond (eqb x y) 0 k

abbrev pub gaps : ℕ → ℕ → ℕ → ℕ → ℕ → ℕ
gaps k x a b c = gap k x a + gap k x b + gap k x c

module _ (k a b c : ℕ) where
  -- Three different states: each is a weight away from two of them.
  all-differ : (x : ℕ) → eqb a b ≡ false → eqb a c ≡ false → eqb b c ≡ false → OneOf x a b c → gaps k x a b c ≡ k + k
  all-differ x p q r (inl e) = rw (e, eq-eqb a a refl, p, q) (omega arith)
  all-differ x p q r (inr (inl e)) = rw (e, ne_eqb b a (λ z. eqb-false a b p (sym z)), eq-eqb b b refl, r) (omega arith)
  all-differ x p q r (inr (inr e)) =
      rw (e, ne_eqb c a (λ z. eqb-false a c q (sym z)), ne_eqb c b (λ z. eqb-false b c r (sym z)), eq-eqb c c refl) (omega arith)

  pub same-gaps : (x y : ℕ) → OneOf x a b c → OneOf y a b c → gaps k (common x a b c) a b c ≡ gaps k (common y a b c) a b c
  same-gaps x y h g = go (eqb a b) refl (eqb a c) refl (eqb b c) refl
    where
      pick : Bool → Bool → Bool → ℕ → ℕ
      pick p q r z = cond p a (cond q a (cond r b z))

      go : (p : Bool) → eqb a b ≡ p → (q : Bool) → eqb a c ≡ q → (r : Bool) → eqb b c ≡ r → gaps k (pick p q r x) a b c ≡ gaps k (pick p q r y) a b c
      go true e q f r i = refl
      go false e true f r i = refl
      go false e false f true i = refl
      go false e false f false i = all-differ x e f i h ∙ sym (all-differ y e f i g)

-- The states of a median vector, and its length.
pub median-state : (x u v w : Row) (c : ℕ) → c < length x → get_or (median x u v w) c 0 ≡ common (get_or x c 0) (get_or u c 0) (get_or v c 0) (get_or w c 0)
unfolding median
median-state x u v w c h = get_or-table (length x) (λ c. common (get_or x c 0) (get_or u c 0) (get_or v c 0) (get_or w c 0)) c 0 h

pub length-median : (x u v w : Row) → length (median x u v w) ≡ length x
unfolding median
length-median x u v w = length-table (length x) _

module _ (ws : List ℕ) (u v w : Row) where
  -- The cost, summed character by character.
  pub by_character : (x : Row) → connection ws x u v w ≡ sum (length ws) (λ c. gaps (get_or ws c 0) (get_or x c 0) (get_or u c 0) (get_or v c 0) (get_or w c 0))
  unfolding distance
  by_character x =
      let d : Row → ℕ → ℕ = λ y. difference ws x y in
      sym (sum_plus (length ws) (λ c. d u c + d v c) (d w) ∙ ap (λ n. n + sum (length ws) (d w)) (sum_plus (length ws) (d u) (d v)))

  pub same-connection : (x y : Row) → length x ≡ length ws → length y ≡ length ws → OneOf x u v w → OneOf y u v w →
      connection ws (median x u v w) u v w ≡ connection ws (median y u v w) u v w
  same-connection x y lx ly h g = by_character _ ∙ sum_ext (length ws) _ _ same ∙ sym (by_character _)
    where
      state : (z : Row) (c : ℕ) → OneOf z u v w → OneOf (get_or z c 0) (get_or u c 0) (get_or v c 0) (get_or w c 0)
      state z c (inl e) = inl (ap (λ r. get_or r c 0) e)
      state z c (inr (inl e)) = inr (inl (ap (λ r. get_or r c 0) e))
      state z c (inr (inr e)) = inr (inr (ap (λ r. get_or r c 0) e))

      at : (z : Row) (c : ℕ) → length z ≡ length ws → c < length ws →
          get_or (median z u v w) c 0 ≡ common (get_or z c 0) (get_or u c 0) (get_or v c 0) (get_or w c 0)
      at z c lz l = median-state z u v w c (rw lz l)

      same : (c : ℕ) → c < length ws → gaps (get_or ws c 0) (get_or (median x u v w) c 0) (get_or u c 0) (get_or v c 0) (get_or w c 0)
          ≡ gaps (get_or ws c 0) (get_or (median y u v w) c 0) (get_or u c 0) (get_or v c 0) (get_or w c 0)
      same c l =
          rw (at x c lx l, at y c ly l)
          (same-gaps (get_or ws c 0) (get_or u c 0) (get_or v c 0) (get_or w c 0) (get_or x c 0) (get_or y c 0) (state x c h) (state y c g))
