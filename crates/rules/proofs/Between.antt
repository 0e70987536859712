-- What three rows say of their median vectors: the connection cost by character and by the distances of the rows, the row that lies
-- between the other two, which is every median vector, and median vectors that are alike.
use mathlib.Core.Path.{◌≡◌, refl, sym, ap, ◌∙◌}
use mathlib.Core.Logic.{◌≢◌, ◌⊎◌, inl, inr, ⊎_elim, ⊎_map}
use mathlib.Core.Bool.{Bool, true, false, cond}
use mathlib.Core.List.{List}
use Prim.Native.Nat.{ℕ, zero, suc, ◌+◌, ◌*◌, ◌≤◌, ◌<◌}
use native.Mathlib.Nat.{not-suc-le-zero}
use native.Mathlib.Omega.{arith}
use lib.Dec.{eqb}
use lib.ListN.{length, get_or}
use borrow.Author.Tests.{eqb-true, eqb-false, eq-eqb, ne_eqb}
use Rattle.graph.specs.Below.{sum, table}
use Rattle.graph.proofs.Below.{last_or, table_ext, table-get_or, sum_ext, sum_le, sum_plus}
use Rattle.rules.specs.Job.{Row}
use Rattle.rules.specs.Types.{row_at}
use Rattle.rules.specs.Distance.{difference, distance}
use Rattle.rules.specs.Median.{common, median, medians, connection}
use Rattle.rules.proofs.Distance.{distance_sym}
use Rattle.rules.proofs.Median.{OneOf, gap, gaps, by_character, median-state, length-median}

-- Of three states all are the same, or two are, or none.
module _ (a b c : ℕ) where
  cases : (P : Bool → Bool → Bool → Type 0) → P true true true → P true false false → P false true false → P false false true →
      P false false false → P (eqb a b) (eqb a c) (eqb b c)
  cases P all ab ac bc none = go (eqb a b) refl (eqb a c) refl (eqb b c) refl
    where
      go : (p : Bool) → eqb a b ≡ p → (q : Bool) → eqb a c ≡ q → (r : Bool) → eqb b c ≡ r → P p q r
      go true e true f true g = all
      go true e true f false g = absurd (eqb-false b c g (sym (eqb-true a b e) ∙ eqb-true a c f))
      go true e false f true g = absurd (eqb-false a c f (eqb-true a b e ∙ eqb-true b c g))
      go true e false f false g = ab
      go false e true f true g = absurd (eqb-false a b e (eqb-true a c f ∙ sym (eqb-true b c g)))
      go false e true f false g = ac
      go false e false f true g = bc
      go false e false f false g = none

-- What a character of weight k costs a triplet with states a, b and c: the weight where two of them differ, and twice where all do.
-- That is, the weight where a and b differ, and again where c differs from both.
abbrev pub again : ℕ → ℕ → ℕ → ℕ → ℕ
again k a b c = cond (eqb a c) 0 (gap k b c)

abbrev pub spread : ℕ → ℕ → ℕ → ℕ → ℕ
spread k a b c = gap k a b + again k a b c

module _ (k a b c : ℕ) where
  -- It is what the three rows are away from what they have in common.
  spread-gaps : gaps k (common a a b c) a b c ≡ spread k a b c
  spread-gaps =
      cases a b c
      (λ p q r. eqb a b ≡ p → eqb a c ≡ q → eqb b c ≡ r → gaps k (common a a b c) a b c ≡ spread k a b c)
      (λ e f g. simp (e, f, same))
      (λ e f g. simp (e, f, g, same) (omega arith))
      (λ e f g. simp (e, f, same) (omega arith))
      (λ e f g. simp (e, f, g, ne_eqb b a (λ z. eqb-false a b e (sym z)), eq-eqb b b refl) (omega arith))
      (λ e f g. simp (e, f, g, same) (omega arith))
      refl
      refl
      refl
    where
      same : eqb a a ≡ true
      same = eq-eqb a a refl

  -- The states are no further apart than twice that, and it is at most twice the weight.
  spread-twice : gap k a b + gap k a c + gap k b c ≤ spread k a b c + spread k a b c
  spread-twice =
      cases a b c
      (λ p q r. cond p 0 k + cond q 0 k + cond r 0 k ≤ (cond p 0 k + cond q 0 (cond r 0 k)) + (cond p 0 k + cond q 0 (cond r 0 k)))
      (omega arith)
      (omega arith)
      (omega arith)
      (omega arith)
      (omega arith)

  pub spread_le : spread k a b c ≤ 2 * k
  spread_le =
      cases a b c
      (λ p q r. cond p 0 k + cond q 0 (cond r 0 k) ≤ 2 * k)
      (omega arith)
      (omega arith)
      (omega arith)
      (omega arith)
      (omega arith)

  -- From a to c by b is no shorter, and as short only where b is a or c.
  triangle : gap k a c ≤ gap k a b + gap k b c
  triangle =
      cases a b c (λ p q r. cond q 0 k ≤ cond p 0 k + cond r 0 k) (omega arith) (omega arith) (omega arith) (omega arith) (omega arith)

  on_the_way : k ≢ 0 → gap k a c ≡ gap k a b + gap k b c → (b ≡ a) ⊎ (b ≡ c)
  on_the_way ne =
      cases a b c
      (λ p q r. eqb a b ≡ p → eqb b c ≡ r → cond q 0 k ≡ cond p 0 k + cond r 0 k → (b ≡ a) ⊎ (b ≡ c))
      (λ e g t. inl (sym (eqb-true a b e)))
      (λ e g t. inl (sym (eqb-true a b e)))
      (λ e g t. absurd (omega arith))
      (λ e g t. inr (eqb-true b c g))
      (λ e g t. absurd (omega arith))
      refl
      refl

-- A median vector is the row that has its states.
pub median-is : (x u v w y : Row) → length x ≡ length y →
    ((c : ℕ) → c < length y → common (get_or x c 0) (get_or u c 0) (get_or v c 0) (get_or w c 0) ≡ get_or y c 0) → median x u v w ≡ y
unfolding median
median-is x u v w y l same =
    let f : ℕ → ℕ = λ c. common (get_or x c 0) (get_or u c 0) (get_or v c 0) (get_or w c 0) in
    ap (λ (n : ℕ). table n f) l ∙ table_ext (length y) f (λ c. get_or y c 0) same ∙ table-get_or y 0

module _ (ws : List ℕ) (u v w : Row) where
  -- The connection cost of the median vectors, summed character by character.
  pub cost-spread : length u ≡ length ws →
      connection ws (median u u v w) u v w ≡ sum (length ws) (λ c. spread (get_or ws c 0) (get_or u c 0) (get_or v c 0) (get_or w c 0))
  cost-spread l =
      by_character ws u v w (median u u v w)
      ∙ sum_ext (length ws) _ _ (λ c h.
      rw (median-state u u v w c (omega arith)) (spread-gaps (get_or ws c 0) (get_or u c 0) (get_or v c 0) (get_or w c 0)))

  -- It is at least half of the sum of the three distances.
  pub half_way : length u ≡ length ws → distance ws u v + distance ws u w + distance ws v w ≤ 2 * connection ws (median u u v w) u v w
  unfolding distance
  half_way l =
      let n = length ws in
      let d : Row → Row → ℕ → ℕ = λ x y. difference ws x y in
      let f : ℕ → ℕ = λ c. spread (get_or ws c 0) (get_or u c 0) (get_or v c 0) (get_or w c 0) in
      omega (
        arith,
        cost-spread l,
        sum_plus n (λ c. d u v c + d u w c) (d v w),
        sum_plus n (d u v) (d u w),
        sum_plus n f f,
        sum_le n (λ c. d u v c + d u w c + d v w c) (λ c. f c + f c) (λ c h. spread-twice (get_or ws c 0) (get_or u c 0) (get_or v c 0) (get_or w c 0)),
      )

-- Of two sums of which one has no larger term and is no smaller, all terms are equal.
pub sum_tight : (n : ℕ) (f g : ℕ → ℕ) → ((i : ℕ) → i < n → f i ≤ g i) → sum n g ≤ sum n f → (i : ℕ) → i < n → f i ≡ g i
unfolding sum
sum_tight zero f g l s i h = absurd (not-suc-le-zero h)
sum_tight (suc n) f g l s i h =
    let less : (j : ℕ) → j < n → f j ≤ g j = λ j k. l j (omega arith) in
    let last = l n (omega arith) in
    last_or (λ j. f j ≡ g j) n i h (omega (arith, sum_le n f g less)) (λ k. sum_tight n f g less (omega arith) i k)

-- A row on the way between two others: in each character it has the state of one of them. Its distances to them tell it where no
-- character that weighs nothing differs.
pub between : (ws : List ℕ) (u v w : Row) → distance ws u v + distance ws v w ≡ distance ws u w →
    ((c : ℕ) → c < length ws → (get_or ws c 0 ≢ 0) ⊎ (get_or v c 0 ≡ get_or u c 0)) →
    (c : ℕ) → c < length ws → (get_or v c 0 ≡ get_or u c 0) ⊎ (get_or v c 0 ≡ get_or w c 0)
unfolding distance
between ws u v w e sure c h =
    let n = length ws in
    let both : ℕ → ℕ = λ c. difference ws u v c + difference ws v w c in
    let tight = sum_tight n (difference ws u w) both (λ c h. triangle (get_or ws c 0) (get_or u c 0) (get_or v c 0) (get_or w c 0))
    (omega (arith, sum_plus n (difference ws u v) (difference ws v w))) c h in
    ⊎_elim (λ ne. on_the_way (get_or ws c 0) (get_or u c 0) (get_or v c 0) (get_or w c 0) ne tight) inl (sure c h)

-- A choice of two numbers is y where each of them is y if it is chosen.
taken : (t : Bool) (a z y : ℕ) → (t ≡ true → a ≡ y) → z ≡ y → cond t a z ≡ y
taken true a z y f e = f refl
taken false a z y f e = e

-- y is held by two of a, b and c: then it is what they have in common.
abbrev pub Held : ℕ → ℕ → ℕ → ℕ → Type 0
Held y a b c = ((y ≡ a) × (y ≡ b)) ⊎ ((y ≡ a) × (y ≡ c)) ⊎ ((y ≡ b) × (y ≡ c))

pub common-held : (x y a b c : ℕ) → Held y a b c → common x a b c ≡ y
common-held x y a b c (inl (e, f)) = rw (eq-eqb a b (sym e ∙ f)) (sym e)
common-held x y a b c (inr (inl (e, f))) = rw (eq-eqb a c (sym e ∙ f)) (taken (eqb a b) a a y (λ t. sym e) (sym e))
common-held x y a b c (inr (inr (e, f))) =
    rw (eq-eqb b c (sym e ∙ f))
    (taken (eqb a b) a _ y (λ t. eqb-true a b t ∙ sym e) (taken (eqb a c) a b y (λ t. eqb-true a c t ∙ sym f) (sym e)))

-- A row that has in each character the state of two of the rows is their median vector, whatever x is.
pub median-held : (x u v w y : Row) → length x ≡ length y →
    ((c : ℕ) → c < length y → Held (get_or y c 0) (get_or u c 0) (get_or v c 0) (get_or w c 0)) → median x u v w ≡ y
median-held x u v w y l held =
    median-is x u v w y l (λ c h. common-held (get_or x c 0) (get_or y c 0) (get_or u c 0) (get_or v c 0) (get_or w c 0) (held c h))

-- The median vectors one by one.
pub each-median : (P : Row → Type 0) (u v w : Row) → ((x : Row) → OneOf x u v w → P (median x u v w)) →
    (k : ℕ) → k < 3 → P (row_at (medians u v w) k)
each-median P u v w f zero h = f u (inl refl)
each-median P u v w f (suc zero) h = f v (inr (inl refl))
each-median P u v w f (suc (suc zero)) h = f w (inr (inr refl))
each-median P u v w f (suc (suc (suc k))) h = absurd (omega arith)

-- One of three rows of length n has length n.
pub one_of_length : {x u v w : Row} (n : ℕ) → length u ≡ n → length v ≡ n → length w ≡ n → OneOf x u v w → length x ≡ n
one_of_length n lu lv lw = ⊎_elim (λ e. ap length e ∙ lu) (⊎_elim (λ e. ap length e ∙ lv) (λ e. ap length e ∙ lw))

-- Rows as long as the weights, in which no character that weighs nothing differs.
module _ (ws : List ℕ) (u v w : Row) (lu : length u ≡ length ws) (lv : length v ≡ length ws) (lw : length w ≡ length ws)
    (telling : (c : ℕ) → c < length ws → (get_or ws c 0 ≢ 0) ⊎ ((get_or u c 0 ≡ get_or v c 0) × (get_or v c 0 ≡ get_or w c 0))) where
  -- A row y on the way from a to b is every median vector, where a, y and b are the three rows in some order.
  middle : (a y b : Row) → length y ≡ length ws → distance ws a y + distance ws y b ≡ distance ws a b →
      ((c : ℕ) → (get_or u c 0 ≡ get_or v c 0) × (get_or v c 0 ≡ get_or w c 0) → get_or y c 0 ≡ get_or a c 0) →
      ((c : ℕ) → (get_or y c 0 ≡ get_or a c 0) ⊎ (get_or y c 0 ≡ get_or b c 0) → Held (get_or y c 0) (get_or u c 0) (get_or v c 0) (get_or w c 0)) →
      (k : ℕ) → k < 3 → row_at (medians u v w) k ≡ y
  middle a y b ly e same held =
      let way = between ws a y b e (λ c h. ⊎_map (λ ne. ne) (same c) (telling c h)) in
      each-median (λ r. r ≡ y) u v w (λ x o.
      median-held x u v w y (one_of_length (length ws) lu lv lw o ∙ sym ly) (λ c h. held c (way c (omega arith))))

  pub middle-v : distance ws u v + distance ws v w ≡ distance ws u w → (k : ℕ) → k < 3 → row_at (medians u v w) k ≡ v
  middle-v e = middle u v w lv e (λ c s. sym s.0) (λ c. ⊎_elim (λ z. inl (z, refl)) (λ z. inr (inr (refl, z))))

  pub middle-u : distance ws u v + distance ws u w ≡ distance ws v w → (k : ℕ) → k < 3 → row_at (medians u v w) k ≡ u
  middle-u e =
      middle v u w lu (rw (distance_sym ws v u) e) (λ c s. s.0) (λ c. ⊎_elim (λ z. inl (refl, z)) (λ z. inr (inl (refl, z))))

  pub middle-w : distance ws u w + distance ws v w ≡ distance ws u v → (k : ℕ) → k < 3 → row_at (medians u v w) k ≡ w
  middle-w e =
      middle u w v lw (rw (distance_sym ws w v) e) (λ c s. sym (s.0 ∙ s.1))
      (λ c. ⊎_elim (λ z. inr (inl (z, refl))) (λ z. inr (inr (z, refl))))

-- Where a and b give the same, not all three states differ, and any two give the same.
common-alike : (a b c x y : ℕ) → common a a b c ≡ common b a b c → common x a b c ≡ common y a b c
common-alike a b c x y =
    let pick : Bool → Bool → Bool → ℕ → ℕ = λ p q r z. cond p a (cond q a (cond r b z)) in
    cases a b c
    (λ p q r. eqb a b ≡ p → pick p q r a ≡ pick p q r b → pick p q r x ≡ pick p q r y)
    (λ e s. refl)
    (λ e s. refl)
    (λ e s. refl)
    (λ e s. refl)
    (λ e s. absurd (eqb-false a b e s))
    refl

-- Where the first two median vectors are equal no character has three states, and the third is the same too.
pub alike-medians : (u v w : Row) → length v ≡ length u → length w ≡ length u → median u u v w ≡ median v u v w →
    (k : ℕ) → k < 3 → row_at (medians u v w) k ≡ median u u v w
alike-medians u v w lv lw e =
    each-median (λ r. r ≡ median u u v w) u v w (λ x o.
    median-is x u v w (median u u v w) (one_of_length (length u) refl lv lw o ∙ sym (length-median u u v w)) (λ c h.
    let l : c < length u = rw length-median at h in
    let same = sym (median-state u u v w c l) ∙ ap (λ r. get_or r c 0) e ∙ median-state v u v w c (omega arith) in
    common-alike (get_or u c 0) (get_or v c 0) (get_or w c 0) (get_or x c 0) (get_or u c 0) same ∙ sym (median-state u u v w c l)))
