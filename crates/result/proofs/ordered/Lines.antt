-- Laws of Lines.antt: a link stands at the place that has the number of links before it, each place is one link's, and a line ends where the next begins.
use mathlib.Core.Path.{◌≡◌, refl, ap, ◌∙◌}
use mathlib.Core.Bool.{Bool, true, false, and-eq-true_iff}
use mathlib.Core.List.{List, [], ◌∷◌, ◌++◌, append_assoc, append-nil}
use Prim.Native.Nat.{ℕ, zero, suc, ◌+◌, ◌-◌, ◌≤◌, ◌<◌}
use native.Mathlib.Nat.{add-zero, not-suc-le-zero}
use native.Mathlib.Omega.{arith}
use native.Mathlib.Decide.{dec_lt}
use lib.Dec.{ltb}
use lib.ListN.{length, get_or, length-append, get_or-append}
use lib.Seq.{get_or-append-add}
use borrow.Author.Tests.{ltb-true, lt-ltb, le-ltb}
use Rattle.graph.specs.Below.{gather, only}
use Rattle.graph.proofs.Below.{last_or, gather-more, length-kept, count_le}
use Rattle.rules.specs.Links.{link_at}
use Rattle.rules.specs.declared.Link.{Link}
use Rattle.links.specs.Marks.{marked}
use Rattle.purge.specs.Network.{links_in}
use Rattle.result.specs.Lines.{is_link, link_of, pair_of, line_of, links_before}
use Rattle.result.specs.Order.{no_link}

-- ── A place in a gather ──

module _ {A : Type 0} (f : ℕ → List A) where
  -- List i stands behind the lists before it.
  split : (n i : ℕ) → i < n → (rest : List A) × (gather n f ≡ gather i f ++ (f i ++ rest))
  unfolding gather
  split zero i h = elim h [ ]
  split (suc n) i h =
      last_or (λ m. (rest : List A) × (gather (suc n) f ≡ gather m f ++ (f m ++ rest))) n i h ([], rw append-nil)
      (λ l. let (rest, e) = split n i l in (rest ++ f n, rw (e, append_assoc, append_assoc)))

  -- So a place of list i is one of the gather, and each place of the gather is such a one.
  at_place : (n i k : ℕ) (d : A) → i < n → k < length (f i) →
      (length (gather i f) + k < length (gather n f)) × (get_or (gather n f) (length (gather i f) + k) d ≡ get_or (f i) k d)
  at_place n i k d h l =
      let (rest, e) = split n i h in
      rw (e, get_or-append-add, get_or-append (f i) rest d k l, length-append, length-append) (omega arith, refl)

  place : (n k : ℕ) → k < length (gather n f) → (i : ℕ) × (m : ℕ) × (i < n) × (m < length (f i)) × (k ≡ length (gather i f) + m)
  unfolding gather
  place zero k h = absurd (not-suc-le-zero h)
  place (suc n) k h = elim (dec_lt k (length (gather n f))) [
    | yes l ↦ let (i, m, a, b, e) = place n k l in (i, m, omega arith, b, e)
    | no g ↦ (n, k - length (gather n f), omega arith, omega (arith, rw length-append at h), omega arith)
  ]

-- What is kept has one place.
kept : {A : Type 0} (t : Bool) (x : A) (k : ℕ) → k < length (only t x) → (t ≡ true) × (k ≡ 0)
kept true x k h = (refl, omega arith)
kept false x k h = absurd (not-suc-le-zero h)

-- ── Pairs ──

module _ (area : List ℕ) (i : ℕ) where
  -- A pair with a higher type is a link where it is marked, and one with a lower type or with itself is none.
  pub higher : (j : ℕ) (t : Bool) → i < j → marked area i j ≡ t → is_link area i j ≡ t
  higher j t h e = rw (lt-ltb i j h) e

  pub lower : (n : ℕ) → n ≤ i + 1 → length (gather n (pair_of area i)) ≡ 0
  unfolding gather
  lower zero h = refl
  lower (suc n) h = rw (length-append, lower n (omega arith), le-ltb i n (omega arith))

  pub pair-more : (j : ℕ) (t : Bool) → is_link area i j ≡ t →
      length (gather (j + 1) (pair_of area i)) ≡ length (gather j (pair_of area i)) + length (only t (link_of area i j))
  pair-more j t e = rw (gather-more, length-append, e)

-- ── Lines ──

module _ (area : List ℕ) (t : ℕ) where
  abbrev line : ℕ → List Link
  line = line_of area t

  abbrev links : List Link
  links = links_in t area

  pub line-short : (i : ℕ) → length (line i) ≤ t
  unfolding line_of
  line-short i = omega (arith, length-kept t (is_link area i) (link_of area i), count_le t (is_link area i))

  pub links-more : (i : ℕ) → length (gather (i + 1) line) ≡ length (gather i line) + length (line i)
  links-more i = rw (gather-more, length-append)

  pub links-all : length (gather t line) ≡ length links
  unfolding links_in line_of
  links-all = refl

  pub before_more : (i j : ℕ) (b : Bool) → is_link area i j ≡ b →
      links_before area t i (j + 1) ≡ links_before area t i j + length (only b (link_of area i j))
  unfolding links_before
  before_more i j b e = omega (arith, pair-more area i j b e)

  -- A line ends where the next one begins.
  before-end : (i : ℕ) → links_before area t i t ≡ length (gather (i + 1) line)
  unfolding links_before line_of
  before-end i = omega (arith, links-more i)

  pub line-end : (i : ℕ) → links_before area t (i + 1) (i + 1 + 1) ≡ links_before area t i t
  unfolding links_before
  line-end i = omega (arith, before-end i, lower area (i + 1) (i + 1 + 1) (omega arith))

  -- While links are left, there is a next line.
  pub line-follows : (i : ℕ) → i < t → links_before area t i t < length links → i + 1 < t
  line-follows i h l = elim (dec_lt (i + 1) t) [
    | yes g ↦ g
    | no g ↦ let e : i + 1 ≡ t = omega arith in absurd (omega (arith, before-end i, ap (λ (n : ℕ). length (gather n line)) e, links-all))
  ]

  -- A link's place is the number of links before it, and each place is that of a link.
  pub link-at : (i j : ℕ) → i < t → j < t → is_link area i j ≡ true → link_at links (links_before area t i j) ≡ link_of area i j
  unfolding links_in line_of links_before
  link-at i j hi hj e =
      let (l, at) = at_place (pair_of area i) t j 0 no_link hj (rw e (omega arith)) in
      (at_place line t i _ no_link hi (rw add-zero at l)).1 ∙ (rw add-zero at at) ∙ rw e

  place_of : (k : ℕ) → k < length links → (i : ℕ) × (j : ℕ) × (i < t) × (j < t) × (is_link area i j ≡ true) × (k ≡ links_before area t i j)
  unfolding links_in line_of links_before
  place_of k h =
      let (i, m, hi, l, e) = place line t k h in
      let (j, o, hj, q, g) = place (pair_of area i) t m l in
      let (test, z) = kept (is_link area i j) (link_of area i j) o q in
      (i, j, hi, hj, test, omega arith)

  -- The place of what comes behind a link, or behind none, is the number of links before the pair that follows.
  pub record Behind (last : Link) (k : ℕ) : Type 0 where
    pub rising : last.low ≤ last.high
    pub inside : last.high < t
    pub place : k ≡ links_before area t last.low (last.high + 1)

  pub behind : (last : Link) (k : ℕ) → k < length links → last ≡ link_at (no_link ∷ links) k → Behind last k
  unfolding links_in line_of links_before gather
  behind last zero h e = let (i, j, hi, hj, test, p) = place_of 0 h in rw e record { rising = omega arith; inside = omega arith; place = refl }
  behind last (suc k) h e =
      let (i, j, hi, hj, test, p) = place_of k (omega arith) in
      let is : last ≡ link_of area i j = e ∙ ap (link_at links) p ∙ link-at i j hi hj test in
      let rises = ltb-true i j ((and-eq-true_iff (ltb i j) (marked area i j)).0 test).0 in
      rw is record { rising = omega arith; inside = hj; place = omega (arith, before_more i j true test) }
