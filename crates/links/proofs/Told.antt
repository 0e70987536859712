-- An area that measures rows, and whose links were found, tells the links of the rules: pair by pair, and their count.
use mathlib.Core.Path.{◌≡◌, sym, ◌∙◌}
use mathlib.Core.Logic.Iff
use mathlib.Core.Logic.{◌↔◌, ◌≢◌}
use mathlib.Core.Bool.{not, ◌&&◌}
use mathlib.Core.List.{List}
use Prim.Native.Nat.{ℕ, ◌+◌, ◌*◌, ◌≤◌, ◌<◌, min, max}
use native.Mathlib.Omega.{arith}
use native.Mathlib.Decide.{ℕ_discrete, dec_lt}
use lib.Dec.{eqb}
use lib.ListN.{length, get_or}
use borrow.Author.Tests.{eqb-true, eq-eqb, ne_eqb}
use Rattle.graph.proofs.Below.{same_tests, count_ext}
use Rattle.graph.proofs.Feasibility.{feasible_as}
use Rattle.rules.specs.Job.{Row}
use Rattle.rules.specs.Distance.{apart}
use Rattle.rules.specs.Links.{FeasibleLink, links_at, linked, link_count}
use Rattle.rules.proofs.Distance.{apart_sym}
use Rattle.rules.proofs.Links.{feasible_sym, linked-is, link-count}
use Rattle.distances.specs.Area.{cell_at, Measures}
use Rattle.spans.specs.Tree.{between, mirrored}
use Rattle.links.specs.Marks.{marked, mark_count, LinksFound, TellsLinks}

-- What the lower and the upper of two types say of them, they say whichever is named first.
either_first : {n : ℕ} (Q : ℕ → ℕ → ℕ → ℕ → Type 0) → ((i j : ℕ) → i < j → j < n → Q i j i j) →
    ((lo up i j : ℕ) → Q lo up i j → Q lo up j i) → (i j : ℕ) → i < n → j < n → i ≢ j → Q (min i j) (max i j) i j
either_first Q known back i j hi hj ne = elim (dec_lt i j) [
  | yes h ↦ let lo : min i j ≡ i = omega arith in
      let up : max i j ≡ j = omega arith in
      rw (lo, up) (known i j h hj)
  | no f ↦ let lo : min i j ≡ j = omega arith in
      let up : max i j ≡ i = omega arith in
      rw (lo, up) (back j i j i (known j i (omega arith) hi))
]

module _ (ws : List ℕ) (e : ℕ) (rs : List Row) (few : length rs ≤ 128) where
  abbrev n : ℕ
  n = length rs

  module _ {before after : List ℕ} (measures : Measures ws rs before) (found : LinksFound n e before after) where
    -- Distances are as they were: no cell above the diagonal is a mirror cell.
    pub measures_still : Measures ws rs after
    measures_still i j h l = found.kept (128 * i + j) (λ a b g m. omega arith) ∙ measures i j h l

    between_is : (a b : ℕ) → a < n → b < n → a ≢ b → between before a b ≡ apart ws rs a b
    between_is = either_first (λ lo up a b. cell_at before lo up ≡ apart ws rs a b) measures (λ lo up a b m. m ∙ apart_sym ws rs a b)

    pub told : TellsLinks ws e rs after
    told = record {
      linked = λ i j h l.
          let hi : i < n = omega arith in
          let ne : i ≢ j = omega arith in
          Iff.trans (found.linked i j h l) (
            feasible_as n (between before) (apart ws rs) between_is e i j hi l ne,
            feasible_as n (apart ws rs) (between before) (λ a b ha hb differ. sym (between_is a b ha hb differ)) e i j hi l ne,
          );
      or_not = found.or_not;
    }

  module _ {area : List ℕ} (tells : TellsLinks ws e rs area) where
    told_at : (i j : ℕ) → i < n → j < n → i ≢ j → (get_or area (mirrored i j) 0 ≡ 1) ↔ FeasibleLink ws e rs i j
    told_at = either_first (λ lo up i j. (cell_at area up lo ≡ 1) ↔ FeasibleLink ws e rs i j) tells.linked
        (λ lo up i j t. Iff.trans t (feasible_sym ws e rs i j, feasible_sym ws e rs j i))

    -- A pair is marked where it is linked.
    pub marked-is : (i j : ℕ) → i < n → j < n → marked area i j ≡ (not (eqb i j) && linked (links_at ws e rs) i j)
    marked-is i j hi hj = elim (ℕ_discrete i j) [
      | yes p ↦ rw (eq-eqb i j p)
      | no ne ↦ let is = linked-is ws e rs i j ne in
          let at = told_at i j hi hj ne in
          rw (ne_eqb i j ne) (same_tests (eqb (get_or area (mirrored i j) 0) 1) (linked (links_at ws e rs) i j)
          (λ t. is.1 (hi, hj, at.0 (eqb-true _ 1 t))) (λ t. eq-eqb _ 1 (at.1 (is.0 t).2)))
    ]

    pub counted : (i : ℕ) → i < n → mark_count area n i ≡ link_count (links_at ws e rs) i
    counted i h = count_ext n (marked area i) _ (λ j l. marked-is i j h l) ∙ sym (link-count ws e rs i h)
