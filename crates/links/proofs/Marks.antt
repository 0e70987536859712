-- Laws of Marks.antt: what marks tell, and that two who find the links leave the same.
use mathlib.Core.Path.{◌≡◌, refl, sym, ◌∙◌}
use mathlib.Core.Logic.Dec
use mathlib.Core.Logic.Iff
use mathlib.Core.Logic.{◌↔◌, ◌≢◌}
use mathlib.Core.Bool.{Bool, true, false, cond, false≢true}
use mathlib.Core.List.{List}
use Prim.Native.Nat.{ℕ, ◌+◌, ◌≤◌, ◌<◌, min, max}
use native.Mathlib.Omega.{arith}
use native.Mathlib.Decide.{ℕ_discrete, dec_lt}
use lib.Dec.{eqb}
use lib.ListN.{get_or}
use borrow.Author.Tests.{eq-eqb, ne_eqb}
use Rattle.std.specs.Int.{from_bool}
use Rattle.graph.specs.Spans.{spans, feasible}
use Rattle.graph.proofs.Below.{sum_more, count_le}
use Rattle.graph.proofs.Feasibility.{feasible-back}
use Rattle.graph.proofs.Spans.{feasible-is}
use Rattle.distances.specs.Area.{cell_at, CellsWritten}
use Rattle.distances.proofs.Area.{written_once}
use Rattle.spans.specs.Tree.{between, mirrored, Mirror, opposite, Spanned}
use Rattle.spans.proofs.Growing.{between_sym}
use Rattle.links.specs.Marks.{marked, mark_count, mark, LinksFound}

-- A mark tells a test: it is 1 exactly where the test passes, and never more.
tells : (t : Bool) {v : ℕ} → v ≡ cond t 1 0 → ((v ≡ 1) ↔ (t ≡ true)) × (v ≤ 1)
tells true e = ((λ u. refl, λ u. e), omega arith)
tells false e = ((λ u. absurd (omega arith), λ u. absurd (false≢true u)), omega arith)

-- The links are found by writing the distances and then the marks to the mirror cells, since those tell the test of each link.
module _ (n e : ℕ) (before : List ℕ) {start spans' mid after : List ℕ} (h : n ≤ 128) (w : CellsWritten (Mirror n) (opposite before) before mid)
    (s : Spanned n before start spans') (x : CellsWritten (Mirror n) (mark e spans' mid) mid after) where
  tested : (i j : ℕ) → i < j → j < n →
      ((cell_at after j i ≡ 1) ↔ (feasible (between before) (spans n (between before)) e j i ≡ true)) × (cell_at after j i ≤ 1)
  tested i j l r =
      let low : min j i ≡ i = omega arith in
      let high : max j i ≡ j = omega arith in
      tells (feasible (between before) (spans n (between before)) e j i)
      (x.holds j i (l, r) ∙ rw (w.holds j i (l, r), s.holds j i r (omega arith) (λ t. omega arith), low, high))

  pub found : LinksFound n e before after
  found = record {
    size = x.size ∙ w.size;
    linked = λ i j l r.
        let back = feasible-back n (between before) (between_sym before) e in
        let test = feasible-is n (between before) e j i r (omega arith) (λ t. omega arith) in
        Iff.trans (tested i j l r).0 (Iff.trans test (back j i, back i j));
    or_not = λ i j l r. (tested i j l r).1;
    kept = λ p other. x.kept p (λ i j t. other j i t.0 t.1) ∙ w.kept p (λ i j t. other j i t.0 t.1);
  }

-- Two marks that tell the same are equal.
pub same-mark : {v u : ℕ} {L : Type 0} → (v ≡ 1) ↔ L → (u ≡ 1) ↔ L → v ≤ 1 → u ≤ 1 → v ≡ u
same-mark {v} {u} f g h l = elim (ℕ_discrete v 1) [
  | yes t ↦ t ∙ sym (g.1 (f.0 t))
  | no other ↦ elim (ℕ_discrete u 1) [ yes t ↦ absurd (other (f.1 (g.0 t))) | no ne ↦ omega arith ]
]

-- What two who find the links leave is equal.
module _ {n e : ℕ} {before : List ℕ} where
  found-written : {a b : List ℕ} → LinksFound n e before a → LinksFound n e before b → CellsWritten (Mirror n) (cell_at b) before a
  found-written p q = record {
    size = p.size;
    holds = λ i j t.
        let h = t.0 in
        let l = t.1 in
        same-mark (p.linked j i h l) (q.linked j i h l) (p.or_not j i h l) (q.or_not j i h l);
    kept = λ place other. p.kept place (λ i j h l. other j i (h, l));
  }

  pub found-once : {a b : List ℕ} → n ≤ 128 → LinksFound n e before a → LinksFound n e before b → a ≡ b
  found-once h p q = written_once (λ i j t. omega arith) (λ i j. Dec.and (dec_lt j i) (dec_lt i n)) (found-written p q) (found-written q q)

-- A loop counts the links of type i with n types. It passed those before j.
pub record Counted (area : List ℕ) (i n j links : ℕ) : Type 0 where
  pub is : links ≡ mark_count area (min j n) i
  pub few : links ≤ n

counts_one : (t : Bool) → from_bool t ≡ cond t 1 0
counts_one true = refl
counts_one false = refl

module _ {area : List ℕ} {i n : ℕ} where
  pub counted-at : {j links : ℕ} → links ≡ mark_count area (min j n) i → Counted area i n j links
  counted-at {j} e = record { is = e; few = omega (arith, count_le (min j n) (marked area i)) }

  pub counted_none : Counted area i n 0 0
  counted_none = counted-at (omega (arith, count_le (min 0 n) (marked area i)))

  -- One type more counts 1 if its mark, read at its place, says linked. Type i itself is not linked.
  pub counted-more : {j links one : ℕ} (p : ℕ) → Counted area i n j links → (j < n) × (i ≢ j) × (p ≡ mirrored i j) →
      one ≡ from_bool (eqb (get_or area p 0) 1) → Counted area i n (j + 1) (links + one)
  counted-more {j} {links} {one} p c (h, ne, at) is =
      let e = is ∙ counts_one (eqb (get_or area p 0) 1) in
      let old : min j n ≡ j = omega arith in
      let new : min (j + 1) n ≡ j + 1 = omega arith in
      counted-at (rw (new, sum_more j (λ k. cond (marked area i k) 1 0), ne_eqb i j ne, ← at, ← e, c.is, old))

  pub counted_self : {links : ℕ} → Counted area i n i links → Counted area i n (i + 1) links
  counted_self c = counted-at (c.is ∙ elim (dec_lt i n) [
    | yes h ↦ let old : min i n ≡ i = omega arith in
        let new : min (i + 1) n ≡ i + 1 = omega arith in
        rw (old, new, sum_more i (λ k. cond (marked area i k) 1 0), eq-eqb i i refl) (omega arith)
    | no h ↦ let same : min (i + 1) n ≡ min i n = omega arith in rw same
  ])
