-- The kinds when a round has added types: those behind the current ones are inferred in that round, and the others are as they were.
use mathlib.Core.Path.{◌≡◌, refl, sym, ap, ◌∙◌}
use mathlib.Core.Bool.{cond, ◌&&◌, and-eq-true_iff}
use mathlib.Core.List.{List, [], ◌∷◌, ◌++◌, map}
use Prim.Native.Nat.{ℕ, zero, suc, ◌+◌, ◌-◌, ◌≤◌, ◌<◌}
use native.Mathlib.Nat.{not-suc-le-zero}
use native.Mathlib.Decide.{dec_le, dec_lt}
use native.Mathlib.Omega.{arith}
use lib.Dec.{leb, ltb}
use borrow.Rule.Slice.PartMut.{put_mid}
use lib.ListN.{length, get_or, take, drop, replicate, length-append, length-drop, length-map, length-replicate, get_or-append, get_or-replicate, get_or-eq_default}
use lib.Seq.{length-take-le, get_or-append-add, ext_get_or}
use borrow.Author.Tests.{leb-true, ltb-true, le-leb, lt-ltb}
use Rattle.graph.proofs.Below.{is_false, length-table, get_or-table}
use Rattle.memory.specs.Placed.{placed}
use Rattle.memory.proofs.Placed.{length-placed, get_or-placed, get_or-placed-before, get_or-placed-behind}
use Rattle.rules.specs.Job.{Row}
use Rattle.rules.specs.Types.{Node, node_at}
use Rattle.rules.specs.declared.Kind.{Kind}
use Rattle.rules.specs.declared.Origin.TheVariants.{Inferred}
use Rattle.types.specs.State.{blank, kind_of, kinds_of}
use Rattle.types.proofs.State.{kinds-at, kinds-is}
use Rattle.purge.proofs.retire.Moved.{part-placed}
use Rattle.round.specs.Grown.{kinds_with}

-- The kind of a type inferred in a round, and such a type.
abbrev pub inferred_in : ℕ → Kind
inferred_in round = record { origin = Inferred round }

abbrev pub new_node : ℕ → Row → Node
new_node round x = record { row = x; origin = Inferred round }

module _ (kinds : List Kind) (t count round : ℕ) where
  abbrev kind_in : ℕ → Kind
  kind_in i = cond (leb t i && ltb i (t + count)) (inferred_in round) (get_or kinds i blank)

  pub length_with : length (kinds_with kinds t count round) ≡ 128
  unfolding kinds_with
  length_with = length-table 128 kind_in

  -- What one of them is.
  with_at : (i : ℕ) → i < 128 → get_or (kinds_with kinds t count round) i blank ≡ kind_in i
  unfolding kinds_with
  with_at i h = get_or-table 128 kind_in i blank h

  pub with_new : (i : ℕ) → i < 128 → t ≤ i → i < t + count → get_or (kinds_with kinds t count round) i blank ≡ inferred_in round
  with_new i h l g = with_at i h ∙ rw (le-leb t i l, lt-ltb i (t + count) g)

  pub with_old : (i : ℕ) → i < 128 → (t ≤ i → t + count ≤ i) → get_or (kinds_with kinds t count round) i blank ≡ get_or kinds i blank
  with_old i h other = with_at i h ∙ rw (is_false (leb t i && ltb i (t + count)) (λ e.
      let (a, b) = (and-eq-true_iff (leb t i) (ltb i (t + count))).0 e in
      omega (arith, other (leb-true t i a), ltb-true i (t + count) b)))

  -- Kinds that are so one by one are those.
  pub with_is : (ks : List Kind) → length ks ≡ 128 → ((i : ℕ) → i < 128 → t ≤ i → i < t + count → get_or ks i blank ≡ inferred_in round) →
      ((i : ℕ) → i < 128 → (t ≤ i → t + count ≤ i) → get_or ks i blank ≡ get_or kinds i blank) → ks ≡ kinds_with kinds t count round
  with_is ks n new old = ext_get_or blank ks _ (n ∙ sym length_with) (λ i l.
      let h : i < 128 = omega arith in
      elim (dec_le t i) [
        | yes a ↦ elim (dec_lt i (t + count)) [
          | yes b ↦ new i h a b ∙ sym (with_new i h a b)
          | no b ↦ old i h (λ e. omega arith) ∙ sym (with_old i h (λ e. omega arith))
        ]
        | no a ↦ old i h (λ e. omega arith) ∙ sym (with_old i h (λ e. omega arith))
      ])

-- So many stored behind the first t, through a slice of their own.
pub with_filled : (kinds new : List Kind) (t count round : ℕ) → length kinds ≡ 128 → t + count ≤ 128 →
    new ≡ replicate (length (take (t + count - t) (drop t kinds))) (inferred_in round) →
    put_mid t (t + count - t) kinds new ≡ kinds_with kinds t count round
with_filled kinds new t count round n room e =
    let part = length-take-le (t + count - t) (drop t kinds) (rw length-drop (omega arith)) in
    let size : length new ≡ count = ap length e ∙ length-replicate _ (inferred_in round) ∙ omega (arith, part) in
    let is = part-placed kinds new t (t + count - t) (omega (arith, size)) in
    is ∙ with_is kinds t count round _ (length-placed kinds new t (omega arith) ∙ n)
    (λ i h a b. ap (λ (k : ℕ). get_or (placed kinds t new) k blank) (let at : i ≡ t + (i - t) = omega arith in at)
    ∙ get_or-placed kinds new t (omega arith) (i - t) blank (omega arith)
    ∙ ap (λ (xs : List Kind). get_or xs (i - t) blank) e ∙ get_or-replicate _ (i - t) (inferred_in round) blank (omega (arith, part)))
    (λ i h other. elim (dec_lt i t) [
      | yes l ↦ get_or-placed-before kinds new t (omega arith) i blank l
      | no l ↦ get_or-placed-behind kinds new t (omega arith) i blank (omega (arith, other (omega arith)))
    ])

-- The kinds of types with new ones behind them.
new-kind : (xs : List Row) (round j : ℕ) (d : Node) → j < length xs → kind_of (get_or (map (new_node round) xs) j d) ≡ inferred_in round
new-kind [] round j d h = absurd (not-suc-le-zero h)
new-kind (x ∷ xs) round zero d h = refl
new-kind (x ∷ xs) round (suc j) d h = new-kind xs round j d (omega arith)

pub kinds-grown : (ts : List Node) (xs : List Row) (round : ℕ) →
    kinds_with (kinds_of ts) (length ts) (length xs) round ≡ kinds_of (ts ++ map (new_node round) xs)
kinds-grown ts xs round =
    let t = length ts in
    let new = map (new_node round) xs in
    let all = length-append ts new in
    let many = length-map xs (new_node round) in
    let ks = kinds_with (kinds_of ts) t (length xs) round in
    let old : (i : ℕ) → i < 128 → (t ≤ i → t + length xs ≤ i) → node_at (ts ++ new) i ≡ node_at ts i →
    get_or ks i blank ≡ kind_of (node_at (ts ++ new) i) =
    λ i h other e. with_old (kinds_of ts) t (length xs) round i h other ∙ kinds-at ts i h ∙ ap kind_of (sym e) in
    kinds-is ks (ts ++ new) (length_with (kinds_of ts) t (length xs) round) (λ i h. elim (dec_lt i t) [
      | yes l ↦ old i h (λ a. absurd (omega arith)) (get_or-append ts new _ i l)
      | no l ↦ elim (dec_lt i (t + length xs)) [
        | yes g ↦ let at : i ≡ t + (i - t) = omega arith in
            with_new (kinds_of ts) t (length xs) round i h (omega arith) g
            ∙ sym (ap (λ (k : ℕ). kind_of (node_at (ts ++ new) k)) at ∙ ap kind_of (get_or-append-add ts new (i - t) _)
            ∙ new-kind xs round (i - t) _ (omega arith))
        | no g ↦ old i h (λ a. omega arith) (get_or-eq_default (ts ++ new) _ (omega arith) ∙ sym (get_or-eq_default ts _ (omega arith)))
      ]
    ])
