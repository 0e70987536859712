-- The places of those below t that pass a test: they ascend, so what `Stays` holds of them chooses just those that pass.
use mathlib.Core.Path.{◌≡◌, refl, sym, ◌∙◌}
use mathlib.Core.Bool.{Bool, true, false, not}
use mathlib.Core.List.{List, [], ◌∷◌, ◌++◌, append-nil}
use Prim.Native.Nat.{ℕ, ◌+◌, ◌≤◌, ◌<◌}
use native.Mathlib.Nat.{not-suc-le-zero}
use native.Mathlib.Omega.{arith}
use lib.ListN.{length, get_or, set, length-append, length-set, get_or-append}
use lib.Seq.{get_or_at, get_or-set_same, get_or-set_other}
use borrow.Author.Tests.{eqb-true, eq-eqb}
use Rattle.graph.specs.Below.{gather, only, count, some}
use Rattle.graph.proofs.Below.{last_or, In, gather-more, in_gather, in_only, in_at, in_place, length-kept, count_le, count-not, count_pos, some_true, is_false, same_tests}
use Rattle.rules.proofs.Ascending.{Ascending, ascending-only, ascending-gather, ascending-at}
use Rattle.purge.specs.Left.{Chosen, is_kept}
use Rattle.purge.specs.Stay.{Stays}
use Rattle.purge.specs.declared.stay.Stay.{Stay}

module _ (t : ℕ) (p : ℕ → Bool) where
  abbrev pub places : List ℕ
  places = gather t (λ i. only (p i) i)

  place-passes : (i : ℕ) → In i places → (i < t) × (p i ≡ true)
  place-passes i h =
      let (j, l, o) = (in_gather i t _).0 h in
      let (e, same) = (in_only i (p j) j).0 o in
      rw same (l, e)

  places_rise : Ascending ◌<◌ places
  places_rise = ascending-gather ◌<◌ t _ (λ i h. ascending-only ◌<◌ (p i) i)
      (λ i j h l x y a b. let e = ((in_only x (p i) i).0 a).1 in let g = ((in_only y (p j) j).0 b).1 in rw (e, g) h)

  module _ {stay : Stay} (stays : Stays places stay) where
    pub stays-chosen : Chosen stay.kept stay.count t
    stays-chosen = record {
      size = stays.size;
      few = omega (arith, stays.count_is, length-kept t p (λ i. i), count_le t p);
      rising = λ a b h l. let k : b < length places = rw stays.count_is at l in
          rw (stays.kept_is a (omega arith), stays.kept_is b k) (ascending-at ◌<◌ places 0 places_rise a b h k);
      within = λ a h. let k : a < length places = rw stays.count_is at h in
          rw (stays.kept_is a k) (place-passes _ (in_at places a 0 k)).0;
    }

    pub stays-kept : (i : ℕ) → i < t → is_kept stay.kept stay.count i ≡ p i
    stays-kept i h = same_tests _ (p i) passes keeps
      where
        passes : is_kept stay.kept stay.count i ≡ true → p i ≡ true
        passes e =
            let (a, l, same) = (some_true stay.count _).0 e in
            let k : a < length places = omega (arith, stays.count_is) in
            rw (← stays.kept_is a k, eqb-true _ i same) at (place-passes _ (in_at places a 0 k)).1

        keeps : p i ≡ true → is_kept stay.kept stay.count i ≡ true
        keeps e =
            let (a, l, at) = in_place i places ((in_gather i t _).1 (i, h, (in_only i (p i) i).1 (e, refl))) in
            (some_true stay.count _).1 (a, rw stays.count_is l, eq-eqb _ i (stays.kept_is a l ∙ at 0))

-- None, and one number more: it stays behind the others where it passes.
pub none_passed : (p : ℕ → Bool) (kept : List ℕ) → length kept ≡ 128 → Stays (places 0 p) (record { kept = kept; count = 0 })
unfolding gather
none_passed p kept e = record { size = e; count_is = refl; kept_is = λ a h. absurd (not-suc-le-zero h) }

module _ (p : ℕ → Bool) {i count : ℕ} {kept : List ℕ} (stays : Stays (places i p) (record { kept = kept; count = count })) where
  few-passed : count ≤ i
  few-passed = (stays-chosen i p stays).few

  pub one-goes : p i ≡ false → Stays (places (i + 1) p) (record { kept = kept; count = count })
  one-goes e = rw (gather-more i _, e, append-nil) stays

  pub one-stays : i < 128 → p i ≡ true → Stays (places (i + 1) p) (record { kept = set kept count i; count = count + 1 })
  one-stays h e =
      let n = stays.count_is in
      let l : length (places i p ++ (i ∷ [])) ≡ count + 1 = rw length-append (omega arith) in
      let room : count < length kept = omega (arith, stays.size, few-passed) in
      rw (gather-more i _, e) (record {
        size = length-set kept count i ∙ stays.size;
        count_is = sym l;
        kept_is = λ a g. last_or (λ a. get_or (set kept count i) a 0 ≡ get_or (places i p ++ (i ∷ [])) a 0) count a (omega arith)
            (get_or-set_same kept count i 0 room ∙ sym (get_or_at (places i p) i [] 0 count (sym n)))
            (λ b. get_or-set_other kept count a i 0 (omega arith) ∙ stays.kept_is a (omega arith)
            ∙ sym (get_or-append (places i p) (i ∷ []) 0 a (omega arith)));
      })

-- Where some go, those that stay are fewer.
module _ (t : ℕ) (goes : ℕ → Bool) where
  abbrev stayers : ℕ
  stayers = length (gather t (λ i. only (not (goes i)) i))

  as_many : stayers + count t goes ≡ t
  as_many = omega (arith, length-kept t (λ i. not (goes i)) (λ i. i), count-not t goes)

  pub some_go : stayers < t → some t goes ≡ true
  some_go h = (some_true t goes).1 ((count_pos t goes).0 (omega (arith, as_many)))

  pub none-goes : t ≤ stayers → some t goes ≡ false
  none-goes h = is_false _ (λ e. omega (arith, as_many, (count_pos t goes).1 ((some_true t goes).0 e)))
