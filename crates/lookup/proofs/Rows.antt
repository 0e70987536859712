-- Where the states of a type lie, and when there are none.
use mathlib.Core.Path.{◌≡◌, refl, sym}
use mathlib.Core.Bool.{Bool, true, false, cond, ◌&&◌, and-eq-true_iff}
use Prim.Native.Nat.{ℕ, ◌+◌, ◌*◌, ◌-◌, ◌≤◌, ◌<◌, zero-le}
use native.Mathlib.Nat.{mul-le-mul_right, suc-mul}
use native.Mathlib.Omega.{arith}
use lib.Dec.{ltb}
use lib.ListN.{length, take, drop, length-drop}
use lib.Seq.{length-take-le}
use borrow.Author.Tests.{ltb-true, lt-ltb, le-ltb}
use Rattle.rules.specs.Job.{Bytes, rows, width}
use Rattle.rules.specs.Lookup.{Part, types_in, sampled_types, place_in, sampled_part, inferred_part, in_job, in_result, nowhere, part_of, states_of, lookup}
use Rattle.lookup.specs.Match.{matches}
use Rattle.lookup.proofs.matching.Match.{Matched, matched-is}
use Rattle.lookup.specs.Places.{source_of, start_of, Points}
use Rattle.lookup.specs.declared.Place.{Place}
use Rattle.lookup.proofs.Places.{sourced}

-- A row among n of width m, which stand from a byte on, ends where they end or before.
row_ends : (from n m place : ℕ) → place < n → from + place * m + m ≤ from + n * m
row_ends from n m place h = omega (arith, mul-le-mul_right m h, suc-mul place m)

-- The row at a place ends within the job, or within the block, in the numbers that were read of them.
module _ {job block : Bytes} {m : ℕ} (p : Matched job block) (m-is : m ≡ width job) where
  sampled-ends : {n place : ℕ} → n ≡ rows job → place < n → 12 + 2 * m + place * m + m ≤ length job
  sampled-ends {n} {place} n-is h = rw (p.passed.whole, ← n-is, ← m-is) (row_ends (12 + 2 * m) n m place h)

  inferred-ends : {t s place : ℕ} → t ≡ types_in block → s ≡ sampled_types block → place < t - s →
      16 + 6 * t + place * m + m ≤ length block
  inferred-ends {t} {s} {place} t-is s-is h =
      let r : 16 + 6 * t + (t - s) * m ≤ length block = rw (t-is, s-is, m-is) p.header.reaches in
      omega (arith, row_ends (16 + 6 * t) (t - s) m place h)

-- A part that ends within the whole has its length.
part_length : (b : Bytes) (at n : ℕ) → at + n ≤ length b → length (take n (drop at b)) ≡ n
part_length b at n l = length-take-le n (drop at b) (rw length-drop (omega arith))

part-ends : (b : Bytes) (at n : ℕ) → at + n ≤ length b → at + length (take n (drop at b)) ≤ length b
part-ends b at n l = rw (part_length b at n l) l

-- What holds of both arms of a test, of the first where the test holds, holds of the choice.
chosen : (P : Part → Type 0) (b : Bool) {x y : Part} → (b ≡ true → P x) → P y → P (cond b x y)
chosen P true f g = f refl
chosen P false f g = g

module _ (job block : Bytes) where
  abbrev Inside : Part → Type 0
  Inside p = start_of p + length (states_of job block p) ≤ length (sourced job block (source_of p))

  inside : (k : ℕ) → Inside (part_of job block k)
  unfolding part_of
  inside k =
      let place = place_in block k in
      chosen Inside (matches job block && ltb k (types_in block))
      (λ e.
      let p = matched-is job block ((and-eq-true_iff _ _).0 e).0 in
      chosen Inside (ltb k (sampled_types block))
      (λ _. chosen Inside (ltb place (rows job)) (λ g. part-ends job _ _ (sampled-ends p refl refl (ltb-true place _ g))) zero-le)
      (chosen Inside (ltb place (types_in block - sampled_types block))
      (λ g. part-ends block _ _ (inferred-ends p refl refl refl (ltb-true place _ g))) zero-le))
      zero-le

-- The part that a place tells ends within what it is part of.
pub within : {job block : Bytes} {k : ℕ} {r : Place} → Points job block k r → r.at + r.length ≤ length (sourced job block r.source)
unfolding lookup
within {job} {block} {k} h = rw (h.source_is, h.at_is, h.length_is) (inside job block k)

-- Where the states of a type lie, by the tests of the lookup.
module _ (job block : Bytes) (k : ℕ) where
  -- A part that the lookup finds is told by these numbers.
  points : (p : Part) {m : ℕ} → part_of job block k ≡ p → m ≡ length (states_of job block p) →
      Points job block k (record { source = source_of p; at = start_of p; length = m })
  unfolding lookup
  points p e l = record { source_is = rw e; at_is = rw e; length_is = rw e l }

  abbrev Nowhere : Type 0
  Nowhere = Points job block k (record { source = 0; at = 0; length = 0 })

  pub unmatched : matches job block ≡ false → Nowhere
  unfolding part_of
  unmatched e = points nowhere (rw e) refl

  module _ (e : matches job block ≡ true) where
    pub past : types_in block ≤ k → Nowhere
    unfolding part_of
    past h = points nowhere (rw (e, le-ltb _ _ h)) refl

    module _ (l : k < types_in block) where
      module _ (h : k < sampled_types block) where
        -- A type below s is looked for in the job.
        sampled : part_of job block k ≡ sampled_part job (place_in block k)
        unfolding part_of
        sampled = rw (e, lt-ltb _ _ l, lt-ltb _ _ h)

        pub sampled_out : rows job ≤ place_in block k → Nowhere
        sampled_out g = points nowhere (rw (sampled, le-ltb _ _ g)) refl

        pub sampled-row : {m place : ℕ} → m ≡ width job → place ≡ place_in block k → place < rows job →
            Points job block k (record { source = 1; at = 12 + 2 * m + place * m; length = m })
        sampled-row m-is place_is g =
            let z = sampled-ends (matched-is job block e) m-is refl g in
            points (in_job _) (rw (sampled, ← place_is, lt-ltb _ _ g, m-is)) (rw (← m-is) (sym (part_length job _ _ z)))

      module _ (h : sampled_types block ≤ k) where
        -- The others are looked for in the block.
        inferred : part_of job block k ≡ inferred_part (width job) (types_in block) (sampled_types block) (place_in block k)
        unfolding part_of
        inferred = rw (e, lt-ltb _ _ l, le-ltb _ _ h)

        pub inferred_out : types_in block - sampled_types block ≤ place_in block k → Nowhere
        inferred_out g = points nowhere (rw (inferred, le-ltb _ _ g)) refl

        pub inferred-row : {m t place : ℕ} → m ≡ width job → t ≡ types_in block → place ≡ place_in block k → place < t - sampled_types block →
            Points job block k (record { source = 2; at = 16 + 6 * t + place * m; length = m })
        inferred-row m-is t-is place_is g =
            let z = inferred-ends (matched-is job block e) m-is t-is refl g in
            points (in_result _) (rw (inferred, ← place_is, ← t-is, lt-ltb _ _ g, m-is)) (rw (← m-is) (sym (part_length block _ _ z)))
