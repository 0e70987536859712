-- The table of followers is filled: a line from its end to its start, and line after line.
use mathlib.Core.Path.{◌≡◌, ◌∙◌}
use mathlib.Core.Logic.{◌⊎◌, ⊎_elim, ◌≢◌}
use mathlib.Core.Bool.{true, false}
use mathlib.Core.List.{List}
use Prim.Native.Nat.{ℕ, ◌+◌, ◌*◌, ◌-◌, ◌≤◌, ◌<◌}
use native.Mathlib.Decide.{ℕ_discrete}
use native.Mathlib.Omega.{arith}
use lib.Dec.{eqb}
use lib.ListN.{length, set, length-set}
use lib.Seq.{get_or-set_same, get_or-set_other}
use borrow.Author.Tests.{eq-eqb, ne_eqb}
use Rattle.links.specs.Marks.{marked}
use Rattle.triplets.specs.Followers.{Follower, follower_at, FollowLine}

module _ {area : List ℕ} {n c : ℕ} where
  -- The follower at a place: at a type that is linked, and at one that is not.
  follower_here : {i : ℕ} → i < n → marked area c i ≡ true → Follower area n c i i
  follower_here h t = record {
    from = omega arith;
    within = omega arith;
    none_between = λ j g l. absurd (omega arith);
    linked = λ l. t;
  }

  follower_later : {i j r : ℕ} → i ≡ j + 1 → marked area c j ≡ false → Follower area n c i r → Follower area n c j r
  follower_later {j = j} e t f = record {
    from = omega (arith, f.from);
    within = f.within;
    none_between = λ k h l. elim (ℕ_discrete k j) [ yes s ↦ rw s t | no other ↦ f.none_between k (omega arith) l ];
    linked = f.linked;
  }

module _ {area : List ℕ} {n c : ℕ} where
  -- One place more, the one before those filled.
  pub one-filled : {before next : List ℕ} {i r : ℕ} (j : ℕ) → i ≡ j + 1 → j ≤ n → n ≤ 128 → c < n → length before ≡ 16512 →
      FollowLine area n c i before next → Follower area n c j r → FollowLine area n c j before (set next (129 * c + j) r)
  one-filled {next = next} {r = r} j e h small l room t f = record {
    size = length-set next (129 * c + j) r ∙ t.size;
    line = λ k g m. elim (ℕ_discrete k j) [
      | yes s ↦ rw (s, get_or-set_same next (129 * c + j) r 0 (omega (arith, t.size))) f
      | no other ↦ rw (get_or-set_other next (129 * c + j) (129 * c + k) r 0 (λ s. other (omega arith))) (t.line k (omega arith) m)
    ];
    kept = λ d k other g.
        get_or-set_other next (129 * c + j) (129 * d + k) r 0 (λ s. other (omega arith)) ∙ t.kept d k other g;
  }

-- A line is filled from place i on, and this is the follower there.
pub record Filling (area : List ℕ) (n c i follower : ℕ) (before next : List ℕ) : Type 0 where
  pub within : i ≤ n
  pub follower_is : Follower area n c i follower
  pub line : FollowLine area n c i before next

-- A turn of the code: the mark of the type before place i is read, the follower is that type or as it was, and one place more is filled.
pub one-turn : {area : List ℕ} {n c i r r' cell : ℕ} {before next : List ℕ} → n ≤ 128 → c < n → length before ≡ 16512 → 0 < i →
    marked area c (i - 1) ≡ eqb cell 1 → Filling area n c i r before next → ((cell ≡ 1) × (r' ≡ i - 1)) ⊎ ((cell ≢ 1) × (r' ≡ r)) →
    Filling area n c (i - 1) r' before (set next (129 * c + (i - 1)) r')
one-turn {area} {n} {c} {i} {r' = r'} small l room h mark t which =
    let one : i ≡ i - 1 + 1 = omega arith in
    let f : Follower area n c (i - 1) r' =
    ⊎_elim (λ w. rw w.1 (follower_here (omega (arith, t.within)) (mark ∙ eq-eqb _ _ w.0)))
    (λ w. rw w.1 (follower_later one (mark ∙ ne_eqb _ _ w.0) t.follower_is)) which in
    record {
      within = omega (arith, t.within);
      follower_is = f;
      line = one-filled (i - 1) one (omega (arith, t.within)) small l room t.line f;
    }

-- The lines before c are filled.
pub record Lines (area : List ℕ) (n c : ℕ) (next : List ℕ) : Type 0 where
  pub passed : c ≤ n
  pub size : length next ≡ 16512
  pub each : (d i : ℕ) → d < c → i ≤ n → Follower area n d i (follower_at next d i)
