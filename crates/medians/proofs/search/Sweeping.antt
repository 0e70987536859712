-- Laws of Swept.antt: what two sweeps, one after the other, have done.
use mathlib.Core.Path.{◌≡◌, refl, sym, ◌∙◌}
use mathlib.Core.Logic.{◌⊎◌, inl, inr, ⊎_elim}
use mathlib.Core.Bool.{Bool, true, false, false≢true}
use Prim.Native.Nat.{ℕ, ◌+◌, ◌≤◌}
use native.Mathlib.Decide.{dec_lt}
use native.Mathlib.Omega.{arith}
use Rattle.rules.specs.Job.{Bytes}
use Rattle.types.specs.State.{stored_at}
use Rattle.medians.specs.declared.search.Search.{Search}
use Rattle.medians.specs.Swept.{Dealt, Crowd, Lowered, Gathered, Swept}

-- Rows at a cost: those asked for, or those given.
abbrev pub Rows : Type 1
Rows = Bytes → ℕ → Type 0

-- Looking for lambda twice.
lowered-both : (given : Rows) (s₀ s₁ s₂ : Search) → Lowered given s₀ s₁ → Lowered given s₁ s₂ → Lowered given s₀ s₂
lowered-both given s₀ s₁ s₂ (inl e) (inl f) = inl (f ∙ e)
lowered-both given s₀ s₁ s₂ (inr (x, g)) (inl f) = inr (x, rw f g)
lowered-both given s₀ s₁ s₂ a (inr b) = inr b

module _ {given : Rows} where
  -- Nothing is done.
  pub gathered_none : (gathered : Bytes) (s : Search) → Gathered given gathered s gathered s
  gathered_none gathered s = record {
    no_fewer = omega arith;
    older = λ k h. refl;
    newer = λ k l h. absurd (omega arith);
    differ = λ i k l m h. absurd (omega arith);
    still_open = λ e. (e, refl);
    crowd = λ e f. absurd (false≢true (sym e ∙ f));
  }

  -- Where everything asked for is dealt with already, nothing need be done.
  pub swept_none : {asked : Rows} {gathered : Bytes} {s : Search} → ((x : Bytes) (cost : ℕ) → asked x cost → Dealt gathered s x cost) →
      s.made + s.count ≤ 128 → Swept asked given gathered s gathered s
  swept_none {gathered} {s} dealt room = record {
    size = refl;
    rest_stays = λ p h. refl;
    made_stays = refl;
    aim_stays = refl;
    room = room;
    no_higher = omega arith;
    deals = dealt;
    keeps = λ x cost d. d;
    count_stays = λ e. refl;
    lowers = λ e. inl refl;
    gathers = λ e. gathered_none gathered s;
  }

  module _ {f₀ f₁ f₂ : Bytes} {s₀ s₁ s₂ : Search} (made_stays : s₂.made ≡ s₁.made) (lower : s₁.below ≤ s₀.below)
      (no_higher : s₂.below ≤ s₁.below) (a : Gathered given f₀ s₀ f₁ s₁) (b : Gathered given f₁ s₁ f₂ s₂) where
    -- Where the first found no room, the second added nothing.
    crowd-first : Crowd given s₀.below f₁ s₁ → Crowd given s₀.below f₂ s₂
    crowd-first c = record {
      closed = omega (arith, c.closed);
      all_used = omega (arith, c.all_used, same);
      row = c.row;
      cost = c.cost;
      is_given = c.is_given;
      matters = c.matters;
      another = λ k h. rw (b.older k (omega (arith, same))) (c.another k (omega (arith, same)));
    }
      where
        same : s₂.count ≡ s₁.count
        same = elim (dec_lt s₁.count s₂.count) [
          | yes l ↦ absurd (let n = b.newer s₁.count (omega arith) l in omega (arith, n.2, c.closed))
          | no other ↦ omega (arith, b.no_fewer)
        ]

    crowd-second : Crowd given s₁.below f₂ s₂ → Crowd given s₀.below f₂ s₂
    crowd-second c = record {
      closed = c.closed;
      all_used = c.all_used;
      row = c.row;
      cost = c.cost;
      is_given = c.is_given;
      matters = omega (arith, c.matters);
      another = c.another;
    }

    gathered-both : Gathered given f₀ s₀ f₂ s₂
    gathered-both = record {
      no_fewer = omega (arith, a.no_fewer, b.no_fewer);
      older = λ k h. b.older k (omega (arith, a.no_fewer)) ∙ a.older k h;
      newer = λ k l h. elim (dec_lt k s₁.count) [
        | yes m ↦ rw (b.older k m) (a.newer k l m)
        | no other ↦ let n = b.newer k (omega arith) h in (n.0, n.1, omega (arith, n.2))
      ];
      differ = λ i k l m h. elim (dec_lt k s₁.count) [
        | yes n ↦ rw (b.older i (omega arith), b.older k n) (a.differ i k l m n)
        | no other ↦ b.differ i k l (omega arith) h
      ];
      still_open = λ e. let m = b.still_open e in let n = a.still_open m.0 in (n.0, m.1 ∙ n.1);
      crowd = λ e f. by_first e f s₁.full refl;
    }
      where
        by_first : s₀.full ≡ false → s₂.full ≡ true → (full : Bool) → s₁.full ≡ full → Crowd given s₀.below f₂ s₂
        by_first e f true g = crowd-first (a.crowd e g)
        by_first e f false g = crowd-second (b.crowd g f)

  -- No row gathered is lost.
  no_fewer : {A : Rows} {gathered found' : Bytes} {s s' : Search} → Swept A given gathered s found' s' → s.count ≤ s'.count
  no_fewer {s} {s'} a = by_aim s.gathering refl
    where
      by_aim : (gathering : Bool) → s.gathering ≡ gathering → s.count ≤ s'.count
      by_aim false e = omega (arith, a.count_stays e)
      by_aim true e = (a.gathers e).no_fewer

  -- One sweep after the other deals with all that either is asked for.
  pub swept-more : {A B C : Rows} {f₀ f₁ f₂ : Bytes} {s₀ s₁ s₂ : Search} → Swept A given f₀ s₀ f₁ s₁ → Swept B given f₁ s₁ f₂ s₂ →
      ((x : Bytes) (cost : ℕ) → C x cost → A x cost ⊎ B x cost) → Swept C given f₀ s₀ f₂ s₂
  swept-more {s₀} {s₁} {s₂} a b which = record {
    size = b.size ∙ a.size;
    rest_stays = λ p h. b.rest_stays p h ∙ a.rest_stays p (omega (arith, no_fewer b));
    made_stays = b.made_stays ∙ a.made_stays;
    aim_stays = b.aim_stays ∙ a.aim_stays;
    room = b.room;
    no_higher = omega (arith, a.no_higher, b.no_higher);
    deals = λ x cost c. ⊎_elim (λ p. b.keeps x cost (a.deals x cost p)) (λ q. b.deals x cost q) (which x cost c);
    keeps = λ x cost d. b.keeps x cost (a.keeps x cost d);
    count_stays = λ e. b.count_stays (a.aim_stays ∙ e) ∙ a.count_stays e;
    lowers = λ e. lowered-both given s₀ s₁ s₂ (a.lowers e) (b.lowers (a.aim_stays ∙ e));
    gathers = λ e.
        gathered-both b.made_stays a.no_higher b.no_higher (a.gathers e) (b.gathers (a.aim_stays ∙ e));
  }

  pub swept-both : {A B : Rows} {f₀ f₁ f₂ : Bytes} {s₀ s₁ s₂ : Search} → Swept A given f₀ s₀ f₁ s₁ → Swept B given f₁ s₁ f₂ s₂ →
      Swept (λ x cost. A x cost ⊎ B x cost) given f₀ s₀ f₂ s₂
  swept-both a b = swept-more a b (λ x cost c. c)

-- Fewer rows asked for, and more that may be given.
module _ {G G' : Rows} (more : (x : Bytes) (cost : ℕ) → G x cost → G' x cost) where
  crowd_as : {bound : ℕ} {gathered : Bytes} {s : Search} → Crowd G bound gathered s → Crowd G' bound gathered s
  crowd_as c = record {
    closed = c.closed;
    all_used = c.all_used;
    row = c.row;
    cost = c.cost;
    is_given = more c.row c.cost c.is_given;
    matters = c.matters;
    another = c.another;
  }

  gathered_as : {gathered found' : Bytes} {s s' : Search} → Gathered G gathered s found' s' → Gathered G' gathered s found' s'
  gathered_as {found'} a = record {
    no_fewer = a.no_fewer;
    older = a.older;
    newer = λ k l h. let n = a.newer k l h in (n.0, more (stored_at found' k) n.0 n.1, n.2);
    differ = a.differ;
    still_open = a.still_open;
    crowd = λ e f. crowd_as (a.crowd e f);
  }

pub swept_as : {A A' G G' : Rows} {gathered found' : Bytes} {s s' : Search} → ((x : Bytes) (cost : ℕ) → A' x cost → A x cost) →
    ((x : Bytes) (cost : ℕ) → G x cost → G' x cost) → Swept A G gathered s found' s' → Swept A' G' gathered s found' s'
swept_as {s'} fewer more a = record {
  size = a.size;
  rest_stays = a.rest_stays;
  made_stays = a.made_stays;
  aim_stays = a.aim_stays;
  room = a.room;
  no_higher = a.no_higher;
  deals = λ x cost p. a.deals x cost (fewer x cost p);
  keeps = a.keeps;
  count_stays = a.count_stays;
  lowers = λ e. ⊎_elim inl (λ g. inr (g.0, more g.0 s'.below g.1)) (a.lowers e);
  gathers = λ e. gathered_as more (a.gathers e);
}

-- What is asked for and given at a number of rows made, at the same number said otherwise.
pub swept_at : (A G : ℕ → Rows) {m m' : ℕ} {gathered found' : Bytes} {s s' : Search} → m ≡ m' → Swept (A m) (G m) gathered s found' s' →
    Swept (A m') (G m') gathered s found' s'
swept_at A G e a = rw e at a
