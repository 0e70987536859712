-- A row made that is mixed as the mismatches of a triplet say is a median vector of the triplet.
use mathlib.Core.Path.{◌≡◌, refl, sym, ap, ◌∙◌}
use mathlib.Core.Logic.{◌≢◌, ◌⊎◌, inl, inr}
use mathlib.Core.Bool.{Bool, true, false, not, ◌&&◌, false≢true}
use Prim.Native.Nat.{ℕ, zero, suc, ◌+◌, ◌*◌, ◌≤◌, ◌<◌}
use native.Mathlib.Decide.{dec_lt}
use native.Mathlib.Omega.{arith}
use lib.Bits.{bit_and, and_zero_r}
use lib.Dec.{eqb}
use lib.ListN.{length, get_or}
use borrow.Author.Tests.{eqb-true, eqb-false, ne_eqb}
use Rattle.rules.specs.Job.{Bytes}
use Rattle.rules.specs.Median.{common, median}
use Rattle.rules.proofs.Between.{Held, common-held, median-is, median-held, each-median, one_of_length}
use Rattle.types.specs.State.{stored_at}
use Rattle.types.proofs.State.{length-stored_at, stored_at-state}
use Rattle.triplets.specs.declared.Triplet.{Triplet}
use Rattle.triplets.specs.Mismatches.{bits_of, differ, mismatches_in, Narrow}
use Rattle.triplets.proofs.mismatches.Mismatches.{bits_none, word_same, word_and, word-parts}
use Rattle.triplets.proofs.mismatches.Cached.{apart_sym, apart_self}
use Rattle.triplets.specs.declared.settled.Pairs.{Pairs}
use Rattle.triplets.specs.Settled.{alone_in, Mixed, Settled, PairsOf}

-- What is in both of two numbers and not in a third.
word_alone : (p q r : ℕ → Bool) (n c : ℕ) →
    alone_in (bits_of p n c) (bits_of q n c) (bits_of r n c) ≡ bits_of (λ i. (p i && q i) && not (r i)) n c
word_alone p q r n c =
    rw (word_and p q n c, word_and (λ i. p i && q i) r n c) (omega (arith, word-parts (λ i. p i && q i) r n c))

-- A row is mixed of itself: it has its own states in all characters but none.
pub mixed_none : (states : Bytes) (m made u v k : ℕ) → u < made → k ≡ 0 → Mixed states m made u v k
mixed_none states m made u v k h e =
    record { row = u; is_made = h; with_first = apart_self states m u ∙ sym e; with_second = rw e (and_zero_r (mismatches_in states m v u)) }

-- Of states a, b and c: y is held by two, or all three differ and y is x. So it is what they have in common.
abbrev Drawn : ℕ → ℕ → ℕ → ℕ → ℕ → Type 0
Drawn x y a b c = Held y a b c ⊎ ((y ≡ x) × (a ≢ b) × (a ≢ c) × (b ≢ c))

drawn-common : (x y a b c : ℕ) → Drawn x y a b c → common x a b c ≡ y
drawn-common x y a b c (inl h) = common-held x y a b c h
drawn-common x y a b c (inr (e, ab, ac, bc)) = rw (ne_eqb a b ab, ne_eqb a c ac, ne_eqb b c bc) (sym e)

-- The order of the three does not matter.
drawn-second : (x y a b c : ℕ) → Drawn x y b a c → Drawn x y a b c
drawn-second x y a b c (inl (inl (e, f))) = inl (inl (f, e))
drawn-second x y a b c (inl (inr (inl h))) = inl (inr (inr h))
drawn-second x y a b c (inl (inr (inr h))) = inl (inr (inl h))
drawn-second x y a b c (inr (e, ba, bc, ac)) = inr (e, (λ z. ba (sym z)), ac, bc)

drawn_third : (x y a b c : ℕ) → Drawn x y c a b → Drawn x y a b c
drawn_third x y a b c (inl (inl (e, f))) = inl (inr (inl (f, e)))
drawn_third x y a b c (inl (inr (inl (e, f)))) = inl (inr (inr (f, e)))
drawn_third x y a b c (inl (inr (inr h))) = inl (inl h)
drawn_third x y a b c (inr (e, ca, cb, ab)) = inr (e, ab, (λ z. ca (sym z)), (λ z. cb (sym z)))

-- y differs from a just where a differs from both others and these agree, and there it agrees with b.
mixed_drawn : (a b c y : ℕ) → not (eqb a y) ≡ (not (eqb a b) && not (eqb a c)) && not (not (eqb b c)) →
    not (eqb b y) && ((not (eqb a b) && not (eqb a c)) && not (not (eqb b c))) ≡ false → Drawn a y a b c
mixed_drawn a b c y = go (eqb a b) refl (eqb a c) refl (eqb b c) refl (eqb a y) refl (eqb b y) refl
  where
    go : (p : Bool) → eqb a b ≡ p → (q : Bool) → eqb a c ≡ q → (r : Bool) → eqb b c ≡ r → (s : Bool) → eqb a y ≡ s →
        (t : Bool) → eqb b y ≡ t → not s ≡ (not p && not q) && not (not r) → not t && ((not p && not q) && not (not r)) ≡ false → Drawn a y a b c
    go true ab q ac r bc true ay t by e f = inl (inl (sym (eqb-true a y ay), sym (eqb-true a y ay) ∙ eqb-true a b ab))
    go true ab q ac r bc false ay t by e f = absurd (false≢true (sym e))
    go false ab true ac r bc true ay t by e f = inl (inr (inl (sym (eqb-true a y ay), sym (eqb-true a y ay) ∙ eqb-true a c ac)))
    go false ab true ac r bc false ay t by e f = absurd (false≢true (sym e))
    go false ab false ac true bc s ay true by e f = inl (inr (inr (sym (eqb-true b y by), sym (eqb-true b y by) ∙ eqb-true b c bc)))
    go false ab false ac true bc s ay false by e f = absurd (false≢true (sym f))
    go false ab false ac false bc true ay t by e f = inr (sym (eqb-true a y ay), eqb-false a b ab, eqb-false a c ac, eqb-false b c bc)
    go false ab false ac false bc false ay t by e f = absurd (false≢true (sym e))

module _ (states : Bytes) (made m : ℕ) (narrow : Narrow states made m) (rows : 64 * made ≤ length states) where
  -- From character m on no row made has a state, so what mismatches tell holds of all 64 characters.
  everywhere : (p q : ℕ → Bool) → bits_of p m 0 ≡ bits_of q m 0 → ((c : ℕ) → m ≤ c → c < 64 → p c ≡ q c) → (c : ℕ) → c < 64 → p c ≡ q c
  everywhere p q e past c h = elim (dec_lt c m) [
    | yes l ↦ word_same p q m 0 e c (omega arith) (omega arith)
    | no f ↦ past c (omega arith) h
  ]

  abbrev at : ℕ → ℕ → ℕ
  at i c = get_or states (64 * i + c) 0

  size : (i : ℕ) → i < made → length (stored_at states i) ≡ 64
  size i h = length-stored_at states i (omega arith)

  -- A row whose states are drawn from three others is their median vector.
  drawn-median : (x y u v w : ℕ) → x < made → y < made → ((c : ℕ) → c < 64 → Drawn (at x c) (at y c) (at u c) (at v c) (at w c)) →
      stored_at states y ≡ median (stored_at states x) (stored_at states u) (stored_at states v) (stored_at states w)
  drawn-median x y u v w hx hy drawn =
      sym (median-is _ _ _ _ (stored_at states y) (size x hx ∙ sym (size y hy)) (λ c h.
      let k : c < 64 = omega (arith, size y hy) in
      rw (stored_at-state states x c k, stored_at-state states u c k, stored_at-state states v c k, stored_at-state states w c k, stored_at-state states y c k)
      (drawn-common (at x c) (at y c) (at u c) (at v c) (at w c) (drawn c k))))

  -- The states of a row mixed of u's and v's, by the mismatches of u, v and w.
  module _ (u v w : ℕ) (hu : u < made) (hv : v < made) {uv uw vw k : ℕ} (uv_is : uv ≡ mismatches_in states m u v) (uw_is : uw ≡ mismatches_in states m u w)
      (vw_is : vw ≡ mismatches_in states m v w) (k-is : k ≡ alone_in uv uw vw) (x : Mixed states m made u v k) where
    abbrev mix : ℕ → Bool
    mix c = (differ states u v c && differ states u w c) && not (differ states v w c)

    mix-is : k ≡ bits_of mix m 0
    mix-is = k-is ∙ rw (uv_is, uw_is, vw_is) (word_alone (differ states u v) (differ states u w) (differ states v w) m 0)

    mixed_states : (c : ℕ) → c < 64 → Drawn (at u c) (at x.row c) (at u c) (at v c) (at w c)
    mixed_states c h =
        let y = x.row in
        let hy = x.is_made in
        mixed_drawn (at u c) (at v c) (at w c) (at y c)
        (everywhere (differ states u y) mix (x.with_first ∙ mix-is)
        (λ c l h. rw (narrow.zeros c l h u hu, narrow.zeros c l h v hv, narrow.zeros c l h y hy)) c h)
        (everywhere (λ c. differ states v y c && mix c) (λ c. false)
        (sym (word_and (differ states v y) mix m 0) ∙ ap (bit_and (mismatches_in states m v y)) (sym mix-is) ∙ x.with_second ∙ sym (bits_none m 0))
        (λ c l h. rw (narrow.zeros c l h v hv, narrow.zeros c l h y hy)) c h)

  module _ (t : Triplet) (p : Pairs) (hu : t.u < made) (hv : t.v < made) (hw : t.w < made) (pairs : PairsOf states m t p) where
    -- Where in no character all three differ, every state drawn is held by two.
    never_three : bit_and (bit_and p.uv p.uw) p.vw ≡ 0 → (c : ℕ) → c < 64 →
        (differ states t.u t.v c && differ states t.u t.w c) && differ states t.v t.w c ≡ false
    never_three e =
        let both : ℕ → Bool = λ c. differ states t.u t.v c && differ states t.u t.w c in
        everywhere (λ c. both c && differ states t.v t.w c) (λ c. false)
        (rw (pairs.uv_is, pairs.uw_is, pairs.vw_is, word_and (differ states t.u t.v) (differ states t.u t.w) m 0, word_and both (differ states t.v t.w) m 0) at e
        ∙ sym (bits_none m 0))
        (λ c l h. rw (narrow.zeros c l h t.u hu, narrow.zeros c l h t.v hv))

    drawn-held : {x y : ℕ} (c : ℕ) → (differ states t.u t.v c && differ states t.u t.w c) && differ states t.v t.w c ≡ false →
        Drawn x y (at t.u c) (at t.v c) (at t.w c) → Held y (at t.u c) (at t.v c) (at t.w c)
    drawn-held c e (inl h) = h
    drawn-held c e (inr (f, uv, uw, vw)) =
        absurd (false≢true (sym (rw (ne_eqb (at t.u c) (at t.v c) uv, ne_eqb (at t.u c) (at t.w c) uw, ne_eqb (at t.v c) (at t.w c) vw) at e)))

    -- So the median vectors are one.
    pub settled-one : {k : ℕ} → bit_and (bit_and p.uv p.uw) p.vw ≡ 0 → k ≡ alone_in p.uv p.uw p.vw →
        Mixed states m made t.u t.v k → Settled states made t
    settled-one unknown e x =
        let y = x.row in
        let hy = x.is_made in
        each-median (λ r. (i : ℕ) × (i < made) × (stored_at states i ≡ r)) _ _ _ (λ r o. (
          y,
          hy,
          sym (median-held r _ _ _ (stored_at states y) (one_of_length 64 (size t.u hu) (size t.v hv) (size t.w hw) o ∙ sym (size y hy)) (λ c h.
              let k : c < 64 = omega (arith, size y hy) in
              rw (stored_at-state states y c k, stored_at-state states t.u c k, stored_at-state states t.v c k, stored_at-state states t.w c k)
              (drawn-held c (never_three unknown c k) (mixed_states t.u t.v t.w hu hv pairs.uv_is pairs.uw_is pairs.vw_is e x c k)))),
        ))

    -- Else they are three.
    pub settled-three : {k l n : ℕ} → k ≡ alone_in p.uv p.uw p.vw → l ≡ alone_in p.uv p.vw p.uw → n ≡ alone_in p.uw p.vw p.uv →
        Mixed states m made t.u t.v k → Mixed states m made t.v t.u l → Mixed states m made t.w t.u n → Settled states made t
    settled-three e f g x y z zero h = (
      x.row,
      x.is_made,
      drawn-median _ _ _ _ _ hu x.is_made (mixed_states t.u t.v t.w hu hv pairs.uv_is pairs.uw_is pairs.vw_is e x),
    )
    settled-three e f g x y z (suc zero) h =
        let vu-is = pairs.uv_is ∙ apart_sym states m t.u t.v in (
          y.row,
          y.is_made,
          drawn-median _ _ _ _ _ hv y.is_made (λ c k.
              drawn-second _ _ _ _ _ (mixed_states t.v t.u t.w hv hu vu-is pairs.vw_is pairs.uw_is f y c k)),
        )
    settled-three e f g x y z (suc (suc zero)) h =
        let wu-is = pairs.uw_is ∙ apart_sym states m t.u t.w in
        let wv-is = pairs.vw_is ∙ apart_sym states m t.v t.w in (
          z.row,
          z.is_made,
          drawn-median _ _ _ _ _ hw z.is_made (λ c k.
              drawn_third _ _ _ _ _ (mixed_states t.w t.u t.v hw hu wu-is wv-is pairs.uv_is g z c k)),
        )
    settled-three e f g x y z (suc (suc (suc k))) h = absurd (omega arith)
