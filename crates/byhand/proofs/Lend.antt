-- The slices that a walked function was passed, in steps of its walk: each `&mut` is lent to a call for a lifetime of the call's own, as a
-- `&mut` (`Again.antt`) or as a `&` (`Shared.antt`), and is back after it.
--     Passed R         a `&mut` slice of R that a function was passed: its lifetime, the share of the token, the reference, and that the count is a usize
--     entry, value     the list that it was passed with, and its machine value, which stays as the list changes
--     well_typed       that the machine value is of the slice's type, as the entry of the function asks
--     PassedShr R      the same of a `&` slice, whose reference has no ghost name.        entry_shr, value_shr, well_typed_shr      likewise
--     named x δ l      the slice under another ghost name, at the list l
--     shown x l        the slice as a `&`, which has no ghost name, at the list l
--     left_at x κ δ l  what a call leaves of the slice that was lent to it at κ under the name δ: what says its last list, l, and the borrow, closed
--     held x l         what a walk has of a `&mut`: the slice at the list l, and the token
--     gave x l         what a walk has of one that it has given up for good: what the call left of it, at its last list, and the token
--     lends, back      a lifetime ν is made, and x is lent for it under the name δ; ν is ended, and x is back at the list that the call left
--     back_left        the same from all that the call left
--     lends_shr, back_shr      the same as a `&`. The elements are shared out with half of x's token beside ν's, so at x's own lifetime
-- Assumes `Logic`. `lends_shr` takes the laws of the element's type: its `RowLaws`, and that it is shared out at x's lifetime (`Denote/Shares.antt`).
use mathlib.Core.Path.{◌≡◌, refl, sym, ◌∙◌, ap, subst}
use Prim.Native.Nat.{ℕ, ◌<◌, ◌^◌}
use mathlib.Core.List.{List, [], ◌∷◌}
use lib.ListN.{length}
use seplogic.Ra.Ura.{Ura}
use base.Fraction.{full_share}
use mir.Syntax.{erased}
use mir.Val.{Val, WT}
use base.Share
use base.Logic.{id⊢}
use base.Fml.{Lft, GName, Share, Fml, fsep, flft, fbor}
use ghost.Rules.{Toks}
use types.Logic.{Logic, lfts}
use types.Kit.{Item, Goal, Soaks, Seq, Step, step, ‵, raw, ◌⊛◌, some, later, ◌$◌, move, use1, use2, use3, drop, split, join, pick, fsplit, fjoin, await}
use types.Tokens.{lft_new, lft_end}
use contract.BorrowLft.{meet_⊑_left, meet_⊑_right}
use denote.RattleType.{RattleType, RowLaws}
use denote.Shadow.{pure_l, pure_i}
use denote.Shares.{Shares}
use denote.Lend.{Held}
use denote.Ref.{Bor, MutBor}
use denote.Slice.{MutSlice, ShrSlice, Room, slice_val, finally, shr_slice_at, mut_slice_at}
use Rattle.byhand.proofs.Again.{LentAgain, lends_again, comes_back}
use Rattle.byhand.proofs.Shared.{LentShared, lends_shared, comes_back-shared}

pub record Passed (R : RattleType) : Type 0 where
  pub lft : Lft
  pub share : Share
  pub ref : MutBor (List R.Denot)
  pub fits : length ref.now < 2 ^ 64

pub record PassedShr (R : RattleType) : Type 0 where
  pub lft : Lft
  pub share : Share
  pub ref : Bor (List R.Denot)
  pub fits : length ref.now < 2 ^ 64

module _ {R : RattleType} (x : PassedShr R) where
  abbrev pub entry_shr : List R.Denot
  entry_shr = x.ref.now

  abbrev pub value_shr : Val
  value_shr = slice_val x.ref.ref_ptr (length entry_shr)

  pub well_typed_shr : Unit {0} × WT value_shr
  well_typed_shr = (tt, (tt, (record { fits = x.fits }, tt)))

module _ {R : RattleType} (x : Passed R) where
  abbrev pub entry : List R.Denot
  entry = x.ref.now

  abbrev pub value : Val
  value = slice_val x.ref.ref_ptr (length entry)

  pub well_typed : Unit {0} × WT value
  well_typed = (tt, (tt, (record { fits = x.fits }, tt)))

  abbrev pub named : GName → List R.Denot → MutBor (List R.Denot)
  named δ l = record { ref_ptr = x.ref.ref_ptr; ghost_name = δ; now = l }

  abbrev pub shown : List R.Denot → Bor (List R.Denot)
  shown l = record { ref_ptr = x.ref.ref_ptr; now = l }

  abbrev pub left_at : Lft → GName → List R.Denot → Fml
  left_at κ δ l = fsep (finally R δ l) (fbor κ (Held R (length l) x.ref.ref_ptr.0 x.ref.ref_ptr.1 δ))

  -- the machine value of a slice at l, which is x's, and what x owns at l
  abbrev counted : List R.Denot → List Val
  counted l = slice_val x.ref.ref_ptr (length l) ∷ []

  abbrev known : List R.Denot → Fml
  known l = mut_slice_at R (named x.ref.ghost_name l) (value ∷ [])

  abbrev Own : List R.Denot → List Val → Fml
  Own l = (MutSlice erased x.lft R).own_val (named x.ref.ghost_name l)

  -- what is kept of it while it is lent as a `&mut`
  abbrev kept : List R.Denot → ℕ → GName → Fml
  kept l ν δ = LentAgain R x.lft (ν ∷ []) x.share x.ref.ghost_name x.ref.ref_ptr.0 x.ref.ref_ptr.1 δ l

  -- with what tokens it is lent as a `&`
  abbrev shares_with : ℕ → Toks
  shares_with ν = (ν ∷ [], full_share) ∷ (x.lft, Share.right x.share) ∷ []

  -- and what is kept of it meanwhile
  module _ {M : Type 1} {𝓤 : Ura M} (𝓛 : Logic 𝓤) where
    abbrev lent_shr : List R.Denot → ℕ → Item 𝓤
    lent_shr l ν = LentShared R x.lft (ν ∷ []) (Share.left x.share) x.ref.ghost_name x.ref.ref_ptr.0 x.ref.ref_ptr.1 𝓛 l

    abbrev kept_shr : List R.Denot → ℕ → Item 𝓤
    kept_shr l ν = ‵ (known l) ⊛ (lent_shr l ν ⊛ ‵ (flft x.lft (Share.right x.share)))

  module _ {M : Type 1} {𝓤 : Ura M} where
    abbrev pub held : List R.Denot → Item 𝓤
    held l = ‵ (Own l (value ∷ [])) ⊛ ‵ (flft x.lft x.share)

    abbrev pub gave : List R.Denot → Item 𝓤
    gave l = ‵ (left_at x.lft x.ref.ghost_name l) ⊛ ‵ (flft x.lft x.share)

module _ {M : Type 1} {𝓤 : Ura M} {𝓛 : Logic 𝓤} {K : Type 0} {Γ : List (Item 𝓤)} {G : Goal 𝓤 𝓛.H} where
  recounts : K → {R : RattleType} (x : Passed R) (l : List R.Denot)
      → (value x ∷ [] ≡ counted x l → Room R (length l) → Seq K 𝓛 (‵ (Own x l (counted x l)) ∷ ‵ (flft x.lft x.share) ∷ Γ) G) → Seq K 𝓛 (held x l ∷ Γ) G
  recounts t {R} x l k =
      split t $ fsplit t $ pure_l t (known x l) (λ p.
      pure_i t (mut_slice_at R (named x x.ref.ghost_name l) (counted x l)) (tt, (tt, tt)) (refl, p.1) $ fjoin t $ k p.0 p.1)

  pub lends : K → Soaks G → {R : RattleType} (x : Passed R) (l : List R.Denot)
      → ((ν : ℕ) (δ : GName)
      → Seq K 𝓛 (‵ (flft (ν ∷ []) full_share) ∷ ‵ ((MutSlice erased (ν ∷ []) R).own_val (named x δ l) (value x ∷ []))
      ∷ ‵ (fsep (known x l) (kept x l ν δ)) ∷ Γ) G)
      → Seq K 𝓛 (held x l ∷ Γ) G
  lends t z {R} x l k = recounts t x l (λ e g. lft_new t z (λ ν. move t (1 ∷ 2 ∷ []) $
      use2 𝓛 (later (some (λ (δ : GName). ‵ ((MutSlice erased (ν ∷ []) R).own_val (named x δ l) (counted x l)) ⊛ ‵ (kept x l ν δ))))
      (lends_again R x.lft (ν ∷ []) x.share x.ref.ghost_name x.ref.ref_ptr.0 x.ref.ref_ptr.1 𝓛 erased erased l) $ await t z $ pick t (λ δ. split t $
      -- [the slice lent; what is kept; ν's token]
      fsplit t $ drop t $ pure_i t (mut_slice_at R (named x δ l) (value x ∷ [])) (tt, (tt, tt)) (e, g) $ fjoin t $
      move t (1 ∷ []) $ pure_i t (known x l) (tt, (tt, tt)) (e, g) $ fjoin t $ move t (2 ∷ 1 ∷ []) $ k ν δ)))

  pub back : K → Soaks G → {R : RattleType} (x : Passed R) (l l' : List R.Denot) {ν : ℕ} {δ : GName} → length l' ≡ length l
      → Step K 𝓛 (held x l' ∷ Γ) G (‵ (flft (ν ∷ []) full_share) ∷ ‵ (fsep (known x l) (kept x l ν δ)) ∷ ‵ (finally R δ l') ∷ Γ) G
  back t z {R} x l l' {ν} {δ} e = step (λ s. lft_end t z $ move t (1 ∷ []) $ fsplit t $ pure_l t (known x l) (λ p. move t (1 ∷ 0 ∷ []) $
      use3 𝓛 (later (‵ (Own x l' (counted x l)) ⊛ ‵ (flft x.lft x.share)))
      (comes_back R x.lft (ν ∷ []) x.share x.ref.ghost_name x.ref.ref_ptr.0 x.ref.ref_ptr.1 𝓛 erased erased l δ l' p.1 e) $ await t z $
      split t $ fsplit t $ drop t $
      pure_i t (known x l') (tt, (tt, tt)) (p.0 ∙ ap (λ (m : ℕ). slice_val x.ref.ref_ptr m ∷ []) (sym e), subst (Room R) (sym e) p.1) $
      fjoin t $ join t $ s))

  pub back_left : K → Soaks G → {R : RattleType} (x : Passed R) (l l' : List R.Denot) {ν : ℕ} {δ : GName} → length l' ≡ length l
      → Step K 𝓛 (held x l' ∷ Γ) G (‵ (flft (ν ∷ []) full_share) ∷ ‵ (fsep (known x l) (kept x l ν δ)) ∷ ‵ (left_at x (ν ∷ []) δ l') ∷ Γ) G
  back_left t z x l l' e = step (λ s. move t (2 ∷ []) $ fsplit t $ move t (1 ∷ []) $ drop t $ move t (1 ∷ 2 ∷ 0 ∷ []) $ back t z x l l' e $ s)

  pub lends_shr : K → Soaks G → {R : RattleType} (x : Passed R) (l : List R.Denot) → RowLaws R → Shares 𝓛 R x.lft
      → ((ν : ℕ)
      → Seq K 𝓛 (‵ (flft (ν ∷ []) full_share) ∷ ‵ ((ShrSlice erased (ν ∷ []) R).own_val (shown x l) (value x ∷ [])) ∷ kept_shr x 𝓛 l ν ∷ Γ) G)
      → Seq K 𝓛 (held x l ∷ Γ) G
  lends_shr t z {R} x l laws shares k = recounts t x l (λ e g. lft_new t z (λ ν.
      let ts = shares_with x ν in
      let half = ‵ (flft x.lft (Share.right x.share)) in
      move t (2 ∷ []) $ use1 𝓛 (‵ (flft x.lft (Share.left x.share)) ⊛ half) (𝓛.lfts.lft_split x.lft x.share) $ split t $
      -- [one half of the token; the other; ν's token; the slice]
      move t (2 ∷ 1 ∷ []) $ use2 𝓛 (raw (lfts 𝓛 ts)) (id⊢ 𝓤 _) $ move t (2 ∷ 1 ∷ 0 ∷ []) $
      use3 𝓛 (later (‵ ((ShrSlice erased (ν ∷ []) R).own_val (shown x l) (counted x l)) ⊛ (lent_shr x 𝓛 l ν ⊛ raw (lfts 𝓛 ts))))
      (lends_shared R x.lft (ν ∷ []) (Share.left x.share) x.ref.ghost_name x.ref.ref_ptr.0 x.ref.ref_ptr.1 𝓛 erased erased l laws x.lft shares ts
      (meet_⊑_right (ν ∷ []) x.lft) (meet_⊑_left (ν ∷ []) x.lft)) $
      await t z $ split t $
      -- [the slice lent; what is kept and the tokens]
      fsplit t $ drop t $ pure_i t (shr_slice_at R (shown x l) (value x ∷ [])) (tt, (tt, tt)) (e, g) $ fjoin t $
      move t (1 ∷ []) $ split t $ move t (1 ∷ []) $ use1 𝓛 (‵ (flft (ν ∷ []) full_share) ⊛ half) (id⊢ 𝓤 _) $ split t $
      -- [ν's token; half of the other; what is kept; the slice lent]
      move t (2 ∷ 1 ∷ []) $ join t $ pure_i t (known x l) (tt, (tt, tt)) (e, g) $ join t $ move t (1 ∷ 2 ∷ 0 ∷ []) $ k ν))

  pub back_shr : K → Soaks G → {R : RattleType} (x : Passed R) (l : List R.Denot) {ν : ℕ}
      → Step K 𝓛 (held x l ∷ Γ) G (‵ (flft (ν ∷ []) full_share) ∷ kept_shr x 𝓛 l ν ∷ Γ) G
  back_shr t z {R} x l {ν} = step (λ s. lft_end t z $ move t (1 ∷ []) $ split t $ pure_l t (known x l) (λ p. split t $ move t (2 ∷ 0 ∷ []) $
      use2 𝓛 (later (‵ (Own x l (counted x l)) ⊛ ‵ (flft x.lft (Share.left x.share))))
      (comes_back-shared R x.lft (ν ∷ []) (Share.left x.share) x.ref.ghost_name x.ref.ref_ptr.0 x.ref.ref_ptr.1 𝓛 erased erased l) $ await t z $
      split t $ move t (1 ∷ 2 ∷ []) $ use2 𝓛 (‵ (flft x.lft x.share)) (𝓛.lfts.lft_join x.lft x.share) $ move t (1 ∷ []) $
      fsplit t $ drop t $ pure_i t (known x l) (tt, (tt, tt)) p $ fjoin t $ join t $ s))
