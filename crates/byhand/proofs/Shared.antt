-- A slice that is borrowed by `&mut` can be lent on as a `&`, for a lifetime κ' of a call alone, and be used again after it, as it was.
-- `lends_shared` makes the `&` that is handed on, and `LentShared` is what the lender keeps meanwhile. Once κ' has ended, `comes_back-shared`
-- gives the lender its own borrow again, and the token with it.
-- A `&` is made with tokens ts, which come back at once: their lifetimes end no later than κ', nor than l, at which the elements are shared out.
-- A type that can be copied is shared out with no token, `lends_copied`.
use mathlib.Core.Path.{refl}
use Prim.Native.Nat.{ℕ}
use mathlib.Core.List.{List, [], ◌∷◌}
use lib.ListN.{length}
use seplogic.Ra.Ura.{Ura}
use mir.Syntax.{Lifetime, erased}
use mir.Val.{Val}
use base.Logic.{ent, sep, emp, id⊢}
use base.Fml.{Lft, GName, Share, Fml, Incl, flft, fdead}
use ghost.Rules.{Toks, span}
use types.Logic.{Logic, sem, lfts}
use types.Kit.{Item, mean, ‵, raw, ◌⊛◌, later, ◌$◌, ◌∵◌, !, qed, use0, use2, use3, drop, move, split}
use types.Kit.{fsplit, fjoin, await, updating, now as at_once, done}
use denote.RattleType.{RattleType, RowLaws}
use denote.Shadow.{pure_l, pure_i}
use denote.Shares.{Shares}
use denote.Ref.{MutBor, as_bor}
use denote.Slice.{slice_val, MutSlice, ShrSlice, shr_slice_at, mut_slice_at, room}
use borrow.Table.Owned as O
use borrow.Table.Row.{Rho}
use borrow.Table.Own.{own_s}
use borrow.Table.Copies.{Cp}
use borrow.Rule.SharedLend.{each_copy}
use borrow.Rule.Array.Share.{share_cells}
use borrow.Rule.Slice.Reshare.{kept_s, sl_reshare_as, sl_reshare_back}

-- A slice of R at (b, o), which the lender holds at κ under the name γ.
module _ (R : RattleType) (κ κ' : Lft) (q : Share) (γ : GName) (b o : ℕ) where
  abbrev at-list : List R.Denot → MutBor (List R.Denot)
  at-list ys = record { ref_ptr = (b, o); ghost_name = γ; now = ys }

  module _ {M : Type 1} {𝓤 : Ura M} (𝓛 : Logic 𝓤) where
    abbrev pub LentShared : List R.Denot → Item 𝓤
    LentShared ys = kept_s 𝓛 R κ q κ' γ ys b o

  module _ {M : Type 1} {𝓤 : Ura M} (𝓛 : Logic 𝓤) (ℓ ℓ' : Lifetime) (ys : List R.Denot) where
    open 𝓛 use {H, A}

    abbrev vals : List Val
    vals = slice_val (b, o) (length ys) ∷ []

    -- what is owned of the slice: the lender's borrow, and the one that is handed on
    abbrev Own : Fml
    Own = (MutSlice ℓ κ R).own_val (at-list ys) vals

    abbrev Own' : Fml
    Own' = (ShrSlice ℓ' κ' R).own_val (as_bor (at-list ys)) vals

    pub lends_shared : RowLaws R → (l : Lft) → Shares 𝓛 R l → (ts : Toks) → Incl (span ts) l → Incl (span ts) κ' →
        ent 𝓤 (sep 𝓤 (sem 𝓛 Own) (sep 𝓤 (A.lft κ q) (lfts 𝓛 ts)))
        (H.⇛ (sep 𝓤 (sem 𝓛 Own') (sep 𝓤 (mean 𝓛 (LentShared 𝓛 ys)) (lfts 𝓛 ts))))
    lends_shared laws l shares ts within within' =
        let X = lfts 𝓛 ts in
        let shared = as_bor (at-list ys) in
        qed 𝓛 (‵ Own ∷ ‵ (flft κ q) ∷ raw X ∷ []) ∵ updating ! $
        fsplit ! $ pure_l ! (mut_slice_at R (at-list ys) vals) (λ p. pure_i ! (room R (length ys)) (tt, tt) p.1 $ fjoin ! $
        use3 𝓛 (later (‵ ((O.ShrSlice erased κ' R).own_val shared) ⊛ (LentShared 𝓛 ys ⊛ raw X)))
        (sl_reshare_as 𝓛 R κ q κ' b o γ X (λ zs has. share_cells 𝓛 R κ' b laws l shares ts within within' zs o has) ys) $
        await ! tt $ split ! $
        -- [what the `&` owns apart from its machine value; what is kept and the tokens]
        fsplit ! $ drop ! $ pure_i ! (shr_slice_at R shared vals) (tt, (tt, tt)) p $ fjoin ! $ move ! (1 ∷ []) $ split ! $
        move ! (2 ∷ 0 ∷ 1 ∷ []) $ at_once ! $ done !)

    pub lends_copied : RowLaws R → Cp R → ent 𝓤 (sep 𝓤 (sem 𝓛 Own) (A.lft κ q)) (H.⇛ (sep 𝓤 (sem 𝓛 Own') (mean 𝓛 (LentShared 𝓛 ys))))
    unfolding own_s
    lends_copied laws copied =
        let shared = as_bor (at-list ys) in
        let ρ : Rho = (0, κ' ∷ []) in
        qed 𝓛 (‵ Own ∷ ‵ (flft κ q) ∷ []) ∵ updating ! $
        fsplit ! $ pure_l ! (mut_slice_at R (at-list ys) vals) (λ p. pure_i ! (room R (length ys)) (tt, tt) p.1 $ fjoin ! $
        use0 𝓛 (raw (own_s 𝓛 ρ [])) (id⊢ 𝓤 (emp 𝓤)) $ move ! (1 ∷ 2 ∷ 0 ∷ []) $
        use3 𝓛 (later (‵ ((O.ShrSlice erased κ' R).own_val shared) ⊛ (LentShared 𝓛 ys ⊛ raw (own_s 𝓛 ρ []))))
        (sl_reshare_as 𝓛 R κ q κ' b o γ (own_s 𝓛 ρ []) (λ zs has. each_copy 𝓛 (λ _. Unit {0}) [] R laws 0 copied ρ tt zs b o has) ys) $
        await ! tt $ split ! $
        fsplit ! $ drop ! $ pure_i ! (shr_slice_at R shared vals) (tt, (tt, tt)) p $ fjoin ! $ move ! (1 ∷ []) $ split ! $ move ! (1 ∷ []) $ drop ! $
        move ! (1 ∷ 0 ∷ []) $ at_once ! $ done !)

    pub comes_back-shared : ent 𝓤 (sep 𝓤 (A.dead κ') (mean 𝓛 (LentShared 𝓛 ys))) (H.⇛ (sep 𝓤 (sem 𝓛 Own) (A.lft κ q)))
    comes_back-shared =
        qed 𝓛 (‵ (fdead κ') ∷ LentShared 𝓛 ys ∷ []) ∵ updating ! $
        use2 𝓛 (later (‵ ((O.MutSlice erased κ R).own_val (at-list ys)) ⊛ ‵ (flft κ q))) (sl_reshare_back 𝓛 R κ q κ' b o γ ys) $ await ! tt $ split ! $
        fsplit ! $ pure_l ! (room R (length ys)) (λ g. pure_i ! (mut_slice_at R (at-list ys) vals) (tt, (tt, tt)) (refl, g) $ fjoin ! $ at_once ! $ done !)
