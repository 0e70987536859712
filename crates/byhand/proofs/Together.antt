-- Two `&` slices that a walk passes to a call which has one lifetime for both: one at κ, which it was passed, and one at a lifetime ν that it made.
-- Both are shortened to the meet, ν ∷ κ.
--     Parted           what is kept of ν's token meanwhile
--     meet             the tokens are made one, and each slice is at the meet
--     part             the tokens again, after the call
-- Assumes `Logic`. What a `&` holds is shortened by the `RowLaws` of the element's type.
use Prim.Native.Nat.{ℕ}
use mathlib.Core.List.{List, [], ◌∷◌}
use seplogic.Ra.Ura.{Ura}
use base.Fraction.{full_share}
use mir.Syntax.{erased}
use mir.Val.{Val}
use base.Logic.{SProp, ent, wand, apply∗}
use base.Fml.{Lft, Share, Incl, flft, fhide}
use types.Logic.{Logic, sem}
use types.Kit.{Item, Goal, Step, step, ‵, raw, ◌⊛◌, ◌$◌, ◌∵◌, !, qed, move, use1, use2, split, fsplit, fjoin, done}
use denote.RattleType.{RattleType, RowLaws}
use denote.SharingLaws.{shortens}
use denote.Ref.{Bor}
use denote.Slice.{ShrSlice, elements_shared, elements_shr_laws}
use contract.BorrowLft.{meet_⊑_left, meet_⊑_right}

abbrev pub Parted : {M : Type 1} {𝓤 : Ura M} → (𝓛 : Logic 𝓤) → ℕ → Share → SProp 𝓤
Parted {𝓤 = 𝓤} 𝓛 ν q = wand 𝓤 (𝓛.A.lft (ν ∷ []) q) (𝓛.A.lft (ν ∷ []) full_share)

shortened : {M : Type 1} {𝓤 : Ura M} (𝓛 : Logic 𝓤) (R : RattleType) → RowLaws R → (κ κ' : Lft) → Incl κ' κ
    → (x : Bor (List R.Denot)) (vs : List Val) → ent 𝓤 (sem 𝓛 ((ShrSlice erased κ R).own_val x vs)) (sem 𝓛 ((ShrSlice erased κ' R).own_val x vs))
shortened 𝓛 R laws κ κ' within x vs =
    let all = elements_shared R x.now x.ref_ptr.0 x.ref_ptr.1 in
    qed 𝓛 (‵ ((ShrSlice erased κ R).own_val x vs) ∷ []) ∵ fsplit ! $ move ! (1 ∷ []) $
    use1 𝓛 (‵ (fhide (all κ'))) (shortens 𝓛 all (elements_shr_laws R laws x.now x.ref_ptr.0 x.ref_ptr.1) κ κ' within) $
    -- [what is held of the elements; the machine value and the room]
    move ! (1 ∷ 0 ∷ []) $ fjoin ! $ done !

module _ {M : Type 1} {𝓤 : Ura M} {𝓛 : Logic 𝓤} {K : Type 0} {Γ : List (Item 𝓤)} {G : Goal 𝓤 𝓛.H} where
  open 𝓛 use {A}

  pub meet : K → (R : RattleType) → RowLaws R → {ν : ℕ} {κ : Lft} {q : Share} (x y : Bor (List R.Denot)) (us vs : List Val)
      → Step K 𝓛 (‵ (flft (ν ∷ κ) q) ∷ ‵ ((ShrSlice erased (ν ∷ κ) R).own_val x us) ∷ ‵ ((ShrSlice erased (ν ∷ κ) R).own_val y vs) ∷ raw (Parted 𝓛 ν q) ∷ Γ) G
      (‵ (flft (ν ∷ []) full_share) ∷ ‵ ((ShrSlice erased (ν ∷ []) R).own_val x us) ∷ ‵ (flft κ q) ∷ ‵ ((ShrSlice erased κ R).own_val y vs) ∷ Γ) G
  meet t R laws {ν} {κ} {q} x y us vs = step (λ s.
      use1 𝓛 (‵ (flft (ν ∷ []) q) ⊛ raw (Parted 𝓛 ν q)) (𝓛.lfts.lft_carve ν q) $ split t $ move t (0 ∷ 3 ∷ []) $
      use2 𝓛 (‵ (flft (ν ∷ κ) q)) (𝓛.lfts.lft_meet (ν ∷ []) κ q) $ move t (2 ∷ []) $
      use1 𝓛 (‵ ((ShrSlice erased (ν ∷ κ) R).own_val x us)) (shortened 𝓛 R laws (ν ∷ []) (ν ∷ κ) (meet_⊑_left (ν ∷ []) κ) x us) $ move t (3 ∷ []) $
      use1 𝓛 (‵ ((ShrSlice erased (ν ∷ κ) R).own_val y vs)) (shortened 𝓛 R laws κ (ν ∷ κ) (meet_⊑_right (ν ∷ []) κ) y vs) $ move t (2 ∷ 1 ∷ 0 ∷ []) $ s)

  pub part : K → {ν : ℕ} {κ : Lft} {q : Share} → Step K 𝓛 (‵ (flft (ν ∷ []) full_share) ∷ ‵ (flft κ q) ∷ Γ) G (‵ (flft (ν ∷ κ) q) ∷ raw (Parted 𝓛 ν q) ∷ Γ) G
  part t {ν} {κ} {q} = step (λ s.
      use1 𝓛 (‵ (flft (ν ∷ []) q) ⊛ ‵ (flft κ q)) (𝓛.lfts.lft_unmeet (ν ∷ []) κ q) $ split t $ move t (0 ∷ 2 ∷ []) $
      use2 𝓛 (‵ (flft (ν ∷ []) full_share)) (apply∗ 𝓤 (A.lft (ν ∷ []) q) (A.lft (ν ∷ []) full_share)) $ s)
