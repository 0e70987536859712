-- An array in a local that a walk lends to a call as a `&mut [T]`, for a lifetime of the call's own, and has back after it. It is the sibling of `Again.antt`.
--     cell b v         the array's cell, in the local b, at the machine value v
--     on-whole ν δ     the slice of all its elements, as it is passed on when the array is lent for ν under the name δ
--     LentWhole        what is kept of the array meanwhile: the lender's part
--     lends-whole      ν is made, and the array is lent for it
--     whole_back       ν is ended, and the array is back, at the list that the call left. What it owns is let go, and its relation learned
--     whole_back_left  the same from all that the call left, as `Lend.antt`'s `gave` has it
--     big-lit          an operand that is a large literal, as the slice's count is
-- Assumes `Logic`, and that T has one MIR type.
use mathlib.Core.Path.{refl, sym, subst}
use Prim.Native.Nat.{ℕ, ◌<◌, ◌^◌}
use mathlib.Core.List.{List, [], ◌∷◌}
use lib.ListN.{length}
use seplogic.Ra.Ura.{Ura}
use base.Fraction.{full_share}
use mir.Syntax.{Width, erased, int_big, ty_array}
use mir.Val.{Val, vint, Fits}
use base.Logic.{via, guard_i}
use base.Fml.{GName, Fml, fsep, fat, flft, flent, fbor}
use prog.Wp.{Env}
use types.Logic.{Logic}
use types.Kit.{Item, Goal, Soaks, Seq, ‵, ◌⊛◌, some, later, ◌$◌, move, use1, use3, drop, split, join, rewrite, pick, fsplit, fjoin, fpick, fpack, feq_l, await}
use types.Run.{Opd}
use types.Tokens.{lft_new, lft_end}
use types.SemTy.{Arr}
use types.Share.{arr_parts}
use denote.RattleType.{RattleType}
use denote.Laws.{Is, shows}
use denote.Memory.{cell_at, lone, mem, part_at, part_of, shares}
use denote.Slice.{MutSlice, Room, finally}
use denote.Array.{Array, array_val}
use denote.ArrayMemory.{Single, Array-apart, Array-whole}
use denote.Lend.{Held, lends_slice, slice_back}
use denote.Steps.{facts}
use borrow.Rule.Slice.Shared.{parts-cells}
use Rattle.byhand.proofs.Lend.{Passed, value, held}

module _ (R : RattleType) (n b : ℕ) where
  abbrev pub cell : Val → Fml
  cell v = fat full_share (ty_array (lone R.mir) n) b 0 v

  abbrev pub LentWhole : ℕ → GName → Fml
  LentWhole ν δ = flent (ν ∷ []) (Held R n b 0 δ)

  abbrev pub on-whole : (xs : List R.Denot) → length xs < 2 ^ 64 → ℕ → GName → Passed R
  on-whole xs fits ν δ = record { lft = ν ∷ []; share = full_share; ref = record { ref_ptr = (b, 0); ghost_name = δ; now = xs }; fits = fits }

module _ {M : Type 1} {𝓤 : Ura M} {𝓛 : Logic 𝓤} {K : Type 0} {Γ : List (Item 𝓤)} where
  open 𝓛 use {H}

  pub big_lit : K → {E : Env 𝓤 H} {w : Width} {n : ℕ} → Fits w n → Opd K 𝓛 Γ E (int_big w n) (vint w n)
  big_lit t {w = w} {n = n} z = record { go = λ Kt h. via 𝓤 (Kt (vint w n)) h (guard_i 𝓤 (Fits w n) (Kt (vint w n)) z) }

  module _ {G : Goal 𝓤 H} where
    pub lends-whole : K → Soaks G → (R : RattleType) → Single R.mir → (n b : ℕ) → Room R n → (xs : List R.Denot) (fits : length xs < 2 ^ 64) (v : Val)
        → ((ν : ℕ) (δ : GName) → Seq K 𝓛 (held (on-whole R n b xs fits ν δ) xs ∷ ‵ (LentWhole R n b ν δ) ∷ Γ) G)
        → Seq K 𝓛 (‵ (cell R n b v) ∷ ‵ ((Array R n).own_val xs (v ∷ [])) ∷ Γ) G
    unfolding part_of
    lends-whole t z R one n b room xs fits v k =
        let slice : ℕ → GName → Fml = λ ν δ. (MutSlice erased (ν ∷ []) R).own_val (on-whole R n b xs fits ν δ).ref (value (on-whole R n b xs fits ν δ) ∷ []) in
        use1 𝓛 (‵ (cell_at full_share (Array R n).mir (v ∷ []) b 0)) (𝓛.laws.at_raw full_share (ty_array (lone R.mir) n) b 0 v) $ fjoin t $
        fpack t (List Val) (λ vs. fsep (cell_at full_share (Array R n).mir vs b 0) ((Array R n).own_val xs vs)) (v ∷ []) $
        use1 𝓛 (‵ ((arr_parts (shares R) n).part full_share xs b 0)) (Array-apart 𝓛 R full_share one n xs b 0) $ fsplit t $ feq_l t (λ e.
        rewrite t 0 (λ (F : Fml). ‵ F) (parts-cells R full_share xs b 0) refl $ lft_new t z (λ ν. move t (1 ∷ []) $
        use1 𝓛 (later (some (λ (δ : GName). ‵ (slice ν δ) ⊛ ‵ (LentWhole R (length xs) b ν δ))))
        (lends_slice 𝓛 R erased (ν ∷ []) xs b 0 (subst (λ (m : ℕ). Room R m) (sym e) room)) $ await t z $ pick t (λ δ. split t $
        -- [the slice; the lender's part; ν's token]
        rewrite t 1 (λ (m : ℕ). ‵ (LentWhole R m b ν δ)) e refl $ move t (0 ∷ 2 ∷ []) $ join t $ k ν δ)))

    pub whole_back : K → Soaks G → (R : RattleType) (n b : ℕ) (ys : List R.Denot) {ν : ℕ} {δ : GName}
        → ((v : Val) → Is (Array R n) ys (v ∷ []) → Seq K 𝓛 (‵ (cell R n b v) ∷ Γ) G)
        → Seq K 𝓛 ((‵ (finally R δ ys) ⊛ ‵ (flft (ν ∷ []) full_share)) ∷ ‵ (LentWhole R n b ν δ) ∷ Γ) G
    unfolding part_of
    whole_back t z R n b ys {ν} {δ} k =
        split t $ move t (1 ∷ []) $ lft_end t z $ move t (0 ∷ 2 ∷ []) $
        use3 𝓛 (later (‵ ((Arr (mem R) n).own_at ys b 0))) (slice_back 𝓛 R (ν ∷ []) δ ys n b 0) $ await t z $ fsplit t $ move t (1 ∷ []) $
        rewrite t 0 (λ (F : Fml). ‵ F) (sym (parts-cells R full_share ys b 0)) refl $ move t (1 ∷ 0 ∷ []) $ fjoin t $
        use1 𝓛 (‵ (part_at (Array R n) full_share ys b 0)) (Array-whole 𝓛 R full_share n ys b 0) $ fpick t (λ vs. fsplit t $ move t (1 ∷ []) $
        -- [what the elements own; the cell]
        facts t (Array R n) (Is (Array R n)) (shows 𝓛 (Array R n)) ys vs (λ is.
        rewrite t 0 (λ (us : List Val). ‵ (cell_at full_share (Array R n).mir us b 0)) is.1.0.0 refl $
        use1 𝓛 (‵ (cell R n b (array_val is.0))) (𝓛.laws.raw_at full_share (ty_array (lone R.mir) n) b 0 (array_val is.0)) $
        k (array_val is.0) (subst (Is (Array R n) ys) is.1.0.0 is)))

    pub whole_back_left : K → Soaks G → (R : RattleType) (n b : ℕ) (ys : List R.Denot) {ν : ℕ} {δ : GName}
        → ((v : Val) → Is (Array R n) ys (v ∷ []) → Seq K 𝓛 (‵ (cell R n b v) ∷ Γ) G)
        → Seq K 𝓛
        ((‵ (fsep (finally R δ ys) (fbor (ν ∷ []) (Held R (length ys) b 0 δ))) ⊛ ‵ (flft (ν ∷ []) full_share)) ∷ ‵ (LentWhole R n b ν δ) ∷ Γ) G
    whole_back_left t z R n b ys k =
        split t $ fsplit t $ move t (1 ∷ []) $ drop t $ join t $ whole_back t z R n b ys k
