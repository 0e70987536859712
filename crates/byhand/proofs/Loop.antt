-- A local is read, and a local is assigned. A loop counts from 0 to n, and behind it the function returns nothing: the steps of its turns that have
-- to do with the count, and the loop as a whole.
use mathlib.Core.Path.{◌≡◌, refl, sym, subst, ◌∙◌}
use mathlib.Core.Bool.{Bool, true, false}
use mathlib.Core.List.{List, [], ◌∷◌}
use Prim.Native.Nat.{ℕ, zero, suc, ◌+◌, ◌^◌, ◌≤◌, ◌<◌}
use native.Mathlib.Nat.{add-zero, zero-add}
use native.Mathlib.Numerals.{add-one}
use native.Mathlib.Omega.{arith}
use seplogic.Ra.Ura.{Ura}
use base.Fraction.{full_share}
use lib.Dec.{T}
use borrow.Author.Tests.{lt-ltb, le-ltb}
use mir.Syntax.{Ty, Rv as RValue, Opd as Operand, Body, w64, place, copy, int, opd_unit, rv_opd, op2, lt, add, unsigned, seq, assign}
use mir.Syntax.{cond, skip, exit, block, loop, return}
use mir.Val.{Val, WT, has_ty, vbool, vint, vunit}
use base.Logic.{SProp, ent, sep, via, id⊢, mono_r, guard_i}
use base.Fml.{Share, fat, froom}
use prog.Wp.{Heap, Out, next, Env, spot_of, after_seq, after_block, after_turn, Calls, Loops, Wp, at_return, Tables}
use types.Logic.{Logic}
use sound.Loop.{unroll}
use types.Kit.{Item, ‵, mean, ⋆, nth, del, put, pop, pull, unpull, assume⊢, Post, post, any_q, at_ret, Goal, prop, runs, frees, Step, step, ◌$◌, by, Sq}
use types.Run.{Opd, Rv, Writes, look, store, forget, stop, from, load, unit_lit, lit, of_opd, bin, assigns, assigns_last}
use types.Run.{stays, leaves_loop, returns, exec}

-- Local j, as an entry of the context: with room in it, and with a value in it, which is of its type.
module _ {M : Type 1} (𝓤 : Ura M) (H : Heap 𝓤) (E : Env 𝓤 H) (j : ℕ) where
  abbrev Room : Item 𝓤
  Room = ‵ (froom (spot_of 𝓤 H E j).0 (spot_of 𝓤 H E j).1 0)

  abbrev pub Holds : Val → Item 𝓤
  Holds v = ‵ (fat full_share (spot_of 𝓤 H E j).0 (spot_of 𝓤 H E j).1 0 v)

  abbrev Typed : Val → Type 0
  Typed v = T (has_ty (spot_of 𝓤 H E j).0 v)

module _ {M : Type 1} {𝓤 : Ura M} {𝓛 : Logic 𝓤} {K : Type 0} {Γ : List (Item 𝓤)} {E : Env 𝓤 𝓛.H} where
  -- Entry n of the context is the local.
  open 𝓛 use {H}

  pub local : K → (n : ℕ) {j : ℕ} {q : Share} {v : Val} → nth 𝓛 n Γ ≡ ‵ (fat q (spot_of 𝓤 H E j).0 (spot_of 𝓤 H E j).1 0 v) →
      Opd K 𝓛 Γ E (copy (place j [])) v
  local t n e = load t (from t (stop t)) (look t n e)

  pub sets : K → {j : ℕ} {rv : RValue} {v : Val} {Γ' : List (Item 𝓤)} {C : Calls 𝓤 H} {Λ : Loops 𝓤 H} {rest : Body} {Q : Post 𝓤 H} →
      Rv K 𝓛 Γ E rv v → Writes K 𝓛 Γ (spot_of 𝓤 H E j).0 (spot_of 𝓤 H E j).1 0 v Γ' →
      Step K 𝓛 Γ' (runs C Λ E rest Q) Γ (runs C Λ E (seq (assign (place j []) rv) rest) Q)
  sets t r w = assigns t r (from t (stop t)) w

-- The test of a turn, what stands behind the loop, and what is to be shown where the loop is left.
abbrev test : ℕ → Operand → Operand → Body → Body
test j x y b = seq (assign (place j []) (op2 (lt unsigned) x y)) (seq (cond (copy (place j [])) skip (exit 1)) b)

abbrev rest : Body
rest = seq (assign (place 0 []) (rv_opd opd_unit)) return

abbrev Left : {M : Type 1} (𝓤 : Ura M) (H : Heap 𝓤) → Calls 𝓤 H → Loops 𝓤 H → Env 𝓤 H → (Val → SProp 𝓤) → Out → SProp 𝓤
Left 𝓤 H C Λ E Kf = after_block 𝓤 H (after_seq 𝓤 H (Wp 𝓤 H C Λ E rest (at_return 𝓤 H E Kf)) (at_return 𝓤 H E Kf))

module _ {M : Type 1} {𝓤 : Ura M} {𝓛 : Logic 𝓤} {K : Type 0} {Γ : List (Item 𝓤)} where
  -- Entry m is room for a value that is used once: it is put there, and is then the first entry, and the room is had again.
  open 𝓛 use {H}

  fills : K → (m : ℕ) {τ : Ty} {b : ℕ} {v : Val} → nth 𝓛 m Γ ≡ ‵ (froom τ b 0) → T (has_ty τ v) × WT v →
      Writes K 𝓛 Γ τ b 0 v (‵ (fat full_share τ b 0 v) ∷ del 𝓛 m Γ)
  fills t m {τ} {b} {v} at is = record {
    go = λ P h. via 𝓤 _ (subst (λ (i : Item 𝓤). ent 𝓤 (⋆ 𝓛 Γ) (sep 𝓤 (mean 𝓛 i) (⋆ 𝓛 (del 𝓛 m Γ)))) at (pull 𝓛 m Γ))
        (via 𝓤 _ (mono_r 𝓤 (H.room τ b 0) (assume⊢ 𝓛 (‵ (fat full_share τ b 0 v)) (del 𝓛 m Γ) P h)) (guard_i 𝓤 _ _ is));
  }

  empties : K → (m : ℕ) {τ : Ty} {b : ℕ} {v : Val} {G : Goal 𝓤 H} → nth 𝓛 m Γ ≡ ‵ (froom τ b 0) →
      Step K 𝓛 Γ G (‵ (fat full_share τ b 0 v) ∷ del 𝓛 m Γ) G
  empties t m {τ} {b} at =
      step (λ s. forget t 0 refl $ by t (via 𝓤 _ (pop 𝓛 (‵ (froom τ b 0)) (del 𝓛 m Γ))
      (via 𝓤 _ (subst (λ (i : Item 𝓤). ent 𝓤 (sep 𝓤 (mean 𝓛 i) (⋆ 𝓛 (del 𝓛 m Γ))) (⋆ 𝓛 Γ)) at (unpull 𝓛 m Γ)) s.prf)))

  module _ {E : Env 𝓤 H} {C : Calls 𝓤 H} {Λ : Loops 𝓤 H} {j : ℕ} where
    module _ {x y : Operand} {b : Body} {i n : ℕ} where
      -- The test, with its answer at entry m.
      pub goes_on : K → (m : ℕ) {Q : Post 𝓤 H} → nth 𝓛 m Γ ≡ Room 𝓤 H E j → Typed 𝓤 H E j (vbool true) →
          Opd K 𝓛 Γ E x (vint w64 i) → Opd K 𝓛 Γ E y (vint w64 n) → i < n → Step K 𝓛 Γ (runs C Λ E b Q) Γ (runs C Λ E (test j x y b) Q)
      goes_on t m at is px py small =
          step (λ s. sets t (subst (λ (z : Bool). Rv K 𝓛 Γ E (op2 (lt unsigned) x y) (vbool z)) (lt-ltb i n small) (bin t px py tt))
          (fills t m at (is, tt)) $ stays t (local t 0 refl) $ empties t m at $ s)

      -- It fails, and the function returns, with its result at entry r.
      pub runs_out : K → (X : SProp 𝓤) (Kf : Val → SProp 𝓤) (m r : ℕ) → nth 𝓛 m Γ ≡ Room 𝓤 H E j → nth 𝓛 r Γ ≡ Room 𝓤 H E 0 →
          Typed 𝓤 H E j (vbool false) × Typed 𝓤 H E 0 vunit → Opd K 𝓛 Γ E x (vint w64 i) → Opd K 𝓛 Γ E y (vint w64 n) → n ≤ i →
          Step K 𝓛 Γ (frees E (prop (Kf vunit))) Γ (runs C Λ E (test j x y b) (any_q (after_turn 𝓤 H X (Left 𝓤 H C Λ E Kf))))
      unfolding after_turn
      runs_out t X Kf m r at at' are px py large =
          step (λ s. sets t (subst (λ (z : Bool). Rv K 𝓛 Γ E (op2 (lt unsigned) x y) (vbool z)) (le-ltb i n large) (bin t px py tt))
          (fills t m at (are.0, tt)) $ leaves_loop t (local t 0 refl) $ exec t C Λ E rest (at_ret E Kf) $ empties t m at $
          sets t (of_opd t (unit_lit t)) (fills t r at' (are.1, tt)) $ returns t (look t 0 refl) $ empties t r at' $ s)

    -- The count, at entry m: a turn ends with one more.
    pub adds_one : K → (m : ℕ) {i : ℕ} {Q : Post 𝓤 H} → nth 𝓛 m Γ ≡ Holds 𝓤 H E j (vint w64 i) → Typed 𝓤 H E j (vint w64 (suc i)) → suc i < 2 ^ 64 →
        Step K 𝓛 (put 𝓛 m (Holds 𝓤 H E j (vint w64 (suc i))) Γ) (prop (post 𝓤 H Q next)) Γ
        (runs C Λ E (assign (place j []) (op2 (add unsigned) (copy (place j [])) (int w64 1))) Q)
    adds_one t m {i} at is fits =
        assigns_last t (subst (λ (k : ℕ). Rv K 𝓛 Γ E (op2 (add unsigned) (copy (place j [])) (int w64 1)) (vint w64 k)) (add-one i)
        (bin t (local t m at) (lit t tt) (record { fits = omega (arith, fits) }))) (from t (stop t)) (store t m at (is, record { fits = fits }))

module _ {M : Type 1} {𝓤 : Ura M} (𝓛 : Logic 𝓤) (𝓣 : Tables 𝓤 𝓛.H) (E : Env 𝓤 𝓛.H) (turn : Body) (Kf : Val → SProp 𝓤) where
  -- A turn from Γ goes on from X, or leaves the loop.
  open 𝓛 use {H}

  abbrev pub Turns : List (Item 𝓤) → SProp 𝓤 → Type 1
  Turns Γ X = Sq 𝓛 Γ (runs 𝓣.C 𝓣.Λ E turn (any_q (after_turn 𝓤 H X (Left 𝓤 H 𝓣.C 𝓣.Λ E Kf))))

  module _ (At : ℕ → List (Item 𝓤)) (n : ℕ) (more : (i : ℕ) (X : SProp 𝓤) → i < n → Sq 𝓛 (At (suc i)) (prop X) → Turns (At i) X)
      (ends : (X : SProp 𝓤) → Turns (At n) X) where
    abbrev Again : SProp 𝓤
    Again = 𝓣.Λ turn E (Left 𝓤 H 𝓣.C 𝓣.Λ E Kf)

    once : {Γ : List (Item 𝓤)} → Turns Γ Again → Sq 𝓛 Γ (prop Again)
    once h = record { prf = via 𝓤 _ h.prf (unroll 𝓤 H 𝓛.laws 𝓣 E turn (Left 𝓤 H 𝓣.C 𝓣.Λ E Kf) Again (id⊢ 𝓤 Again)) }

    onwards : (t i : ℕ) → i + t ≡ n → Sq 𝓛 (At i) (prop Again)
    onwards zero i e = subst (λ (k : ℕ). Sq 𝓛 (At k) (prop Again)) (sym e ∙ add-zero i) (once (ends Again))
    onwards (suc t) i e = once (more i Again (omega arith) (onwards t (suc i) (omega arith)))

    pub counts : Sq 𝓛 (At 0) (runs 𝓣.C 𝓣.Λ E (seq (block (loop turn)) rest) (at_ret E Kf))
    counts = record { prf = via 𝓤 Again (onwards n 0 (zero-add n)).prf (𝓛.laws.⇛_intro Again) }
