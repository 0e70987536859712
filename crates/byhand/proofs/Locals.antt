-- The locals of a function, from its entry to its return, where the first ones hold something and the others nothing. They are allocated in one
-- step, which stores the arguments, and freed in one step. In between they stand at the end of the context.
use mathlib.Core.Path.{◌≡◌, refl, sym, ap, subst, ◌∙◌}
use mathlib.Core.List.{List, [], ◌∷◌, ◌++◌}
use Prim.Native.Nat.{ℕ}
use lib.Dec.{T}
use lib.ListN.{take, drop as behind, take-append-drop}
use seplogic.Ra.Ura.{Ura}
use base.Fraction.{full_share}
use mir.Syntax.{Ty, Local, local, Fn}
use mir.Val.{Val, WT, has_ty}
use base.Logic.{SProp, ent, id⊢, via, comm∗, mono∗, mono_l, mono_r}
use base.Fml.{fat, froom}
use prog.Wp.{Calls, Loops, WpFn}
use types.Logic.{Logic}
use types.Kit.{Item, ‵, raw, ◌⊛◌, ⋆, push, pop, ++⊢, ⊢++, Goal, prop, runs, params', passes, frees, at_ret, Seq, Step, step, ◌$◌, by}
use types.Kit.{move, split, use1, use2}
use types.Run.{init, enter, params1, pass1, pass0}
use Rattle.byhand.proofs.Body.{Blocks, env, rooms, deaths, allocs_all, frees_all}

-- The arguments are of the types of the parameters, which are the locals behind the first.
abbrev Fit : List Local → List Val → Type 0
Fit ls [] = Unit {0}
Fit [] (v ∷ vs) = ⊥
Fit (local τ h ∷ ls) (v ∷ vs) = (T (has_ty τ v) × WT v) × Fit ls vs

abbrev Takes : List Local → List Val → Type 0
Takes [] vs = ⊥
Takes (l ∷ ls) vs = Fit ls vs

module _ {M : Type 1} {𝓤 : Ura M} where
  abbrev Room : Ty × ℕ → Item 𝓤
  Room e = ‵ (froom e.0 e.1 0)

  abbrev Holds : Ty × ℕ → Val → Item 𝓤
  Holds e v = ‵ (fat full_share e.0 e.1 0 v)

  abbrev holding : List (Ty × ℕ) → List Val → List (Item 𝓤)
  holding E [] = rooms E
  holding [] (v ∷ vs) = []
  holding (e ∷ E) (v ∷ vs) = Holds e v ∷ holding E vs

  -- The first local, which is for the result, holds nothing, and those behind it hold vs.
  abbrev all-holding : List (Ty × ℕ) → List Val → List (Item 𝓤)
  all-holding [] vs = []
  all-holding (e ∷ E) vs = Room e ∷ holding E vs

module _ {M : Type 1} {𝓤 : Ura M} (𝓛 : Logic 𝓤) where
  -- The locals in their order, and behind them the right to free them.
  open 𝓛 use {H}

  abbrev pub Cells : List (Ty × ℕ) → List Val → List (Item 𝓤)
  Cells E vs = all-holding E vs ++ (raw (⋆ 𝓛 (deaths E)) ∷ [])

  module _ where
    vacant : (E : List (Ty × ℕ)) (vs : List Val) → ent 𝓤 (⋆ 𝓛 (holding E vs)) (⋆ 𝓛 (rooms E))
    vacant E [] = id⊢ 𝓤 _
    vacant [] (v ∷ vs) = id⊢ 𝓤 _
    vacant (e ∷ E) (v ∷ vs) =
        via 𝓤 _ (pop 𝓛 (Holds e v) (holding E vs)) (via 𝓤 _ (mono∗ 𝓤 (𝓛.laws.at_room e.0 e.1 0 v) (vacant E vs)) (push 𝓛 (Room e) (rooms E)))

    all-vacant : (E : List (Ty × ℕ)) (vs : List Val) → ent 𝓤 (⋆ 𝓛 (all-holding E vs)) (⋆ 𝓛 (rooms E))
    all-vacant [] vs = id⊢ 𝓤 _
    all-vacant (e ∷ E) vs =
        via 𝓤 _ (pop 𝓛 (Room e) (holding E vs)) (via 𝓤 _ (mono_r 𝓤 (H.room e.0 e.1 0) (vacant E vs)) (push 𝓛 (Room e) (rooms E)))

module _ {M : Type 1} {𝓤 : Ura M} {𝓛 : Logic 𝓤} {K : Type 0} where
  open 𝓛 use {H}

  passes-all : K → {Γ : List (Item 𝓤)} {G : Goal 𝓤 H} (ls : List Local) (bs : Blocks ls) (vs : List Val) → Fit ls vs →
      Step K 𝓛 (raw (⋆ 𝓛 (holding (env ls bs) vs)) ∷ Γ) G (raw (⋆ 𝓛 (rooms (env ls bs))) ∷ Γ) (passes (env ls bs) vs G)
  passes-all t ls bs [] fit = pass0 t
  passes-all t [] bs (v ∷ vs) fit = absurd fit
  passes-all t {Γ = Γ} {G = G} (local τ h ∷ ls) bs (v ∷ vs) fit =
      let E = env ls bs.1 in
      let room : Item 𝓤 = Room (τ, bs.0) in
      let cell : Item 𝓤 = Holds (τ, bs.0) v in
      step (λ s. use1 𝓛 (room ⊛ raw (⋆ 𝓛 (rooms E))) (pop 𝓛 room (rooms E)) $ split t $ pass1 t (init t 0 refl fit.0) $ move t (1 ∷ []) $
      passes-all t {Γ = cell ∷ Γ} ls bs.1 vs fit.1 $ move t (1 ∷ 0 ∷ []) $ use2 𝓛 (raw (⋆ 𝓛 (cell ∷ holding E vs))) (push 𝓛 cell (holding E vs)) $ s)

  takes_all : K → {Γ : List (Item 𝓤)} {G : Goal 𝓤 H} (ls : List Local) (bs : Blocks ls) (vs : List Val) → Takes ls vs →
      Step K 𝓛 (raw (⋆ 𝓛 (all-holding (env ls bs) vs)) ∷ Γ) G (raw (⋆ 𝓛 (rooms (env ls bs))) ∷ Γ) (params' (env ls bs) vs G)
  takes_all t [] bs vs fit = absurd fit
  takes_all t (local τ h ∷ ls) bs vs fit =
      let E = env ls bs.1 in
      let room : Item 𝓤 = Room (τ, bs.0) in
      step (λ s. params1 t $ use1 𝓛 (room ⊛ raw (⋆ 𝓛 (rooms E))) (pop 𝓛 room (rooms E)) $ split t $ move t (1 ∷ []) $
      passes-all t ls bs.1 vs fit $ move t (1 ∷ 0 ∷ []) $ use2 𝓛 (raw (⋆ 𝓛 (room ∷ holding E vs))) (push 𝓛 room (holding E vs)) $ s)

  module _ {Γ : List (Item 𝓤)} where
    -- What stands as one goes behind Γ.
    goes-behind : K → {G : Goal 𝓤 H} (Δ : List (Item 𝓤)) → Step K 𝓛 (Γ ++ Δ) G (raw (⋆ 𝓛 Δ) ∷ Γ) G
    goes-behind t Δ =
        step (λ s. by t (via 𝓤 _ (pop 𝓛 (raw (⋆ 𝓛 Δ)) Γ) (via 𝓤 _ (comm∗ 𝓤 (⋆ 𝓛 Δ) (⋆ 𝓛 Γ)) (via 𝓤 _ (++⊢ 𝓛 Γ Δ) s.prf))))

    pub enters : K → (C : Calls 𝓤 H) (Λ : Loops 𝓤 H) (f : Fn) (vs : List Val) (Kf : Val → SProp 𝓤) → Takes f.locals vs →
        ((bs : Blocks f.locals) → let E = env f.locals bs in Seq K 𝓛 (Γ ++ Cells 𝓛 E vs) (runs C Λ E f.body (at_ret E Kf))) →
        Seq K 𝓛 Γ (prop (WpFn 𝓤 H C Λ f vs Kf))
    enters t C Λ f vs Kf fit k =
        enter t C Λ f vs Kf $ allocs_all t (λ bs. takes_all t f.locals bs vs fit $
        use2 𝓛 (raw (⋆ 𝓛 (Cells 𝓛 (env f.locals bs) vs)))
        (++⊢ 𝓛 (all-holding (env f.locals bs) vs) (raw (⋆ 𝓛 (deaths (env f.locals bs))) ∷ [])) $
        goes-behind t (Cells 𝓛 (env f.locals bs) vs) $ k bs)

    -- The function has returned. Before the locals stand m entries.
    pub frees_locals : K → (m : ℕ) (E : List (Ty × ℕ)) (vs : List Val) {G : Goal 𝓤 H} → behind m Γ ≡ Cells 𝓛 E vs → Step K 𝓛 (take m Γ) G Γ (frees E G)
    frees_locals t m E vs {G} e =
        let Δ : List (Item 𝓤) = take m Γ in
        let D : List (Item 𝓤) = raw (⋆ 𝓛 (deaths E)) ∷ [] in
        let vacated : ent 𝓤 (⋆ 𝓛 (Cells 𝓛 E vs)) (⋆ 𝓛 (rooms E ++ D)) =
        via 𝓤 _ (⊢++ 𝓛 (all-holding E vs) D) (via 𝓤 _ (mono_l 𝓤 (⋆ 𝓛 D) (all-vacant 𝓛 E vs)) (++⊢ 𝓛 (rooms E) D)) in
        step (λ s.
        let packed : Seq K 𝓛 (raw (⋆ 𝓛 Δ) ∷ (rooms E ++ D)) (frees E G) = frees_all t E $ by t s.prf in
        subst (λ (Θ : List (Item 𝓤)). Seq K 𝓛 Θ (frees E G)) (ap (λ (Θ : List (Item 𝓤)). Δ ++ Θ) (sym e) ∙ take-append-drop m Γ)
        (by t (via 𝓤 _ (⊢++ 𝓛 Δ (Cells 𝓛 E vs))
        (via 𝓤 _ (mono_r 𝓤 (⋆ 𝓛 Δ) vacated) (via 𝓤 _ (push 𝓛 (raw (⋆ 𝓛 Δ)) (rooms E ++ D)) packed.prf)))))
