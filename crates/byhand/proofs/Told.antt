-- A call as a step of a walk, where the callee's clauses are facts.
--     tokens, parts, ends  the tokens that a callee is lent; what its parameters own; what its contract says of those that it may change
--     Told T c         the callee's contract, at its clauses c
--     calls-told       the `requires` is shown, and the `ensures` learned. What the result owns is let go, and its relation learned
--     last-list        what a contract says of a `&mut [T]` at exit: its last list, which is as long as it was, so that the borrow, which it
--                      leaves closed, is of as many elements
-- Assumes `Logic`, and `FmC` of the table of calls.
use mathlib.Core.Path.{◌≡◌, refl, sym}
use Prim.Native.Nat.{ℕ, suc, zero}
use mathlib.Core.List.{List, [], ◌∷◌, ◌++◌}
use seplogic.Ra.Ura.{Ura}
use mir.Syntax.{Callee, Place, Opd as Operand, seq, call, Body}
use mir.Val.{Val}
use base.Logic.{SProp, ent, sep, emp, id⊢, via, comm∗, mono∗, mono_l, mono_r, emp∗, snd∗}
use base.Fml.{Lft, GName, Fml, fsep, feq, flft, fbor}
use prog.Wp.{Env, Calls, Loops}
use types.Logic.{Logic, sem}
use sound.WpLaws.{FmC}
use types.Kit.{Item, Goal, Post, Seq, ‵, raw, ◌⊛◌, some, later, ⋆, push, pop, ++⊢, ⊢++, runs, lands}
use types.Kit.{cut, ◌$◌, move, use1, split, pick, rewrite, fsplit, fjoin, feq_l, await}
use types.Run.{Opds}
use contract.Monad.{fact}
use contract.Lifetimes.{Lfts, Shares, AllOutlive, toks}
use denote.RattleType.{RattleType, Denots, Valss, flat, owns}
use denote.Laws.{Is, shows}
use denote.Lend.{Held}
use denote.Exit.{Exit, unchanged, leaves, Last, left}
use denote.Signature.{Slot, type_at, types_at}
use denote.Steps.{facts, heard}
use denote.Triple.Entry.{Args, Vals, Res, alive, on_entry}
use denote.Triple.End.{Kepts, Fins, lasts_of}
use denote.Triple.Spec.{triple_of}
use denote.Triple.Statement.{Contract, Triple}
use denote.Triple.Call.{calls_at}
use denote.Triple.Clauses.{Ended, Clauses, Lasts, at_exit, lasts, ensured, closing}

module _ {M : Type 1} {𝓤 : Ura M} where
  abbrev pub tokens : (n : ℕ) → Lfts n → Shares n → List (Item 𝓤)
  tokens zero κs qs = []
  tokens (suc n) κs qs = ‵ (flft κs.0 qs.0) ∷ tokens n κs.1 qs.1

  abbrev pub parts : (Ts : List RattleType) → Denots Ts → Valss Ts → List (Item 𝓤)
  parts [] a vss = []
  parts (T ∷ Ts) a vss = ‵ (T.own_val a.0 vss.0) ∷ parts Ts a.1 vss.1

  abbrev end : {X : Type 0} (e : Exit X) (x : X) → Last e x → List (Item 𝓤) → List (Item 𝓤)
  end unchanged x w Δ = Δ
  end (leaves L l S s r₀) x w Δ = ‵ (l x w) ∷ Δ

  abbrev pub ends : {n : ℕ} (κs : Lfts n) (ss : List (Slot n)) (ks : Kepts ss) (a : Denots (types_at ss κs)) → Fins κs ss ks a → List (Item 𝓤)
  ends κs [] ks a ws = []
  ends κs (s ∷ ss) ks a ws = end ((s.row κs).exit ks.0) a.0 ws.0 (ends κs ss ks.1 a.1 ws.1)

-- ---- each list, held as one
module _ {M : Type 1} {𝓤 : Ura M} (𝓛 : Logic 𝓤) where
  open 𝓛 use {A}

  pub tokens⊢ : (n : ℕ) (κs : Lfts n) (qs : Shares n) → ent 𝓤 (⋆ 𝓛 (tokens n κs qs)) (toks 𝓛 n κs qs)
  tokens⊢ zero κs qs = id⊢ 𝓤 (emp 𝓤)
  tokens⊢ (suc n) κs qs =
      via 𝓤 _ (pop 𝓛 (‵ (flft κs.0 qs.0)) (tokens n κs.1 qs.1)) (mono_r 𝓤 (A.lft κs.0 qs.0) (tokens⊢ n κs.1 qs.1))

  pub ⊢tokens : (n : ℕ) (κs : Lfts n) (qs : Shares n) → ent 𝓤 (toks 𝓛 n κs qs) (⋆ 𝓛 (tokens n κs qs))
  ⊢tokens zero κs qs = id⊢ 𝓤 (emp 𝓤)
  ⊢tokens (suc n) κs qs =
      via 𝓤 _ (mono_r 𝓤 (A.lft κs.0 qs.0) (⊢tokens n κs.1 qs.1)) (push 𝓛 (‵ (flft κs.0 qs.0)) (tokens n κs.1 qs.1))

  parts⊢ : (Ts : List RattleType) (a : Denots Ts) (vss : Valss Ts) → ent 𝓤 (⋆ 𝓛 (parts Ts a vss)) (sem 𝓛 (owns Ts a vss))
  parts⊢ [] a vss = id⊢ 𝓤 (emp 𝓤)
  parts⊢ (T ∷ Ts) a vss =
      via 𝓤 _ (pop 𝓛 (‵ (T.own_val a.0 vss.0)) (parts Ts a.1 vss.1)) (mono_r 𝓤 (sem 𝓛 (T.own_val a.0 vss.0)) (parts⊢ Ts a.1 vss.1))

  pub ⊢parts : (Ts : List RattleType) (a : Denots Ts) (vss : Valss Ts) → ent 𝓤 (sem 𝓛 (owns Ts a vss)) (⋆ 𝓛 (parts Ts a vss))
  ⊢parts [] a vss = id⊢ 𝓤 (emp 𝓤)
  ⊢parts (T ∷ Ts) a vss =
      via 𝓤 _ (mono_r 𝓤 (sem 𝓛 (T.own_val a.0 vss.0)) (⊢parts Ts a.1 vss.1)) (push 𝓛 (‵ (T.own_val a.0 vss.0)) (parts Ts a.1 vss.1))

  ⊢end : {X : Type 0} (e : Exit X) (x : X) (w : Last e x) (Δ : List (Item 𝓤)) → ent 𝓤 (sep 𝓤 (sem 𝓛 (left e x w)) (⋆ 𝓛 Δ)) (⋆ 𝓛 (end e x w Δ))
  ⊢end unchanged x w Δ = snd∗ 𝓤 (emp 𝓤) (⋆ 𝓛 Δ)
  ⊢end (leaves L l S s r₀) x w Δ = push 𝓛 (‵ (l x w)) Δ

  ⊢ends : {n : ℕ} (κs : Lfts n) (ss : List (Slot n)) (ks : Kepts ss) (a : Denots (types_at ss κs)) (ws : Fins κs ss ks a)
      → ent 𝓤 (sem 𝓛 (lasts_of κs ss ks a ws)) (⋆ 𝓛 (ends κs ss ks a ws))
  ⊢ends κs [] ks a ws = id⊢ 𝓤 (emp 𝓤)
  ⊢ends κs (s ∷ ss) ks a ws =
      via 𝓤 _ (mono_r 𝓤 (sem 𝓛 (left ((s.row κs).exit ks.0) a.0 ws.0)) (⊢ends κs ss ks.1 a.1 ws.1))
      (⊢end ((s.row κs).exit ks.0) a.0 ws.0 (ends κs ss ks.1 a.1 ws.1))

-- ---- the callee's contract, and what the caller has before the call and after it
abbrev pub Told : {M : Type 1} {𝓤 : Ura M} (𝓛 : Logic 𝓤) (T : Ended) → Clauses 𝓤 T → Contract 𝓤
Told 𝓛 T c = triple_of 𝓛 T.signature (closing 𝓛 T c)

module _ (T : Ended) (κs : Lfts T.signature.lifetimes) (qs : Shares T.signature.lifetimes) (a : Args T.signature κs) {M : Type 1} {𝓤 : Ura M} where
  abbrev pub before : Vals T.signature κs → List (Item 𝓤)
  before vss = tokens T.signature.lifetimes κs qs ++ parts (types_at T.signature.params κs) a vss

  abbrev pub after : Lasts T κs a → List (Item 𝓤)
  after ws = tokens T.signature.lifetimes κs qs ++ ends κs T.signature.params T.kept a ws

module _ {M : Type 1} {𝓤 : Ura M} (𝓛 : Logic 𝓤) (T : Ended)
    (κs : Lfts T.signature.lifetimes) (qs : Shares T.signature.lifetimes) (a : Args T.signature κs) where
  into : (vss : Vals T.signature κs) (R : SProp 𝓤) → ent 𝓤 (emp 𝓤) R
      → ent 𝓤 (⋆ 𝓛 (before T κs qs a vss)) (sep 𝓤 (on_entry 𝓛 T.signature κs qs a vss) R)
  into vss R asked =
      let P : SProp 𝓤 = on_entry 𝓛 T.signature κs qs a vss in
      via 𝓤 P
      (via 𝓤 _ (⊢++ 𝓛 (tokens T.signature.lifetimes κs qs) (parts (types_at T.signature.params κs) a vss))
      (mono∗ 𝓤 (tokens⊢ 𝓛 T.signature.lifetimes κs qs) (parts⊢ 𝓛 (types_at T.signature.params κs) a vss)))
      (via 𝓤 (sep 𝓤 (emp 𝓤) P) (emp∗ 𝓤 P) (via 𝓤 (sep 𝓤 R P) (mono_l 𝓤 P asked) (comm∗ 𝓤 R P)))

  out_of : (ws : Lasts T κs a) → ent 𝓤 (sep 𝓤 (alive 𝓛 T.signature κs qs) (sem 𝓛 (lasts T κs a ws))) (⋆ 𝓛 (after T κs qs a ws))
  out_of ws =
      via 𝓤 _ (mono∗ 𝓤 (⊢tokens 𝓛 T.signature.lifetimes κs qs) (⊢ends 𝓛 κs T.signature.params T.kept a ws))
      (++⊢ 𝓛 (tokens T.signature.lifetimes κs qs) (ends κs T.signature.params T.kept a ws))

module _ {M : Type 1} {𝓤 : Ura M} {K : Type 0} (𝓛 : Logic 𝓤) {Γ : List (Item 𝓤)} where
  -- φ is what the callee says of its result and of the last values
  open 𝓛 use {H}

  pub calls-told : {E : Env 𝓤 H} {C : Calls 𝓤 H} {Λ : Loops 𝓤 H} {Q : Post 𝓤 H} {f : Callee} {xs : List Operand} {d : Place} {rest : Body}
      → FmC 𝓤 H 𝓛.laws C → (T : Ended) (c : Clauses 𝓤 T) → Triple 𝓤 (C f) (Told 𝓛 T c)
      → (κs : Lfts T.signature.lifetimes) (qs : Shares T.signature.lifetimes)
      (bounds : AllOutlive T.signature.lifetimes T.signature.outlives κs)
      (a : Args T.signature κs) (vss : Vals T.signature κs) (g : (c κs a).ghost) → K → (φ : Res T.signature κs → Lasts T κs a → Type 0)
      → ent 𝓤 (emp 𝓤) ((c κs a).requires g)
      → ((r : Res T.signature κs) (ws : Lasts T κs a) → ent 𝓤 ((c κs a).ensures g r (at_exit T κs a ws)) (fact 𝓤 (φ r ws)))
      → Opds K 𝓛 (raw ((Told 𝓛 T c).pre ((κs, qs, bounds, a, vss), g)) ∷ Γ) E xs (flat (types_at T.signature.params κs) vss)
      → ((w : Val) (r : Res T.signature κs) (ws : Lasts T κs a) → φ r ws → Is (type_at T.signature.result κs) r (w ∷ [])
      → Seq K 𝓛 (after T κs qs a ws ++ Γ) (lands C Λ E d w rest Q))
      → Seq K 𝓛 (before T κs qs a vss ++ Γ) (runs C Λ E (seq (call f xs d) rest) Q)
  calls-told fm T c known κs qs bounds a vss g t φ asked told os k =
      let R : RattleType = type_at T.signature.result κs in
      let live : SProp 𝓤 = alive 𝓛 T.signature κs qs in
      cut (before T κs qs a vss) (raw ((Told 𝓛 T c).pre ((κs, qs, bounds, a, vss), g)) ∷ []) Γ (into 𝓛 T κs qs a vss ((c κs a).requires g) asked) $
      calls_at t fm (Told 𝓛 T c) known ((κs, qs, bounds, a, vss), g) os (λ w.
      use1 𝓛 (later (some (λ (r : Res T.signature κs). (raw live ⊛ ‵ (R.own_val r (w ∷ []))) ⊛ raw (ensured 𝓛 T c κs a g r)))) (id⊢ 𝓤 _) $ await t tt $
      pick t (λ r. split t $ move t (1 ∷ []) $
      use1 𝓛 (some (λ (ws : Lasts T κs a). ‵ (lasts T κs a ws) ⊛ raw ((c κs a).ensures g r (at_exit T κs a ws)))) (id⊢ 𝓤 _) $
      pick t (λ ws. split t $ move t (1 ∷ []) $
      use1 𝓛 (raw (fact 𝓤 (φ r ws))) (told r ws) $ heard t (φ r ws) (λ e.
      move t (1 ∷ []) $ split t $ move t (1 ∷ []) $ facts t R (Is R) (shows 𝓛 R) r (w ∷ []) (λ is.
      -- [the tokens; what is said at exit]
      cut (raw live ∷ ‵ (lasts T κs a ws) ∷ []) (after T κs qs a ws) Γ (out_of 𝓛 T κs qs a ws) $ k w r ws e is)))))

module _ {M : Type 1} {𝓤 : Ura M} {𝓛 : Logic 𝓤} {K : Type 0} {Γ : List (Item 𝓤)} {G : Goal 𝓤 𝓛.H} where
  pub last-list : K → (R : RattleType) {P : Fml} {κ : Lft} {γ : GName} {m n b o : ℕ}
      → (m ≡ n → Seq K 𝓛 (‵ (fsep P (fbor κ (Held R m b o γ))) ∷ Γ) G)
      → Seq K 𝓛 (‵ (fsep (fsep P (feq ℕ m n)) (fbor κ (Held R n b o γ))) ∷ Γ) G
  last-list t R {κ = κ} {γ = γ} {b = b} {o = o} k =
      fsplit t $ fsplit t $ move t (1 ∷ []) $ feq_l t (λ e.
      rewrite t 1 (λ (l : ℕ). ‵ (fbor κ (Held R l b o γ))) (sym e) refl $ fjoin t $ k e)
