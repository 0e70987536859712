-- From a walk of a function's MIR to the statement that the function meets its contract. What this needs to know of a parameter is in a `Param`.
use mathlib.Core.Path.{◌≡◌, refl}
use mathlib.Core.List.{List, [], ◌∷◌, ◌++◌}
use Prim.Native.Nat.{ℕ}
use lib.ListN.{length}
use seplogic.Ra.Ura.{Ura}
use mir.Syntax.{Fn, w64}
use mir.Val.{Val}
use base.Logic.{ent, sep, emp, id⊢, via, comm∗, mono∗, mono_r}
use base.Fml.{fsep, ftrue, fbor}
use prog.Model.{Model}
use prog.Routine.{Callee, Env}
use prog.Wp.{WpFn, Closed}
use types.Logic.{Logic, sem}
use sound.WpLaws.{WpFn-mono}
use contract.Lifetimes.{Lfts, Shares, AllOutlive, Within}
use contract.Monad.{Fun}
use contract.Running.{Running, tables, tables_of}
use types.Kit.{Item, ‵, raw, ⋆, push, pop, ++⊢, ⊢++, prop, Seq, Sq, ◌$◌, ◌∵◌, !, qed, by, move, group, rewrite, use0, suffices, done}
use denote.RattleType.{RattleType, Denots, Valss}
use denote.Laws.{Is, Ises, Are, Tells, Tellss, Spells, valss}
use denote.Plain.{uint_vals, uint_Tells}
use denote.Builtin.{usize}
use denote.Slice.{finally, shr_slice_vals, mut_slice_vals}
use denote.Lend.{Held}
use denote.Signature.{Slot, Signature, meet_at, plain, mut_slice, shr_slice, type_at, types_at}
use denote.Exit.{Kept, yes, Last, left}
use denote.Triple.End.{Kepts, Fins}
use denote.Triple.Bound.{Bound}
use denote.Triple.Entry.{Args, Res, alive, on_entry}
use denote.Triple.Statement.{Contract, Triple}
use denote.Triple.Table.{entered}
use denote.Triple.Clauses.{Ended, Clauses, Lasts, at_exit}
use denote.Triple.Walked.{Stay, Stays, stay_slice, stay_dropped, has_of, Fit, walk_of, Goes, AllGo, Goes-slice, Goes-dropped, Goes-gave_slice}
use denote.Triple.Walked.{ends_at, walked, walk_Meets}
use Rattle.byhand.proofs.Told.{Told, tokens, parts, tokens⊢, ⊢tokens, ⊢parts}

-- What a walk has of the parameter at exit, which is enough for what a contract says of it then; and its machine values, which are the only ones.
pub record Param (n : ℕ) (s : Slot n) (k : Kept) : Type 2 where
  pub stay : Stay s k
  pub goes : {M : Type 1} {𝓤 : Ura M} (𝓛 : Logic 𝓤) → Goes 𝓛 n s k stay
  pub vals : (κs : Lfts n) → (s.row κs).Denot → List Val
  pub tells : (κs : Lfts n) → Tells (s.row κs) (Is (s.row κs)) (vals κs)

-- Of a slice that is given up for good, what says its last list is had, and the borrow, closed, of as many elements.
module _ (n j : ℕ) (ok : Within n j) (R : RattleType) where
  abbrev pub given_slice : Stay {n = n} (mut_slice j ok (λ _. R)) yes
  given_slice = record {
    fit = λ κs x ws. length ws ≡ length x.now;
    has = λ κs x ws vs.
        fsep (finally R x.ghost_name ws) (fbor (meet_at n (j ∷ []) ok κs) (Held R (length ws) x.ref_ptr.0 x.ref_ptr.1 x.ghost_name));
  }

  pub gives_slice : {M : Type 1} {𝓤 : Ura M} (𝓛 : Logic 𝓤) → Goes 𝓛 n (mut_slice j ok (λ _. R)) yes given_slice
  gives_slice 𝓛 κs x ws vs fits =
      let κ = meet_at n (j ∷ []) ok κs in
      let last = finally R x.ghost_name ws in
      let borrow = λ (m : ℕ). fbor κ (Held R m x.ref_ptr.0 x.ref_ptr.1 x.ghost_name) in
      qed 𝓛 (‵ (fsep last (borrow (length ws))) ∷ []) ∵ rewrite ! 0 (λ (m : ℕ). ‵ (fsep last (borrow m))) fits refl $
      by ! (Goes-gave_slice 𝓛 n j ok (plain (λ _. R)) κs x ws vs fits)

module _ {n : ℕ} where
  -- A parameter of which nothing is had at exit, and of which a contract says nothing then: so are a number and a shared slice. A slice that is lent is
  -- had at its last list. Of one that is given up for good, what `given_slice` says is had.
  abbrev pub dropped_param : (s : Slot n) → ((κs : Lfts n) (x : (s.row κs).Denot) (f : Last ((s.row κs).exit yes) x) → left ((s.row κs).exit yes) x f ≡ ftrue) →
      (vals : (κs : Lfts n) → (s.row κs).Denot → List Val) → ((κs : Lfts n) → Tells (s.row κs) (Is (s.row κs)) (vals κs)) → Param n s yes
  dropped_param s silent vals tells = record {
    stay = stay_dropped s yes;
    goes = λ 𝓛. Goes-dropped 𝓛 n s yes silent;
    vals = vals;
    tells = tells;
  }

  abbrev pub number_param : Param n (plain (λ _. usize)) yes
  number_param = dropped_param (plain (λ _. usize)) (λ κs x f. refl) (λ κs. uint_vals w64) (λ κs. uint_Tells w64)

  module _ (j : ℕ) (ok : Within n j) (R : RattleType) where
    abbrev pub shared_param : Param n (shr_slice j ok (λ _. R)) yes
    shared_param = dropped_param (shr_slice j ok (λ _. R)) (λ κs x f. refl) (λ κs. shr_slice_vals) (λ κs x vs p. p.0.0)

    abbrev pub lent_param : Param n (mut_slice j ok (λ _. R)) yes
    lent_param = record {
      stay = stay_slice (j ∷ []) ok (plain (λ _. R));
      goes = λ 𝓛. Goes-slice 𝓛 n j ok (plain (λ _. R));
      vals = λ κs. mut_slice_vals;
      tells = λ κs x vs p. p.0.0;
    }

    abbrev pub given_param : Param n (mut_slice j ok (λ _. R)) yes
    given_param = record {
      stay = given_slice n j ok R;
      goes = λ 𝓛. gives_slice n j ok R 𝓛;
      vals = λ κs. mut_slice_vals;
      tells = λ κs x vs p. p.0.0;
    }

  abbrev Each : (ss : List (Slot n)) → Kepts ss → Type 2
  Each [] ks = Unit {2}
  Each (s ∷ ss) ks = Param n s ks.0 × Each ss ks.1

  abbrev all_stay : (ss : List (Slot n)) (ks : Kepts ss) → Each ss ks → Stays ss ks
  all_stay [] ks ps = tt
  all_stay (s ∷ ss) ks ps = (ps.0.stay, all_stay ss ks.1 ps.1)

  all_go : {M : Type 1} {𝓤 : Ura M} (𝓛 : Logic 𝓤) (ss : List (Slot n)) (ks : Kepts ss) (ps : Each ss ks) →
      AllGo 𝓛 n ss ks (all_stay ss ks ps)
  all_go 𝓛 [] ks ps = tt
  all_go 𝓛 (s ∷ ss) ks ps = (ps.0.goes 𝓛, all_go 𝓛 ss ks.1 ps.1)

  module _ (κs : Lfts n) where
    abbrev spelled : (ss : List (Slot n)) (ks : Kepts ss) → Each ss ks → Spells (types_at ss κs)
    spelled [] ks ps = tt
    spelled (s ∷ ss) ks ps = (ps.0.vals κs, spelled ss ks.1 ps.1)

    all_tell : (ss : List (Slot n)) (ks : Kepts ss) (ps : Each ss ks) → Tellss (types_at ss κs) (Ises (types_at ss κs)) (spelled ss ks ps)
    all_tell [] ks ps = tt
    all_tell (s ∷ ss) ks ps = (ps.0.tells κs, all_tell ss ks.1 ps.1)

-- The same of the parameters of a function, in a row.
module _ (T : Ended) where
  abbrev pub Params : Type 2
  Params = Each T.signature.params T.kept

  abbrev stays : Params → Stays T.signature.params T.kept
  stays = all_stay T.signature.params T.kept

-- The contract that a walk shows, and what a walk begins with: the tokens, and what the parameters own.
module _ {M : Type 1} {𝓤 : Ura M} (𝓛 : Logic 𝓤) (T : Ended) where
  abbrev pub Walk : Params T → Clauses 𝓤 T → Contract 𝓤
  Walk ps = walk_of 𝓛 T (stays T ps)

  abbrev pub Start : Bound 𝓛 T.signature → List (Item 𝓤)
  Start x = tokens T.signature.lifetimes x.0 x.1 ++ parts (types_at T.signature.params x.0) x.3 x.4

-- What a walk has of each parameter at exit.
module _ {M : Type 1} {𝓤 : Ura M} (𝓛 : Logic 𝓤) {n : ℕ} (κs : Lfts n) where
  abbrev had : (ss : List (Slot n)) (ks : Kepts ss) → Stays ss ks → (a : Denots (types_at ss κs)) → Fins κs ss ks a → Valss (types_at ss κs) → List (Item 𝓤)
  had [] ks hs a ws vss = []
  had (s ∷ ss) ks hs a ws vss = ‵ (hs.0.has κs a.0 ws.0 vss.0) ∷ had ss ks.1 hs.1 a.1 ws.1 vss.1

  had⊢ : (ss : List (Slot n)) (ks : Kepts ss) (hs : Stays ss ks) (a : Denots (types_at ss κs)) (ws : Fins κs ss ks a) (vss : Valss (types_at ss κs)) →
      ent 𝓤 (⋆ 𝓛 (had ss ks hs a ws vss)) (sem 𝓛 (has_of κs ss ks hs a ws vss))
  had⊢ [] ks hs a ws vss = id⊢ 𝓤 (emp 𝓤)
  had⊢ (s ∷ ss) ks hs a ws vss =
      let P = hs.0.has κs a.0 ws.0 vss.0 in
      via 𝓤 _ (pop 𝓛 (‵ P) (had ss ks.1 hs.1 a.1 ws.1 vss.1))
      (mono_r 𝓤 (sem 𝓛 P) (had⊢ ss ks.1 hs.1 a.1 ws.1 vss.1))

-- The end of a walk: the tokens and what is had of the parameters are left, and the result is r.
module _ {M : Type 1} {𝓤 : Ura M} {𝓛 : Logic 𝓤} {K : Type 0} where
  pub ends_with : K → (T : Ended) (ps : Params T) (c : Clauses 𝓤 T) (y : (Walk 𝓛 T ps c).Ghost) (v : Val) (r : Res T.signature y.0.0)
      (ws : Lasts T y.0.0 y.0.3) → Fit T (stays T ps) y.0.0 y.0.3 ws →
      ent 𝓤 (emp 𝓤) ((c y.0.0 y.0.3).ensures y.1 r (at_exit T y.0.0 y.0.3 ws)) →
      ent 𝓤 (emp 𝓤) (sem 𝓛 ((type_at T.signature.result y.0.0).own_val r (v ∷ []))) →
      Seq K 𝓛 (tokens T.signature.lifetimes y.0.0 y.0.1 ++
      had 𝓛 y.0.0 T.signature.params T.kept (stays T ps) y.0.3 ws y.0.4) (prop ((Walk 𝓛 T ps c).post y v))
  ends_with t T ps c y v r ws fit says makes =
      let S = T.signature in
      let κs = y.0.0 in
      let live = alive 𝓛 S κs y.0.1 in
      let rest = sem 𝓛 (has_of κs S.params T.kept (stays T ps) y.0.3 ws y.0.4) in
      by t (via 𝓤 _ (⊢++ 𝓛 (tokens S.lifetimes κs y.0.1) (had 𝓛 κs S.params T.kept (stays T ps) y.0.3 ws y.0.4))
      (via 𝓤 (sep 𝓤 live rest) (mono∗ 𝓤 (tokens⊢ 𝓛 S.lifetimes κs y.0.1) (had⊢ 𝓛 κs S.params T.kept (stays T ps) y.0.3 ws y.0.4))
      (qed 𝓛 (raw live ∷ raw rest ∷ []) ∵ suffices ! _ (ends_at 𝓛 T (stays T ps) c y v r ws fit) $
      use0 𝓛 (raw (sem 𝓛 ((type_at S.result κs).own_val r (v ∷ [])))) makes $ use0 𝓛 (raw ((c κs y.0.3).ensures y.1 r (at_exit T κs y.0.3 ws))) says $
      move ! (2 ∷ 3 ∷ 1 ∷ []) $ group ! 3 $ done !)))

module _ {M : Type 1} {𝓤 : Ura M} (𝓛 : Logic 𝓤) (𝓜 : Model 𝓤 𝓛.H) (𝓡 : Running 𝓤 𝓛.H 𝓜) (T : Ended) (ps : Params T) (c : Clauses 𝓤 T)
    (γ : Env) (k : Callee) (f : Fn) where
  open 𝓛 use {H}

  abbrev S : Signature
  S = T.signature

  abbrev run : Fun 𝓤
  run = WpFn 𝓤 H (tables 𝓤 H 𝓜 𝓡 γ).C (tables 𝓤 H 𝓜 𝓡 γ).Λ f

  module _ (κs : Lfts S.lifetimes) (qs : Shares S.lifetimes) (bounds : AllOutlive S.lifetimes S.outlives κs) (a : Args S κs)
      (g : (c κs a).ghost) where
    -- What the contract binds, where the machine values of the parameters are written out, and what is asked.
    abbrev y : (Walk 𝓛 T ps c).Ghost
    y = ((κs, qs, bounds, a, valss (types_at S.params κs) (spelled κs S.params T.kept ps) a), g)

    abbrev asked : Item 𝓤
    asked = raw ((c κs a).requires g)

    begins : ent 𝓤 ((Walk 𝓛 T ps c).pre y) (⋆ 𝓛 (asked ∷ Start 𝓛 T y.0))
    begins =
        let A = 𝓛.A in
        let P = on_entry 𝓛 S κs qs a y.0.4 in
        let Q = (c κs a).requires g in
        via 𝓤 (sep 𝓤 Q P) (comm∗ 𝓤 P Q) (via 𝓤 _ (mono_r 𝓤 Q (via 𝓤 _
        (mono∗ 𝓤 (⊢tokens 𝓛 S.lifetimes κs qs) (⊢parts 𝓛 (types_at S.params κs) a y.0.4))
        (++⊢ 𝓛 (tokens S.lifetimes κs qs) (parts (types_at S.params κs) a y.0.4)))) (push 𝓛 asked (Start 𝓛 T y.0)))

    -- What a walk shows.
    abbrev Shown : Type 1
    Shown = Are (types_at S.params κs) (Ises (types_at S.params κs)) a y.0.4 →
        Sq 𝓛 (asked ∷ Start 𝓛 T y.0) (prop (run ((Walk 𝓛 T ps c).args y) ((Walk 𝓛 T ps c).post y)))

  pub meets : Closed 𝓤 H (tables 𝓤 H 𝓜 𝓡 γ).C (tables 𝓤 H 𝓜 𝓡 γ).Λ k f →
      ((κs : Lfts S.lifetimes) (qs : Shares S.lifetimes) (bounds : AllOutlive S.lifetimes S.outlives κs) (a : Args S κs) (g : (c κs a).ghost) →
      Shown κs qs bounds a g) → Triple 𝓤 ((tables 𝓤 H 𝓜 𝓡 γ).C k) (Told 𝓛 T c)
  unfolding tables_of
  meets closed walk =
      entered 𝓤 H (Told 𝓛 T c) (tables 𝓤 H 𝓜 𝓡 γ).C (tables 𝓤 H 𝓜 𝓡 γ).Λ k f closed
      (walk_Meets 𝓛 T (stays T ps) (all_go 𝓛 S.params T.kept ps) c run
      (WpFn-mono 𝓤 H 𝓛.laws (tables_of 𝓤 H 𝓜 (tables 𝓤 H 𝓜 𝓡 γ)) f)
      (walked 𝓛 T (stays T ps) c run (λ κs. spelled κs S.params T.kept ps) (λ κs. all_tell κs S.params T.kept ps)
      (λ κs qs bounds a g are. via 𝓤 _ (begins κs qs bounds a g) (walk κs qs bounds a g are).prf)))
