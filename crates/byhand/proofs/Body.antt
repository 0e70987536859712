-- Steps for the walk of a long body: its locals all at once, a slice that is passed on, and what is passed to a call and comes of it.
--     env ls bs            the locals ls, in the blocks bs
--     rooms, deaths        room for each local of an environment, and the right to free each
--     allocs-all, frees_all     all locals are allocated, and freed
--     reslices, unslices   `p = addr_of (s.0.*);  t = aggregate [copy p, copy s.1]`: the slice in s, once more in t; and p and t are let go
--     whole-arg, field-arg      an operand of a call: a local, and a field of a local
--     number               what a usize owns, which is had for nothing
--     lands-nothing        the `()` that a call returned is stored, and let go
-- An equation that a step asks says where its entries stand in the context: `refl` shows it.
-- Assumes `Logic`.
use mathlib.Core.Path.{◌≡◌, refl, sym, ap, subst}
use Prim.Native.Nat.{ℕ, zero, suc, ◌<◌, ◌^◌}
use mathlib.Core.Option.{some}
use mathlib.Core.List.{List, [], ◌∷◌, ◌++◌}
use seplogic.Ra.Ura.{Ura}
use base.Fraction.{full_share}
use mir.Syntax.{Sym, Ty, Tys, Lifetime, Mutability, ty_ref, ty_struct, ty_unit, w64, Step as PStep, place, deref, field, Opd as Operand, copy}
use mir.Syntax.{addr_of, aggregate, assign, seq, Body, Local, local}
use mir.Val.{Val, Vals, vint, vptr, vstruct}
use mir.Fields.{get_v}
use base.Logic.{SProp, sep, emp, id⊢, via, comm∗, assoc∗, mono_r}
use base.Fml.{Share, fat, froom, fdies}
use prog.Memory.{field_at}
use prog.Wp.{Env, Spot, spot_of, Calls, Loops}
use types.Logic.{Logic}
use types.Kit.{Item, Goal, Post, Seq, Step, step, ‵, raw, ◌⊛◌, mean, ⋆, push, pop, ⊢++, nth, put, runs, lands, allocs, frees, ◌$◌, by}
use types.Kit.{move, use0, use1, use2, drop, split}
use types.Run.{Reads, Opds, Walks, Finds, from, stop, fld, hop, addr, load, look, init, forget, and_then, no_more, assigns, land}
use types.Run.{alloc1, alloc0, free1, free0}
use types.Part.{Part, whole, sub, look_in, agg}
use denote.Laws.{Is}
use denote.Plain.{Nothing, uint_Makes, Nothing-Lawful}
use denote.Builtin.{usize}
use denote.Slice.{slice_ty, slice_val}
use denote.Steps.{owned}

-- ---- the locals
abbrev pub Blocks : List Local → Type 0
Blocks [] = Unit {0}
Blocks (l ∷ ls) = ℕ × Blocks ls

abbrev pub env : (ls : List Local) → Blocks ls → List (Ty × ℕ)
env [] bs = []
env (local τ h ∷ ls) bs = (τ, bs.0) ∷ env ls bs.1

abbrev pub rooms : {M : Type 1} {𝓤 : Ura M} → List (Ty × ℕ) → List (Item 𝓤)
rooms [] = []
rooms (e ∷ E) = ‵ (froom e.0 e.1 0) ∷ rooms E

abbrev pub deaths : {M : Type 1} {𝓤 : Ura M} → List (Ty × ℕ) → List (Item 𝓤)
deaths [] = []
deaths (e ∷ E) = ‵ (fdies e.0 e.1) ∷ deaths E

module _ {M : Type 1} {𝓤 : Ura M} {𝓛 : Logic 𝓤} {K : Type 0} where
  open 𝓛 use {H}

  pub allocs_all : K → {ls : List Local} {Γ : List (Item 𝓤)} {Kt : Env 𝓤 H → Goal 𝓤 H}
      → ((bs : Blocks ls) → Seq K 𝓛 (raw (⋆ 𝓛 (rooms (env ls bs))) ∷ raw (⋆ 𝓛 (deaths (env ls bs))) ∷ Γ) (Kt (env ls bs)))
      → Seq K 𝓛 Γ (allocs ls Kt)
  allocs_all t {ls = []} k = alloc0 t $ use0 𝓛 (raw (emp 𝓤)) (id⊢ 𝓤 (emp 𝓤)) $ use0 𝓛 (raw (emp 𝓤)) (id⊢ 𝓤 (emp 𝓤)) $ k tt
  allocs_all t {ls = local τ h ∷ ls} {Kt = Kt} k = alloc1 t (λ b. allocs_all t {ls = ls} {Kt = λ E. Kt ((τ, b) ∷ E)} (λ bs.
      -- [room for the others; their deaths; room for this one; its death]
      move t (3 ∷ 1 ∷ []) $ use2 𝓛 (raw (⋆ 𝓛 (deaths ((τ, b) ∷ env ls bs)))) (push 𝓛 (‵ (fdies τ b)) (deaths (env ls bs))) $
      move t (2 ∷ 1 ∷ []) $ use2 𝓛 (raw (⋆ 𝓛 (rooms ((τ, b) ∷ env ls bs)))) (push 𝓛 (‵ (froom τ b 0)) (rooms (env ls bs))) $ k (b, bs)))

  frees_packed : K → (E : List (Ty × ℕ)) {Γ : List (Item 𝓤)} {g : Goal 𝓤 H}
      → Step K 𝓛 Γ g (raw (⋆ 𝓛 (rooms E)) ∷ raw (⋆ 𝓛 (deaths E)) ∷ Γ) (frees E g)
  frees_packed t [] = step (λ s. drop t $ drop t $ free0 t $ s)
  frees_packed t (e ∷ E) = step (λ s.
      use1 𝓛 (‵ (froom e.0 e.1 0) ⊛ raw (⋆ 𝓛 (rooms E))) (pop 𝓛 (‵ (froom e.0 e.1 0)) (rooms E)) $ split t $ move t (2 ∷ []) $
      use1 𝓛 (‵ (fdies e.0 e.1) ⊛ raw (⋆ 𝓛 (deaths E))) (pop 𝓛 (‵ (fdies e.0 e.1)) (deaths E)) $ split t $ move t (2 ∷ 0 ∷ 3 ∷ 1 ∷ []) $
      free1 t {τ = e.0} {b = e.1} $ frees_packed t E $ s)

  -- what is left is the first entry
  pub frees_all : K → (E : List (Ty × ℕ)) {i : Item 𝓤} {g : Goal 𝓤 H} → Step K 𝓛 (i ∷ []) g (i ∷ (rooms E ++ (raw (⋆ 𝓛 (deaths E)) ∷ []))) (frees E g)
  frees_all t E {i} = step (λ s. by t (
      let R : SProp 𝓤 = ⋆ 𝓛 (rooms E) in
      let D : SProp 𝓤 = ⋆ 𝓛 (deaths E) in
      let I : SProp 𝓤 = mean 𝓛 i in
      via 𝓤 (sep 𝓤 I (⋆ 𝓛 (rooms E ++ (raw D ∷ [])))) (pop 𝓛 i (rooms E ++ (raw D ∷ [])))
      (via 𝓤 (sep 𝓤 I (sep 𝓤 R D)) (mono_r 𝓤 I (⊢++ 𝓛 (rooms E) (raw D ∷ [])))
      (via 𝓤 (sep 𝓤 (sep 𝓤 R D) I) (comm∗ 𝓤 I (sep 𝓤 R D)) (via 𝓤 (sep 𝓤 R (sep 𝓤 D I)) (assoc∗ 𝓤 R D I) (frees_packed t E $ s).prf)))))

  -- ---- a place in a local that is known, and a part of an entry that is known
  from_at : K → {Γ : List (Item 𝓤)} {E : Env 𝓤 H} {i : ℕ} {st : List PStep} {sp₀ sp : Spot 𝓤 H}
      → spot_of 𝓤 H E i ≡ sp₀ → Walks K 𝓛 Γ E sp₀ st sp → Finds K 𝓛 Γ E (place i st) sp
  from_at t {Γ = Γ} {E = E} {st = st} {sp = sp} e w = from t (subst (λ (s : Spot 𝓤 H). Walks K 𝓛 Γ E s st sp) (sym e) w)

  part_at : K → {Γ : List (Item 𝓤)} (n : ℕ) {j : Item 𝓤} {q : Share} {τ : Ty} {b o : ℕ} {v : Val} {back : Val → Item 𝓤}
      → nth 𝓛 n Γ ≡ j → Part K 𝓛 j q τ b o v back → Reads K 𝓛 Γ τ b o v
  part_at t n {q = q} {τ = τ} {b = b} {o = o} {v = v} {back = back} e p = look_in t n (subst (λ (i : Item 𝓤). Part K 𝓛 i q τ b o v back) (sym e) p)

  -- ---- the slice is entry x of the context, room for p entry y, and room for t the one after it
  pub reslices : K → {Γ : List (Item 𝓤)} {E : Env 𝓤 H} {C : Calls 𝓤 H} {Λ : Loops 𝓤 H} {Q : Post 𝓤 H} {rest : Body} (x y : ℕ)
      {i j k b b₁ b₂ n : ℕ} {a : ℕ × ℕ} {ℓ ℓ' : Lifetime} {m m' : Mutability} {τ τ' σ : Ty}
      → let source : Item 𝓤 = ‵ (fat full_share (slice_ty (ty_ref ℓ m τ)) b 0 (slice_val a n)) in
      let pointer : Item 𝓤 = ‵ (fat full_share (ty_ref ℓ' m' τ') b₁ 0 (vptr a.0 a.1)) in
      let target : Item 𝓤 = ‵ (fat full_share (slice_ty (ty_ref ℓ' m' τ')) b₂ 0 (slice_val a n)) in
      let Γ₁ : List (Item 𝓤) = put 𝓛 y pointer Γ in
      ◌≡◌ {A = (Spot 𝓤 H × Spot 𝓤 H × Spot 𝓤 H) × (Item 𝓤 × Item 𝓤) × (Item 𝓤 × Item 𝓤 × Item 𝓤)}
      ((spot_of 𝓤 H E i, spot_of 𝓤 H E j, spot_of 𝓤 H E k), (nth 𝓛 x Γ, nth 𝓛 y Γ), (nth 𝓛 x Γ₁, nth 𝓛 y Γ₁, nth 𝓛 (suc y) Γ₁)) (
        ((slice_ty (ty_ref ℓ m τ), b, 0), (ty_ref ℓ' m' τ', b₁, 0), (slice_ty (ty_ref ℓ' m' τ'), b₂, 0)),
        (source, ‵ (froom (ty_ref ℓ' m' τ') b₁ 0)),
        (source, pointer, ‵ (froom (slice_ty (ty_ref ℓ' m' τ')) b₂ 0)),
      )
      → n < 2 ^ 64
      → Step K 𝓛 (put 𝓛 (suc y) target Γ₁) (runs C Λ E rest Q) Γ
      (runs C Λ E (seq (assign (place j []) (addr_of (place i (field 0 ∷ deref σ ∷ []))))
      (seq (assign (place k []) (aggregate (copy (place j []) ∷ copy (place i (field 1 ∷ [])) ∷ []))) rest)) Q)
  reslices t x y at fits = step (λ s.
      assigns t (addr t (from_at t (ap (λ u. u.0.0) at) (fld t refl (hop t (part_at t x (ap (λ u. u.1.0) at) (sub t 0 refl (whole t))) (stop t)))))
      (from_at t (ap (λ u. u.0.1) at) (stop t)) (init t y (ap (λ u. u.1.1) at) (tt, tt)) $
      assigns t (agg t (and_then t (load t (from_at t (ap (λ u. u.0.1) at) (stop t)) (look t y (ap (λ u. u.2.1) at)))
      (and_then t (load t (from_at t (ap (λ u. u.0.0) at) (fld t refl (stop t))) (part_at t x (ap (λ u. u.2.0) at) (sub t 1 refl (whole t)))) (no_more t))))
      (from_at t (ap (λ u. u.0.2) at) (stop t)) (init t (suc y) (ap (λ u. u.2.2) at) (tt, (tt, (record { fits = fits }, tt)))) $ s)

  pub unslices : K → {Γ : List (Item 𝓤)} {G : Goal 𝓤 H} (y : ℕ) {τ σ : Ty} {b b' : ℕ} {v w : Val}
      → let Γ₁ : List (Item 𝓤) = put 𝓛 y (‵ (froom τ b 0)) Γ in
      ◌≡◌ {A = Item 𝓤 × Item 𝓤} (nth 𝓛 y Γ, nth 𝓛 (suc y) Γ₁) (‵ (fat full_share τ b 0 v), ‵ (fat full_share σ b' 0 w))
      → Step K 𝓛 (put 𝓛 (suc y) (‵ (froom σ b' 0)) Γ₁) G Γ G
  unslices t y at = step (λ s. forget t y (ap (λ u. u.0) at) $ forget t (suc y) (ap (λ u. u.1) at) $ s)

  -- ---- a call. The local is entry n of the context
  pub whole_arg : K → {Γ : List (Item 𝓤)} {E : Env 𝓤 H} (n : ℕ) {i : ℕ} {q : Share} {v : Val} {xs : List Operand} {vs : List Val}
      → nth 𝓛 n Γ ≡ ‵ (fat q (spot_of 𝓤 H E i).0 (spot_of 𝓤 H E i).1 0 v) → Opds K 𝓛 Γ E xs vs → Opds K 𝓛 Γ E (copy (place i []) ∷ xs) (v ∷ vs)
  whole_arg t n e os = and_then t (load t (from t (stop t)) (look t n e)) os

  pub field_arg : K → {Γ : List (Item 𝓤)} {E : Env 𝓤 H} (n k : ℕ) {i b d : ℕ} {q : Share} {ν : Sym} {τs : Tys} {τ : Ty} {us : Vals}
      {xs : List Operand} {vs : List Val}
      → ◌≡◌ {A = Spot 𝓤 H × Item 𝓤} (spot_of 𝓤 H E i, nth 𝓛 n Γ) ((ty_struct ν τs, b, 0), ‵ (fat q (ty_struct ν τs) b 0 (vstruct us)))
      → field_at zero τs k ≡ some (τ, d) → Opds K 𝓛 Γ E xs vs → Opds K 𝓛 Γ E (copy (place i (field k ∷ [])) ∷ xs) (get_v us k ∷ vs)
  field_arg t n k at f os = and_then t (load t (from_at t (ap (λ u. u.0) at) (fld t f (stop t))) (part_at t n (ap (λ u. u.1) at) (sub t k f (whole t)))) os

  pub number : K → {Γ : List (Item 𝓤)} {G : Goal 𝓤 H} (n : ℕ) → n < 2 ^ 64 → Step K 𝓛 (‵ (usize.own_val n (vint w64 n ∷ [])) ∷ Γ) G Γ G
  number t n fits = owned t usize (Is usize) (uint_Makes 𝓛 w64) n (vint w64 n ∷ []) (refl, fits)

  pub lands_nothing : K → {Γ : List (Item 𝓤)} {E : Env 𝓤 H} {C : Calls 𝓤 H} {Λ : Loops 𝓤 H} {Q : Post 𝓤 H} {rest : Body} (n : ℕ)
      {i b : ℕ} {u : Unit {0}} {w : Val}
      → let Γ₁ : List (Item 𝓤) = put 𝓛 n (‵ (fat full_share ty_unit b 0 w)) Γ in
      ◌≡◌ {A = Spot 𝓤 H × Item 𝓤 × Item 𝓤} (spot_of 𝓤 H E i, nth 𝓛 n Γ, nth 𝓛 n Γ₁)
      ((ty_unit, b, 0), ‵ (froom ty_unit b 0), ‵ (fat full_share ty_unit b 0 w))
      → Is Nothing u (w ∷ []) → Step K 𝓛 (put 𝓛 n (‵ (froom ty_unit b 0)) Γ₁) (runs C Λ E rest Q) Γ (lands C Λ E (place i []) w rest Q)
  lands_nothing t n {u = u} {w = w} at is = step (λ s.
      land t (from_at t (ap (λ z. z.0) at) (stop t)) (init t n (ap (λ z. z.1) at) ((Nothing-Lawful 𝓛).typed u (w ∷ []) is).0) $
      forget t n (ap (λ z. z.2) at) $ s)
