-- Paths along links: turned round, with a link more, taken apart at a link, and decided.
use mathlib.Core.Path.{◌≡◌, refl, sym}
use mathlib.Core.Logic.Dec
use mathlib.Core.Logic.{◌⊎◌, inl, inr, ⊎_swap, ⊎_map, ⊎_elim}
use mathlib.Core.List.{List, [], ◌∷◌}
use Prim.Native.Nat.{ℕ, ◌<◌}
use native.Mathlib.Decide.{ℕ_discrete, map_dec}
use Rattle.graph.specs.Walk.{stop, step}
use Rattle.graph.specs.Tree.{Ends, Between, Has, Joined}
use Rattle.graph.proofs.Walks.{join, reverse, relax}

-- What holds of the ends of a link, either way round, holds of what it lies between.
pub between : (S : ℕ → ℕ → Type 0) → ((a b : ℕ) → S a b → S b a) → (l : Ends) → S l.0 l.1 → (a b : ℕ) → Between l a b → S a b
between S turn l s a b (inl e) = rw (e.0, e.1) at s
between S turn l s a b (inr e) = rw (e.0, e.1) at (turn _ _ s)

-- Links hold both ways, and so do paths.
pub has-back : (E : List Ends) (a b : ℕ) → Has E a b → Has E b a
unfolding ⊎_map ⊎_swap
has-back [] a b h = elim h [ ]
has-back (l ∷ E) a b h = ⊎_map ⊎_swap (has-back E a b) h

pub joined_back : (E : List Ends) {u v : ℕ} → Joined E u v → Joined E v u
joined_back E = reverse (has-back E)

-- The ends of links are below n if those of the first are, and those of the others.
pub inside_cons : (n : ℕ) (l : Ends) (E : List Ends) → l.0 < n → l.1 < n → ((a b : ℕ) → Has E a b → a < n) → (a b : ℕ) → Has (l ∷ E) a b → a < n
inside_cons n l E h0 h1 i a b =
    ⊎_elim (λ h. (between (λ x y. (x < n) × (y < n)) (λ x y h. (h.1, h.0)) l (h0, h1) a b h).0) (i a b)

module _ (l : Ends) (E : List Ends) where
  -- The first link, along and against.
  pub ahead : Has (l ∷ E) l.0 l.1
  ahead = inl (inl (refl, refl))

  pub astern : Has (l ∷ E) l.1 l.0
  astern = inl (inr (refl, refl))

  pub widen : {u v : ℕ} → Joined E u v → Joined (l ∷ E) u v
  widen = relax (λ a b h. inr h)

  -- From u to v without l, or along l, or against it.
  abbrev Via : ℕ → ℕ → Type 0
  Via u v = Joined E u v ⊎ (Joined E u l.0 × Joined E l.1 v) ⊎ (Joined E u l.1 × Joined E l.0 v)

  cross : {u v w : ℕ} → Between l u v → Via v w → Via u w
  cross (inl e) (inl p) = inr (inl (stop (sym e.0), rw e.1 p))
  cross (inl e) (inr (inl p)) = inr (inl (stop (sym e.0), p.1))
  cross (inl e) (inr (inr p)) = inl (rw (← e.0) p.1)
  cross (inr e) (inl p) = inr (inr (stop (sym e.1), rw e.0 p))
  cross (inr e) (inr (inl p)) = inl (rw (← e.1) p.1)
  cross (inr e) (inr (inr p)) = inr (inr (stop (sym e.1), p.1))

  via : {u v : ℕ} → Joined (l ∷ E) u v → Via u v
  unfolding ⊎_map
  via (stop e) = inl (stop e)
  via (step (inl h) p) = cross h (via p)
  via (step (inr h) p) = ⊎_map (step h) (⊎_map (λ q. (step h q.0, q.1)) (λ q. (step h q.0, q.1))) (via p)

  unvia : {u v : ℕ} → Via u v → Joined (l ∷ E) u v
  unvia (inl p) = widen p
  unvia (inr (inl p)) = join (widen p.0) (step ahead (widen p.1))
  unvia (inr (inr p)) = join (widen p.0) (step astern (widen p.1))

-- A path from u to v does without the link l, or else a link between u and v can take the place of l.
pub detour : (l : Ends) (E : List Ends) {u v : ℕ} → Joined (l ∷ E) u v → Joined E u v ⊎ Joined ((u, v) ∷ E) l.0 l.1
unfolding ⊎_map
detour l E {u} {v} p =
    ⊎_map (λ q. q)
    (λ s. unvia (u, v) E (inr (⊎_map (λ q. (joined_back E q.0, joined_back E q.1)) (λ q. (q.1, q.0)) s))) (via l E p)

either? : {A B : Type 0} → Dec A → Dec B → Dec (A ⊎ B)
either? (yes a) d = yes (inl a)
either? (no f) d = map_dec inr (⊎_elim (λ a. absurd (f a)) (λ b. b)) d

-- Whether a path leads from u to v is decided link by link.
pub joined? : (E : List Ends) (u v : ℕ) → Dec (Joined E u v)
joined? [] u v = map_dec stop nowhere (ℕ_discrete u v)
  where
    nowhere : Joined [] u v → u ≡ v
    nowhere (stop e) = e
    nowhere (step h p) = absurd h
joined? (l ∷ E) u v =
    map_dec (unvia l E) (via l E)
    (either? (joined? E u v)
    (either? (Dec.and (joined? E u l.0) (joined? E l.1 v)) (Dec.and (joined? E u l.1) (joined? E l.0 v))))
