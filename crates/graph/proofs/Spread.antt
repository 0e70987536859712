-- What the elements of a list are written as, one behind the other: of two lists, of a gather, and of what is kept by a test.
use mathlib.Core.Path.{◌≡◌, refl, ◌∙◌}
use mathlib.Core.Bool.{Bool, true, false}
use mathlib.Core.List.{List, ◌++◌}
use Prim.Native.Nat.{ℕ, zero, suc, ◌+◌}
use lib.ListN.{length, get_or, length-append, get_or-append}
use lib.Seq.{get_or-append-add}
use Rattle.graph.specs.Below.{gather, given, only}
use Rattle.graph.proofs.Below.{gather_add, gather_ext}

module _ {A B : Type 0} (g : A → List B) (d : A) where
  abbrev pub spread : List A → List B
  spread xs = gather (length xs) (λ k. g (get_or xs k d))

  pub spread-append : (xs ys : List A) → spread (xs ++ ys) ≡ spread xs ++ spread ys
  spread-append xs ys =
      let f : ℕ → List B = λ k. g (get_or (xs ++ ys) k d) in
      let front = gather_ext (length xs) f (λ k. g (get_or xs k d)) (λ k h. rw (get_or-append xs ys d k h)) in
      let rear = gather_ext (length ys) (λ k. f (length xs + k)) (λ k. g (get_or ys k d)) (λ k h. rw (get_or-append-add xs ys k d)) in
      rw (length-append, gather_add (length xs) (length ys) f, front, rear)

  pub spread-gather : (n : ℕ) (f : ℕ → List A) → spread (gather n f) ≡ gather n (λ i. spread (f i))
  unfolding gather
  spread-gather zero f = refl
  spread-gather (suc n) f = spread-append (gather n f) (f n) ∙ rw (spread-gather n f)

  pub spread-only : (t : Bool) (x : A) → spread (only t x) ≡ given t (g x)
  unfolding gather
  spread-only true x = refl
  spread-only false x = refl

  pub spread-kept : (n : ℕ) (t : ℕ → Bool) (f : ℕ → A) → spread (gather n (λ i. only (t i) (f i))) ≡ gather n (λ i. given (t i) (g (f i)))
  spread-kept n t f = spread-gather n _ ∙ gather_ext n _ _ (λ i h. spread-only (t i) (f i))
