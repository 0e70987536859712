-- RULES 1.7: the numbers below n, counted up from 0: what is said of all of them, and what is made of them.
-- Whatever a definition says in a row, of nodes, of characters or of bytes, it says by one of these.
use Rattle.std.specs.Prelude.{Bool, true, false, cond, ◌&&◌, ◌||◌, List, [], ◌∷◌, ◌++◌, ℕ, zero, suc, ◌+◌}

module _ {A : Type 0} where
  -- f 0, f 1, .. f (n - 1)
  unfoldable pub table : ℕ → (ℕ → A) → List A
  table zero f = []
  table (suc n) f = table n f ++ (f n ∷ [])

  -- the lists f 0, f 1, .. f (n - 1), one behind the other
  unfoldable pub gather : ℕ → (ℕ → List A) → List A
  gather zero f = []
  gather (suc n) f = gather n f ++ f n

  -- the list where the test passes, and else nothing
  abbrev pub given : Bool → List A → List A
  given true xs = xs
  given false xs = []

  abbrev pub only : Bool → A → List A
  only t x = given t (x ∷ [])

-- f 0 + f 1 + .. + f (n - 1)
unfoldable pub sum : ℕ → (ℕ → ℕ) → ℕ
sum zero f = 0
sum (suc n) f = sum n f + f n

-- how many pass the test
abbrev pub count : ℕ → (ℕ → Bool) → ℕ
count n p = sum n (λ i. cond (p i) 1 0)

-- one of them passes
unfoldable pub some : ℕ → (ℕ → Bool) → Bool
some zero p = false
some (suc n) p = some n p || p n

-- all of them pass
unfoldable pub every : ℕ → (ℕ → Bool) → Bool
every zero p = true
every (suc n) p = every n p && p n

-- the first that passes, or n where none does
unfoldable pub first : ℕ → (ℕ → Bool) → ℕ
first zero p = 0
first (suc n) p = let later = suc (first n (λ i. p (suc i))) in cond (p 0) 0 later
