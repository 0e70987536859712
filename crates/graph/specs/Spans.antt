-- RULES 7.3: a test for feasible links that computes. proofs/Theorems.antt shows that it agrees with the chains of Feasible.antt.
use Rattle.std.specs.Prelude.{Bool, List, [], ℕ, zero, suc, ◌+◌, min, max, leb, get_or}
use Rattle.graph.specs.Below.{table}

-- A number for every two nodes.
abbrev pub Grid : Type 0
Grid = List (List ℕ)

abbrev pub cell : Grid → ℕ → ℕ → ℕ
cell g a b = get_or (get_or g a []) b 0

unfoldable pub grid : ℕ → (ℕ → ℕ → ℕ) → Grid
grid n f = table n (λ a. table n (f a))

-- RULES 7.3: the span of two nodes is the longest step of a chain between them, in the chain where that is least.
-- Once chains may pass node k too, it is the old span, or the longer of the two parts' if that is less.
unfoldable pub passing : ℕ → ℕ → Grid → Grid
passing n k g = grid n (λ a b. min (cell g a b) (max (cell g a k) (cell g k b)))

-- The spans of chains that pass nodes below k alone.
unfoldable pub spans_by : ℕ → ℕ → (ℕ → ℕ → ℕ) → Grid
spans_by zero n d = grid n d
spans_by (suc k) n d = passing n k (spans_by k n d)

unfoldable pub spans : ℕ → (ℕ → ℕ → ℕ) → Grid
spans n d = spans_by n n d

-- RULES 7.3: the test of a link, given the spans g.
abbrev pub feasible : (ℕ → ℕ → ℕ) → Grid → ℕ → ℕ → ℕ → Bool
feasible d g ε u v = leb (d u v) (cell g u v + ε)
