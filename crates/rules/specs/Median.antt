-- RULES 9 and 10: triplets and median vectors.
use Rattle.std.specs.Prelude.{Bool, true, false, cond, ◌&&◌, ◌||◌, List, [], ◌∷◌, ℕ, ◌+◌, ltb, eqb, length, get_or}
use Rattle.graph.specs.Below.{table}
use Rattle.rules.specs.Job.{Row}
use Rattle.rules.specs.Distance.{distance}
use Rattle.rules.specs.Links.{linked}
use Rattle.rules.specs.declared.Link.{Link}

-- RULES 9.1: two of three hold, or all three.
abbrev pub two_of : Bool → Bool → Bool → Bool
two_of true b c = b || c
two_of false b c = b && c

-- RULES 9.1: a triplet. Its numbers ascend, so that each one is met once.
abbrev pub triplet : List Link → ℕ → ℕ → ℕ → Bool
triplet ls u v w = (ltb u v && ltb v w) && two_of (linked ls u v) (linked ls u w) (linked ls v w)

-- RULES 10.1, 10.2: the state in one character; x is the state to take if no two agree.
abbrev pub common : ℕ → ℕ → ℕ → ℕ → ℕ
common x u v w = cond (eqb u v) u (cond (eqb u w) u (cond (eqb v w) v x))

-- RULES 10.1, 10.2: the vector that sides with x.
unfoldable pub median : Row → Row → Row → Row → Row
median x u v w = table (length x) (λ c. common (get_or x c 0) (get_or u c 0) (get_or v c 0) (get_or w c 0))

-- RULES 10.1, 10.2: the three vectors.
abbrev pub medians : Row → Row → Row → List Row
medians u v w = median u u v w ∷ median v u v w ∷ median w u v w ∷ []

-- RULES 10.3: what it costs to connect x with u, v and w. proofs/Median.antt shows that it is one cost for the three vectors.
abbrev pub connection : List ℕ → Row → Row → Row → Row → ℕ
connection ws x u v w = distance ws x u + distance ws x v + distance ws x w
