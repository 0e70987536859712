-- The connection cost of the median vectors of stored types.
use Rattle.std.specs.Prelude.{List, ℕ}
use Rattle.rules.specs.Job.{Bytes, Row}
use Rattle.rules.specs.Median.{median, connection}
use Rattle.types.specs.State.{stored_at}

-- Of three rows, by their first median vector; it is the same for all three (rules, proofs/Median.antt).
abbrev pub cost : List ℕ → Row → Row → Row → ℕ
cost ws u v w = connection ws (median u u v w) u v w

-- Of the types u, v and w.
abbrev pub cost_at : List ℕ → Bytes → ℕ → ℕ → ℕ → ℕ
cost_at ws states u v w = cost ws (stored_at states u) (stored_at states v) (stored_at states w)
