-- What is said of a triplet without its median vectors.
use Rattle.std.specs.Prelude.{◌≡◌, ℕ, ◌-◌, ◌<◌}
use Rattle.std.specs.Int.Bits.{bit_and}
use Rattle.rules.specs.Job.{Bytes}
use Rattle.rules.specs.Types.{row_at}
use Rattle.rules.specs.Median.{medians}
use Rattle.types.specs.State.{stored_at}
use Rattle.triplets.specs.declared.Triplet.{Triplet}
use Rattle.triplets.specs.Mismatches.{mismatches_in}
use Rattle.triplets.specs.declared.settled.Pairs.{Pairs}

-- From the mismatches of three pairs: where the first row differs from both others, and these agree.
abbrev pub alone_in : ℕ → ℕ → ℕ → ℕ
alone_in uv uw vw = bit_and uv uw - bit_and (bit_and uv uw) vw

-- A row made has the states of row v in the characters of k, and those of row u in the others.
pub record Mixed (states : Bytes) (m made u v k : ℕ) : Type 0 where
  pub row : ℕ
  pub is_made : row < made
  pub with_first : mismatches_in states m u row ≡ k
  pub with_second : bit_and (mismatches_in states m v row) k ≡ 0

-- Every median vector of a triplet is a row made.
abbrev pub Settled : Bytes → ℕ → Triplet → Type 0
Settled states made t =
    (k : ℕ) → k < 3 → (i : ℕ) × (i < made) × (stored_at states i ≡ row_at (medians (stored_at states t.u) (stored_at states t.v) (stored_at states t.w)) k)

-- The mismatches of a triplet's pairs.
pub record PairsOf (states : Bytes) (m : ℕ) (t : Triplet) (p : Pairs) : Type 0 where
  pub uv_is : p.uv ≡ mismatches_in states m t.u t.v
  pub uw_is : p.uw ≡ mismatches_in states m t.u t.w
  pub vw_is : p.vw ≡ mismatches_in states m t.v t.w
