-- The records and the inferred rows of a result block, as the kinds and the state area give them.
use Rattle.std.specs.Prelude.{not, List, ℕ, ◌+◌, ◌-◌, ◌≤◌, ◌<◌, get_or}
use Rattle.graph.specs.Below.{gather, count}
use Rattle.rules.specs.Job.{Bytes}
use Rattle.rules.specs.Types.{inferred}
use Rattle.rules.specs.Result.{words, record_of}
use Rattle.rules.specs.declared.Kind.{Kind}
use Rattle.rules.specs.declared.Origin.{Origin}
use Rattle.rules.specs.declared.Origin.TheVariants.{Sampled, Inferred}
use Rattle.types.specs.State.{blank, row_in}

-- The numbers of an origin fit 16 bits; those of t kinds.
abbrev pub OriginFits : Origin → Type 0
OriginFits (Sampled rows first) = (rows ≤ 65535) × (first ≤ 65535)
OriginFits (Inferred round) = round ≤ 65535

abbrev pub kind_at : List Kind → ℕ → Kind
kind_at kinds k = get_or kinds k blank

abbrev pub OriginsFit : List Kind → ℕ → Type 0
OriginsFit kinds t = (k : ℕ) → k < t → OriginFits (kind_at kinds k).origin

-- How many of t types are sampled.
abbrev pub sampled_of : List Kind → ℕ → ℕ
sampled_of kinds t = count t (λ k. not (inferred (kind_at kinds k).origin))

-- The records of t types, s of them sampled.
unfoldable pub records_of : List Kind → ℕ → ℕ → Bytes
records_of kinds t s = gather t (λ k. words (record_of (kind_at kinds k).origin (k - s)))

-- So many rows of width m, from type s on.
unfoldable pub inferred_rows : ℕ → Bytes → ℕ → ℕ → Bytes
inferred_rows m states s n = gather n (λ i. row_in m states (s + i))
