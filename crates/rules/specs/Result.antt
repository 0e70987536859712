-- RULES 13: the result block.
use Rattle.std.specs.Prelude.{not, List, [], ◌∷◌, ◌++◌, ℕ, ◌+◌, ◌*◌, ◌-◌, ◌/◌, ◌%◌, length}
use Rattle.graph.specs.Below.{gather, count}
use Rattle.rules.specs.Job.{Bytes}
use Rattle.rules.specs.Types.{Node, inferred, node_at}
use Rattle.rules.specs.Links.{link_at}
use Rattle.rules.specs.Run.{Network}
use Rattle.rules.specs.declared.Origin.{Origin}
use Rattle.rules.specs.declared.Origin.TheVariants.{Sampled, Inferred}

-- RULES 1.5: numbers as bytes.
unfoldable pub words : List ℕ → Bytes
words [] = []
words (x ∷ xs) = x % 256 ∷ x / 256 ∷ words xs

-- RULES 13.1: where the records begin, then the inferred rows, then the links. RULES 13.3, 13.5: the bytes of a record and of a link.
abbrev pub records_offset : ℕ
records_offset = 16

abbrev pub record_size : ℕ
record_size = 6

abbrev pub link_size : ℕ
link_size = 6

abbrev pub rows_offset : ℕ → ℕ
rows_offset t = records_offset + record_size * t

abbrev pub links_offset : ℕ → ℕ → ℕ → ℕ
links_offset t s m = rows_offset t + (t - s) * m

-- RULES 13.6: the length of the whole block.
abbrev pub block_length : ℕ → ℕ → ℕ → ℕ → ℕ
block_length t s m l = links_offset t s m + link_size * l

-- RULES 13.1: the header.
abbrev pub header : ℕ → ℕ → ℕ → ℕ → ℕ → List ℕ
header t s m l rounds = t ∷ s ∷ m ∷ l ∷ rounds ∷ records_offset ∷ rows_offset t ∷ links_offset t s m ∷ []

-- RULES 13.3: the record of a type; the index is the one that it has among the inferred rows.
abbrev pub record_of : Origin → ℕ → List ℕ
record_of (Sampled rows first) index = rows ∷ first ∷ 0 ∷ []
record_of (Inferred round) index = 0 ∷ index ∷ round ∷ []

-- RULES 13.1: s, the count of sampled types.
abbrev pub sampled_in : List Node → ℕ
sampled_in ts = count (length ts) (λ k. not (inferred (node_at ts k).origin))

-- RULES 13.2 to 13.5: the block: header, records, inferred rows, links.
unfoldable pub block : ℕ → Network → Bytes
block m net =
    let ts = net.types in
    let ls = net.links in
    let t = length ts in
    let s = sampled_in ts in
    words (header t s m (length ls) net.rounds)
    ++ gather t (λ k. words (record_of (node_at ts k).origin (k - s)))
    ++ gather (t - s) (λ i. (node_at ts (s + i)).row)
    ++ gather (length ls) (λ k. words ((link_at ls k).low ∷ (link_at ls k).high ∷ (link_at ls k).length ∷ []))
