-- The lines as a result block gives them, and which blocks can be printed with a job.
use Rattle.std.specs.Prelude.{◌≡◌, Bool, true, ◌&&◌, ◌++◌, ℕ, ◌+◌, ◌*◌, leb, length}
use Rattle.graph.specs.Below.{gather}
use Rattle.rules.specs.Result.{link_size}
use Rattle.rules.specs.Sizes.{most_links}
use Rattle.rules.specs.Job.{Bytes, word}
use Rattle.rules.specs.Text.{text, say, type_line, link_line}
use Rattle.lookup.specs.Match.{matches}
use Rattle.readback.specs.ReadBack.{read_link, read_type}

-- The block's header is one of this job's width, and it holds as many links as it says, at most 8,128.
abbrev pub legible : Bytes → Bytes → Bool
legible job block = matches job block && leb (word block 6) most_links && leb (word block 14 + link_size * word block 6) (length block)

abbrev pub Legible : Bytes → Bytes → Type 0
Legible job block = legible job block ≡ true

unfoldable pub network_line_of : Bytes → Bytes
network_line_of block =
    say "types " (word block 0) ++ say " sampled " (word block 2) ++ say " links " (word block 6) ++ say " rounds " (word block 8) ++ text "\n"

abbrev pub type_line_of : Bytes → Bytes → ℕ → Bytes
type_line_of job block k = type_line k (read_type job block k)

unfoldable pub type_lines_of : Bytes → Bytes → Bytes
type_lines_of job block = gather (word block 0) (type_line_of job block)

-- The line of the link at a byte.
abbrev pub link_line_of : Bytes → ℕ → Bytes
link_line_of block from = link_line (record { low = word block from; high = word block (from + 2); length = word block (from + 4) })

unfoldable pub link_lines_of : Bytes → Bytes
link_lines_of block = gather (word block 6) (λ k. link_line (read_link block k))

abbrev pub network_of : Bytes → Bytes → Bytes
network_of job block = network_line_of block ++ type_lines_of job block ++ link_lines_of block
