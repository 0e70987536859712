-- The result block read back by its own header: whoever holds job and result block holds the network.
use Rattle.std.specs.Prelude.{cond, ℕ, ◌+◌, ◌*◌, ltb}
use Rattle.graph.specs.Below.{table}
use Rattle.rules.specs.Result.{record_size, link_size}
use Rattle.rules.specs.Job.{Bytes, word}
use Rattle.rules.specs.Types.{Node}
use Rattle.rules.specs.Run.{Network}
use Rattle.rules.specs.Lookup.{lookup}
use Rattle.rules.specs.declared.Link.{Link}
use Rattle.rules.specs.declared.Origin.{Origin}
use Rattle.rules.specs.declared.Origin.TheVariants.{Sampled, Inferred}

-- The header says where records and links begin; a record has three numbers, and so has a link.
abbrev pub record_at : Bytes → ℕ → ℕ
record_at block k = word block 10 + record_size * k

abbrev pub read_origin : Bytes → ℕ → Origin
read_origin block k =
    cond (ltb k (word block 2)) (Sampled (word block (record_at block k)) (word block (record_at block k + 2)))
    (Inferred (word block (record_at block k + 4)))

abbrev pub read_link : Bytes → ℕ → Link
read_link block k =
    let at = word block 14 + link_size * k in
    record { low = word block at; high = word block (at + 2); length = word block (at + 4) }

-- A type's states are what the row lookup hands back.
abbrev pub read_type : Bytes → Bytes → ℕ → Node
read_type job block k = record { row = lookup job block k; origin = read_origin block k }

unfoldable pub network_back : Bytes → Bytes → Network
network_back job block =
    record {
      types = table (word block 0) (read_type job block);
      links = table (word block 6) (read_link block);
      rounds = word block 8;
    }
