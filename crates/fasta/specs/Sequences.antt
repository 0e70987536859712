-- RULES 18.4: the sequences of a FASTA text.
use Rattle.std.specs.Prelude.{Bool, ◌&&◌, ℕ, suc, eqb, length}
use Rattle.graph.specs.Below.{gather, only, count}
use Rattle.rules.specs.Job.{Bytes, Row}
use Rattle.fasta.specs.Lines.{byte_at, opens, is_state}

-- RULES 18.4: how many sequences are opened before a byte.
abbrev pub opened : Bytes → ℕ → ℕ
opened text i = count i (opens text)

-- RULES 18.4: a state of sequence k: that one was opened last.
abbrev pub in_sequence : Bytes → ℕ → ℕ → Bool
in_sequence text k i = is_state text i && eqb (opened text i) (suc k)

-- RULES 18.4: the states of sequence k that stand before byte i, put together.
unfoldable pub joined : Bytes → ℕ → ℕ → Row
joined text i k = gather i (λ j. only (in_sequence text k j) (byte_at text j))

-- RULES 18.4: how many sequences the whole text has, and each of them.
abbrev pub sequences : Bytes → ℕ
sequences text = opened text (length text)

abbrev pub sequence : Bytes → ℕ → Row
sequence text k = joined text (length text) k

-- RULES 18.4: the states of all sequences, put together.
unfoldable pub states : Bytes → Row
states text = gather (length text) (λ i. only (is_state text i) (byte_at text i))
