-- RULES 18.7 and 18.8: the refusals 21 to 26, for which the text alone is looked at.
use Rattle.std.specs.Prelude.{Bool, not, ◌&&◌, ℕ, suc, ◌-◌, ltb, eqb, length, Err}
use Rattle.graph.specs.Below.{first}
use Rattle.rules.specs.Sizes.{most_rows, most_width, first_state, last_state}
use Rattle.rules.specs.Answers.{when◌refuse◌else◌}
use Rattle.rules.specs.Job.{Bytes, outside}
use Rattle.fasta.specs.Lines.{byte_at, opens, is_state}
use Rattle.fasta.specs.Answers.{Conversion, refuses, no_fault}
use Rattle.fasta.specs.declared.conversion.Fault.TheVariants.{Before, Byte, Wide, Many, Empty, Uneven}
use Rattle.fasta.specs.Sequences.{opened, joined, sequences, sequence}

-- ── Met while reading; the place is a byte ──

-- RULES 18.7 (21): text, and no sequence is open yet.
abbrev pub before_first : Bytes → ℕ → Bool
before_first text i = is_state text i && eqb (opened text i) 0

-- RULES 18.7 (22): a byte of a sequence, and no state of RULES 1.4.
abbrev pub in_some : Bytes → ℕ → Bool
in_some text i = is_state text i && ltb 0 (opened text i)

abbrev pub bad_byte : Bytes → ℕ → Bool
bad_byte text i = in_some text i && outside first_state last_state (byte_at text i)

-- RULES 18.7 (23): with this state its sequence has more than 64.
abbrev pub held : Bytes → ℕ → ℕ
held text i = length (joined text i (opened text i - 1))

abbrev pub one_too_wide : Bytes → ℕ → Bool
one_too_wide text i = in_some text i && ltb most_width (suc (held text i))

-- RULES 18.7 (24): with the sequence that is opened here there are more than 256.
abbrev pub one_too_many : Bytes → ℕ → Bool
one_too_many text i = opens text i && ltb most_rows (suc (opened text i))

-- RULES 18.8: the fault of a byte, the lowest number first.
abbrev pub fault_at : Bytes → ℕ → Conversion
fault_at text i =
    when before_first text i refuse Err (Before i) else
    when bad_byte text i refuse Err (Byte i) else
    when one_too_wide text i refuse Err (Wide i) else
    when one_too_many text i refuse Err (Many i) else
    no_fault

-- RULES 18.8: the first byte at fault, or the length of the text if none is.
unfoldable pub first_fault : Bytes → ℕ
first_fault text = first (length text) (λ i. refuses (fault_at text i))

-- ── Asked when all is read; the place is a sequence ──

-- RULES 18.7 (25): the first sequence without states, or their count if there is none.
unfoldable pub first_empty : Bytes → ℕ
first_empty text = first (sequences text) (λ k. eqb (length (sequence text k)) 0)

-- RULES 18.7 (26): the first sequence that is longer or shorter than sequence 0, or their count if there is none.
unfoldable pub first_uneven : Bytes → ℕ
first_uneven text = first (sequences text) (λ k. not (eqb (length (sequence text k)) (length (sequence text 0))))

-- RULES 18.8: a fault met while reading; else 25, and 26 last.
unfoldable pub checked_text : Bytes → Conversion
checked_text text =
    when ltb (first_fault text) (length text) refuse fault_at text (first_fault text) else
    when eqb (sequences text) 0 refuse Err (Empty 0) else
    when ltb (first_empty text) (sequences text) refuse Err (Empty (first_empty text)) else
    when ltb (first_uneven text) (sequences text) refuse Err (Uneven (first_uneven text)) else
    no_fault
