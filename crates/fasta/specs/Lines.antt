-- RULES 18.2 and 18.3: the lines of a FASTA text: which bytes open a sequence, and which are states.
use Rattle.std.specs.Prelude.{◌≡◌, Bool, cond, not, ◌&&◌, ◌||◌, ℕ, zero, suc, ◌+◌, ◌<◌, eqb, length, get_or}
use Rattle.rules.specs.Job.{Bytes}

-- RULES 18.2, 18.3: LF, CR and `>`.
abbrev pub lf : ℕ
lf = 10

abbrev pub cr : ℕ
cr = 13

abbrev pub opener : ℕ
opener = 62

-- The byte at a place; 0 where the text has ended.
abbrev pub byte_at : Bytes → ℕ → ℕ
byte_at text i = get_or text i 0

-- RULES 18.2: the bytes of a line's end: an LF, and a CR if an LF stands behind it. A CR as the last byte of the text is none of them.
abbrev pub ends_line : Bytes → ℕ → Bool
ends_line text i = eqb (byte_at text i) lf || (eqb (byte_at text i) cr && eqb (byte_at text (i + 1)) lf)

-- RULES 18.2: where the line of a byte starts: at the first byte of the text, or behind an LF.
unfoldable pub line_start : Bytes → ℕ → ℕ
line_start text zero = 0
line_start text (suc i) = cond (eqb (byte_at text i) lf) (suc i) (line_start text i)

-- RULES 18.3: a byte stands in a header line; it is the first byte of one, and so opens a sequence.
abbrev pub in_header : Bytes → ℕ → Bool
in_header text i = eqb (byte_at text (line_start text i)) opener

abbrev pub opens : Bytes → ℕ → Bool
opens text i = eqb (line_start text i) i && in_header text i

-- RULES 18.3, 18.4: any other byte is meant as a state, unless it belongs to a line's end. Refusal 22 asks whether it is one.
abbrev pub is_state : Bytes → ℕ → Bool
is_state text i = not (in_header text i) && not (ends_line text i)

-- Byte i is one of the text, and its line starts at `line`.
pub record AtByte (text : Bytes) (line i : ℕ) : Type 0 where
  pub starts : line ≡ line_start text i
  pub within : i < length text
