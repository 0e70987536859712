-- RULES 2: the job block. RULES 4.4: checks 2 to 7, for which the job alone is looked at.
use Rattle.std.specs.Prelude.{Bool, not, ◌||◌, List, ℕ, ◌+◌, ◌*◌, ltb, eqb, length, get_or, Err}
use Rattle.graph.specs.Below.{table, first}
use Rattle.rules.specs.Sizes.{most_rows, most_width, most_weight, first_state, last_state, job_head}
use Rattle.rules.specs.Answers.{when◌refuse◌else◌, passed, Answer}
use Rattle.rules.specs.declared.Refusal.TheVariants.{Head, Rows, Width, Layout, Weight, State}

-- RULES 1.3: blocks and texts.
abbrev pub Bytes : Type 0
Bytes = List ℕ

-- RULES 1.5: the number at a byte of a block.
abbrev pub word : Bytes → ℕ → ℕ
word b i = get_or b i 0 + 256 * get_or b (i + 1) 0

-- RULES 2.1: the first three fields of the header.
abbrev pub rows : Bytes → ℕ
rows job = word job 0

abbrev pub width : Bytes → ℕ
width job = word job 2

abbrev pub epsilon : Bytes → ℕ
epsilon job = word job 4

-- RULES 2.1: what the other three have to say.
abbrev pub weights_offset : ℕ
weights_offset = job_head

abbrev pub states_offset : Bytes → ℕ
states_offset job = job_head + 2 * width job

abbrev pub whole_length : Bytes → ℕ
whole_length job = job_head + 2 * width job + rows job * width job

-- RULES 2.2: the weight of a character, and all of them.
abbrev pub weight_at : Bytes → ℕ → ℕ
weight_at job c = word job (weights_offset + 2 * c)

unfoldable pub weights : Bytes → List ℕ
weights job = table (width job) (weight_at job)

-- RULES 2.3, 4.6: a state by its number among all states.
abbrev pub state_at : Bytes → ℕ → ℕ
state_at job i = get_or job (states_offset job + i) 0

-- RULES 1.3, 2.3: a row, and all rows.
abbrev pub Row : Type 0
Row = List ℕ

unfoldable pub job_row : Bytes → ℕ → Row
job_row job k = table (width job) (λ c. state_at job (k * width job + c))

unfoldable pub job_rows : Bytes → List Row
job_rows job = table (rows job) (job_row job)

-- RULES 4.3: a number lies outside its bounds.
abbrev pub outside : ℕ → ℕ → ℕ → Bool
outside low high x = ltb x low || ltb high x

-- RULES 4.3 (WEIGHT): the first weight outside, or m where there is none.
unfoldable pub bad_weight : Bytes → ℕ
bad_weight job = first (width job) (λ c. outside 1 most_weight (weight_at job c))

-- RULES 4.6: the first byte of the rows that is no state, or nm where there is none.
unfoldable pub bad_state : Bytes → ℕ
bad_state job = first (rows job * width job) (λ i. outside first_state last_state (state_at job i))

-- RULES 4.3 to 4.6: checks 2 to 7, each tried if those above it let the job pass.
unfoldable pub checked : Bytes → Answer
checked job =
    when ltb (length job) job_head refuse Err Head else
    when outside 1 most_rows (rows job) refuse Err Rows else
    when outside 1 most_width (width job) refuse Err Width else
    when not (eqb (word job 6) weights_offset) refuse Err (Layout 6) else
    when not (eqb (word job 8) (states_offset job)) refuse Err (Layout 8) else
    when not (eqb (word job 10) (whole_length job)) refuse Err (Layout 10) else
    when not (eqb (length job) (whole_length job)) refuse Err (Layout 12) else
    when ltb (bad_weight job) (width job) refuse Err (Weight (bad_weight job)) else
    when ltb (bad_state job) (rows job * width job) refuse Err (State (bad_state job)) else
    passed
