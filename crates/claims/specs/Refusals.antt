-- RULES 19.2, the second demand: the table of RULES 4.3 as plain statements, with the numbers written out. proofs/Refusals.antt shows that
-- each refusal is given in its turn and never else.
use Rattle.std.specs.Prelude.{◌≡◌, ◌⊎◌, ◌≢◌, List, ℕ, ◌+◌, ◌*◌, ◌<◌, length, take, Ok, Err}
use Rattle.rules.specs.Job.{Bytes, Row, word, rows, width, weight_at, weights, state_at, job_rows}
use Rattle.rules.specs.Lent.{Lent}
use Rattle.rules.specs.Types.{row_at, sampled}
use Rattle.rules.specs.Purge.{Run}
use Rattle.rules.specs.Run.{settled, full, phase_two}
use Rattle.rules.specs.Answers.{Answer}
use Rattle.rules.specs.declared.Refusal.TheVariants.{Area, Head, Rows, Width, Layout, Weight, State, Types, Room, Split}
use Rattle.readback.specs.Runs.{Runs}
use Rattle.claims.specs.Drawing.{JoinsAll}

-- RULES 4.3, 4.6: of the numbers below n, p is the first of which P holds.
pub record FirstWhere (n : ℕ) (P : ℕ → Type 0) (p : ℕ) : Type 0 where
  pub below : p < n
  pub here : P p
  pub before : (i : ℕ) → i < p → ¬ P i

abbrev pub Outside : ℕ → ℕ → ℕ → Type 0
Outside low high x = (x < low) ⊎ (high < x)

-- RULES 4.5: the place of LAYOUT.
pub data WrongField (job : Bytes) : ℕ → Type 0 where
  weights_offset_wrong : word job 6 ≢ 12 → WrongField job 6
  states_offset_wrong : word job 6 ≡ 12 → word job 8 ≢ 12 + 2 * width job → WrongField job 8
  whole_length_wrong : word job 6 ≡ 12 → word job 8 ≡ 12 + 2 * width job → word job 10 ≢ 12 + 2 * width job + rows job * width job → WrongField job 10
  bytes_lent : word job 6 ≡ 12 → word job 8 ≡ 12 + 2 * width job → word job 10 ≡ 12 + 2 * width job + rows job * width job →
      length job ≢ 12 + 2 * width job + rows job * width job → WrongField job 12

-- RULES 4.7: the place of TYPES.
pub record Type129 (rs : List Row) (p : ℕ) : Type 0 where
  pub below : p < length rs
  pub new : (i : ℕ) → i < p → row_at rs i ≢ row_at rs p
  pub before : length (sampled (take p rs)) ≡ 128

-- RULES 4.3: the case of each refusal.
abbrev pub Condition : Lent → Bytes → Answer → Type 0
Condition lent job (Ok used) = ⊥
Condition lent job (Err Area) = (((lent.result < 57680) ⊎ (lent.states < 8192)) ⊎ (lent.distances < 16384)) ⊎ (lent.links < 8128)
Condition lent job (Err Head) = length job < 12
Condition lent job (Err Rows) = (rows job ≡ 0) ⊎ (256 < rows job)
Condition lent job (Err Width) = (width job ≡ 0) ⊎ (64 < width job)
Condition lent job (Err (Layout place)) = WrongField job place
Condition lent job (Err (Weight column)) = FirstWhere (width job) (λ c. (weight_at job c ≡ 0) ⊎ (1000 < weight_at job c)) column
Condition lent job (Err (State place)) = FirstWhere (rows job * width job) (λ i. Outside 33 126 (state_at job i)) place
Condition lent job (Err (Types row)) = Type129 (job_rows job) row
Condition lent job (Err (Room round)) = Runs job (full round)
Condition lent job (Err Split) = (run : Run) × Runs job (settled run) × ¬ JoinsAll (phase_two (weights job) run)

-- RULES 4.2: the order in which they are tried.
abbrev pub order : Answer → ℕ
order (Ok used) = 0
order (Err Area) = 1
order (Err Head) = 2
order (Err Rows) = 3
order (Err Width) = 4
order (Err (Layout place)) = 5
order (Err (Weight column)) = 6
order (Err (State place)) = 7
order (Err (Types row)) = 8
order (Err (Room round)) = 9
order (Err Split) = 10

-- RULES 4.2: a refusal's turn: its condition holds, and none that is tried before it does.
abbrev pub Due : Lent → Bytes → Answer → Type 0
Due lent job a = Condition lent job a × ((b : Answer) → order b < order a → ¬ Condition lent job b)
