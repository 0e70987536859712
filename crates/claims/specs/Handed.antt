-- RULES 14.2: when the row lookup hands back a type's states, as plain statements. The claims about it name `lookup`, which the contract
-- of `states_of` in `lookup` equals.
use Rattle.std.specs.Prelude.{◌≡◌, ℕ, ◌+◌, ◌*◌, ◌-◌, ◌≤◌, ◌<◌, length}
use Rattle.rules.specs.Answers.{number}
use Rattle.rules.specs.Job.{Bytes, word, rows, width, checked}

-- RULES 13.1, 13.3: the block's t and s, and the place in the record of type k.
abbrev pub t : Bytes → ℕ
t block = word block 0

abbrev pub s : Bytes → ℕ
s block = word block 2

abbrev pub record_place : Bytes → ℕ → ℕ
record_place block k = word block (16 + 6 * k + 2)

-- RULES 14.2: each condition of its list, with the numbers written out.
pub record Handed (job block : Bytes) (k : ℕ) : Type 0 where
  pub passes : number (checked job) ≡ 0
  pub head : 16 ≤ length block
  pub some_sampled : 1 ≤ s block
  pub sampled_most : s block ≤ t block
  pub few_types : t block ≤ 128
  pub width_field : word block 4 ≡ width job
  pub records_field : word block 10 ≡ 16
  pub rows_field : word block 12 ≡ 16 + 6 * t block
  pub links_field : word block 14 ≡ 16 + 6 * t block + (t block - s block) * width job
  pub reaches : 16 + 6 * t block + (t block - s block) * width job ≤ length block
  pub number_known : k < t block
  pub place_sampled : k < s block → record_place block k < rows job
  pub place_inferred : s block ≤ k → record_place block k < t block - s block
