-- RULES 14: the row lookup.
use Rattle.std.specs.Prelude.{Bool, cond, ◌&&◌, [], ℕ, ◌+◌, ◌*◌, ◌-◌, ltb, leb, eqb, length, take, drop}
use Rattle.rules.specs.Sizes.{most_types}
use Rattle.rules.specs.Answers.{number}
use Rattle.rules.specs.Job.{Bytes, word, rows, width, states_offset, checked}
use Rattle.rules.specs.Result.{records_offset, record_size, rows_offset, links_offset}

-- RULES 14.2: t and s, as the block's header has them.
abbrev pub types_in : Bytes → ℕ
types_in block = word block 0

abbrev pub sampled_types : Bytes → ℕ
sampled_types block = word block 2

-- RULES 14.2: what is asked of the block: its length, its counts, its width and its offsets.
abbrev pub header_fits : ℕ → Bytes → ℕ → ℕ → Bool
header_fits m block t s =
    leb records_offset (length block) && leb s t && leb t most_types && leb 1 s && eqb (word block 4) m
    && eqb (word block 10) records_offset && eqb (word block 12) (rows_offset t) && eqb (word block 14) (links_offset t s m)
    && leb (links_offset t s m) (length block)

-- RULES 14.2, 13.3: the place in the record of type k.
abbrev pub place_in : Bytes → ℕ → ℕ
place_in block k = word block (records_offset + record_size * k + 2)

-- RULES 14.1: where a type's states begin, in one of the two blocks; or they are in none.
pub data Part : Type 0 where
  in_job : ℕ → Part
  in_result : ℕ → Part
  nowhere : Part

abbrev pub sampled_part : Bytes → ℕ → Part
sampled_part job place = cond (ltb place (rows job)) (in_job (states_offset job + place * width job)) nowhere

abbrev pub inferred_part : ℕ → ℕ → ℕ → ℕ → Part
inferred_part m t s place = cond (ltb place (t - s)) (in_result (rows_offset t + place * m)) nowhere

-- RULES 14.2: the part for a type number.
unfoldable pub part_of : Bytes → Bytes → ℕ → Part
part_of job block k =
    let t = types_in block in
    let s = sampled_types block in
    let place = place_in block k in
    let found = cond (ltb k s) (sampled_part job place) (inferred_part (width job) t s place) in
    cond (eqb (number (checked job)) 0 && header_fits (width job) block t s && ltb k t) found nowhere

-- RULES 14.1: the states in that part.
abbrev pub states_of : Bytes → Bytes → Part → Bytes
states_of job block (in_job at) = take (width job) (drop at job)
states_of job block (in_result at) = take (width job) (drop at block)
states_of job block nowhere = []

unfoldable pub lookup : Bytes → Bytes → ℕ → Bytes
lookup job block k = states_of job block (part_of job block k)
