-- RULES 1.6: each size under its name, once. The code has the same numbers under names in capitals (src/lib.rt).
use Rattle.std.specs.Prelude.{ℕ}

-- RULES 2.1: the most rows of a job, and their most characters.
abbrev pub most_rows : ℕ
most_rows = 256

abbrev pub most_width : ℕ
most_width = 64

-- RULES 2.2: the largest weight. RULES 1.4: the first and the last state.
abbrev pub most_weight : ℕ
most_weight = 1000

abbrev pub first_state : ℕ
first_state = 33

abbrev pub last_state : ℕ
last_state = 126

-- RULES 2.1: the bytes of a job's header. RULES 2.4: those of the largest job.
abbrev pub job_head : ℕ
job_head = 12

abbrev pub largest_job : ℕ
largest_job = 16524

-- RULES 12.2: the most types ever made, and the most links between them.
abbrev pub most_types : ℕ
most_types = 128

abbrev pub most_links : ℕ
most_links = 8128

-- The bytes in which a row is stored, and the cells of a line of the distance area.
abbrev pub row_size : ℕ
row_size = 64

abbrev pub line_size : ℕ
line_size = 128

-- RULES 3.1: the least lengths of the result, the state area and the distance area. That of the link table is mostLinks.
abbrev pub result_area : ℕ
result_area = 57680

abbrev pub state_area : ℕ
state_area = 8192

abbrev pub distance_area : ℕ
distance_area = 16384
