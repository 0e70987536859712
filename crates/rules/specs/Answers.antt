-- RULES 4: what an answer says, and how one refusal after the other is tried.
use Rattle.std.specs.Prelude.{Bool, true, false, ℕ, Result, Ok, Err}
use Rattle.rules.specs.declared.Refusal.{Refusal}
use Rattle.rules.specs.declared.Refusal.TheVariants.{Area, Head, Rows, Width, Layout, Weight, State, Types, Room, Split}

-- RULES 4.1: what a job is answered: so many bytes are used, or why it is refused.
abbrev pub Answer : Type 0
Answer = Result ℕ Refusal

-- RULES 4.1, 4.3: the number of each answer; 0 is a success.
abbrev pub number : Answer → ℕ
number (Ok used) = 0
number (Err Area) = 1
number (Err Head) = 2
number (Err Rows) = 3
number (Err Width) = 4
number (Err (Layout place)) = 5
number (Err (Weight place)) = 6
number (Err (State place)) = 7
number (Err (Types place)) = 8
number (Err (Room place)) = 9
number (Err Split) = 10

-- RULES 4.1, 4.3: its place. Some refusals carry theirs, the others have one for good.
abbrev pub place : Answer → ℕ
place (Ok used) = 0
place (Err Area) = 0
place (Err Head) = 0
place (Err Rows) = 0
place (Err Width) = 2
place (Err (Layout at)) = at
place (Err (Weight at)) = at
place (Err (State at)) = at
place (Err (Types at)) = at
place (Err (Room at)) = at
place (Err Split) = 0

-- RULES 4.1: the bytes used, which only a success has.
abbrev pub used : Answer → ℕ
used (Ok bytes) = bytes
used (Err Area) = 0
used (Err Head) = 0
used (Err Rows) = 0
used (Err Width) = 0
used (Err (Layout place)) = 0
used (Err (Weight place)) = 0
used (Err (State place)) = 0
used (Err (Types place)) = 0
used (Err (Room place)) = 0
used (Err Split) = 0

-- RULES 4.2: the refusal where its test passes, and else what is tried next.
infixr 1 when◌refuse◌else◌
abbrev pub when◌refuse◌else◌ : {A : Type 0} → Bool → A → A → A
when true refuse a else next = a
when false refuse a else next = next

-- RULES 4.1: no refusal so far, and no bytes used yet.
abbrev pub passed : Answer
passed = Ok 0
