-- RULES 4.4: checks 2 to 7 refuse a job for its form.
use Rattle.std.specs.Prelude.{◌⊎◌, ◌≤◌}
use Rattle.rules.specs.Answers.{number, Answer}

-- RULES 18.9: an answer that is none of these refusals.
abbrev pub NotForForm : Answer → Type 0
NotForForm a = (number a ≤ 1) ⊎ (8 ≤ number a)
