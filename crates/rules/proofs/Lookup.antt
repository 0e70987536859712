-- The row lookup where it finds something.
use mathlib.Core.Path.{◌≡◌}
use mathlib.Core.Bool.{true}
use Prim.Native.Nat.{ℕ, ◌+◌, ◌*◌, ◌-◌, ◌≤◌, ◌<◌}
use lib.ListN.{take, drop}
use borrow.Author.Tests.{lt-ltb, le-ltb, eq-eqb}
use Rattle.rules.specs.Answers.{number}
use Rattle.rules.specs.Job.{Bytes, rows, width, states_offset, checked}
use Rattle.rules.specs.Result.{rows_offset}
use Rattle.rules.specs.Lookup.{types_in, sampled_types, header_fits, place_in, part_of, lookup}

-- The two places in which the lookup finds a type's states.
module _ (job b : Bytes) (k : ℕ) (pass : number (checked job) ≡ 0) (fits : header_fits (width job) b (types_in b) (sampled_types b) ≡ true) (l : k < types_in b) where
  pub lookup-sampled : k < sampled_types b → place_in b k < rows job → lookup job b k ≡ take (width job) (drop (states_offset job + place_in b k * width job) job)
  unfolding lookup part_of
  lookup-sampled h g = simp (eq-eqb _ _ pass, fits, lt-ltb _ _ l, lt-ltb _ _ h, lt-ltb _ _ g)

  pub lookup-inferred : sampled_types b ≤ k → place_in b k < types_in b - sampled_types b →
      lookup job b k ≡ take (width job) (drop (rows_offset (types_in b) + place_in b k * width job) b)
  unfolding lookup part_of
  lookup-inferred h g = simp (eq-eqb _ _ pass, fits, lt-ltb _ _ l, le-ltb _ _ h, lt-ltb _ _ g)
