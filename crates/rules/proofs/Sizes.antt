-- The sizes belong together: each area is as large as the most that it has to hold.
use mathlib.Core.Path.{◌≡◌, refl}
use Prim.Native.Nat.{ℕ, ◌+◌, ◌*◌, ◌-◌}
use Rattle.rules.specs.Sizes.{most_rows, most_width, job_head, largest_job, most_types, most_links, row_size, line_size, result_area, state_area, distance_area}
use Rattle.rules.specs.Result.{block_length}

pub job-holds : ◌≡◌ {A = ℕ} largest_job (job_head + 2 * most_width + most_rows * most_width)
job-holds = refl

pub links_hold : ◌≡◌ {A = ℕ} (2 * most_links) (most_types * (most_types - 1))
links_hold = refl

-- One sampled type, and all others inferred.
pub result-holds : ◌≡◌ {A = ℕ} result_area (block_length most_types 1 most_width most_links)
result-holds = refl

pub states_hold : ◌≡◌ {A = ℕ} state_area (most_types * row_size)
states_hold = refl

pub distances_hold : ◌≡◌ {A = ℕ} distance_area (most_types * line_size)
distances_hold = refl
