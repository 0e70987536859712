-- The run's small state: the epsilon of its phase, and the state that comes next.
use Rattle.std.specs.Prelude.{ℕ, ◌+◌}
use Rattle.purge.specs.declared.state.State.{State}
use Rattle.purge.specs.declared.state.Phase.{Phase}
use Rattle.purge.specs.declared.state.Phase.TheVariants.{One, Two}

-- Phase I is at epsilon, Phase II at 0.
abbrev pub epsilon_of : Phase → ℕ
epsilon_of (One epsilon) = epsilon
epsilon_of Two = 0

-- Some types are retired, and so many stay.
abbrev pub keeping : State → ℕ → State
keeping state count = record { types = count; made = state.made; rounds = state.rounds; phase = state.phase }

-- A round added so many types.
abbrev pub grown : State → ℕ → State
grown state count = record { types = state.types + count; made = state.made + count; rounds = state.rounds + 1; phase = state.phase }

-- Phase I is over.
abbrev pub second_phase : State → State
second_phase state = record { types = state.types; made = state.made; rounds = state.rounds; phase = Two }
