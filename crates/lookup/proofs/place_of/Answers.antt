-- `lookup::place_of` meets its contract: where job and block do not match, the states lie nowhere.
use mathlib.Core.Path.{sym, ◌∙◌}
use Rattle.lookup.proofs.Rows.{unmatched}
use Rattle.lookup.proofs.place_of.Goals as goal

pub returns-then-not-block_matches : goal.returns-then-not-block_matches
returns-then-not-block_matches c = unmatched _ _ _ (sym c.block_matches.ensures ∙ c.if-not-block_matches.true)
