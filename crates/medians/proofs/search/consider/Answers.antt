-- `search::consider` meets its contract: by what the guess, the cost and the search among known rows say.
use mathlib.Core.Path.{◌∙◌}
use Rattle.medians.proofs.search.Considering.{considered_guess, considered_dear, considered_known, considered_taken}
use Rattle.medians.proofs.search.consider.Goals as goal

pub returns-then-guessed : goal.returns-then-guessed
returns-then-guessed c =
    let p = c.requires in
    (p.4, considered_guess p.1 p.0 _ _ c.args.guesses.now c.guessed.ensures c.if-guessed.true)

pub returns-then-search-cost : goal.returns-then-search-cost
returns-then-search-cost c =
    let p = c.requires in
    (p.4, considered_dear p.1 p.0 _ _ c.connection-cost.ensures c.if-search-cost.true)

pub returns-then-is_known : goal.returns-then-is_known
returns-then-is_known c =
    let p = c.requires in
    (c.is_known.auto.guesses ∙ p.4, considered_known p.1 p.0 c.args.gathered.now c.args.row.now c.is_known.ensures.0 c.if-is_known.true)

pub returns : goal.returns
returns c =
    let p = c.requires in (
      c.is_known.auto.guesses ∙ p.4,
      considered_taken p.1 p.0 c.args.gathered.now c.args.row.now c.is_known.ensures.0 c.if-is_known.false c.connection-cost.ensures
          c.if-search-cost.false p.2 p.3 c.take.ensures,
    )
