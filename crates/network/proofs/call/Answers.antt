-- `network::call` meets its contract: what is left in the table and in the distance area is cleared.
use Rattle.network.proofs.Left.{called}
use Rattle.network.proofs.call.Goals as goal

pub returns : goal.returns
returns c = called c.sketch_and_link-answer.ensures c.clear_links.ensures c.clear.ensures
