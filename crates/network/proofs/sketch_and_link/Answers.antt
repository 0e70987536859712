-- `network::sketch_and_link` meets its contract: a refusal, which leaves nothing to write, or a network, whose links are listed and then written.
use Rattle.rules.proofs.Answers.{handed_on}
use Rattle.network.proofs.Left.{linked-refused, listable, putable, linked}
use Rattle.network.proofs.sketch_and_link.Goals as goal

pub returns-in_err-drawn : goal.returns-in_err-drawn
returns-in_err-drawn c =
    linked-refused _ _ _ _ _ (rw c.in_err-drawn.was at c.sketch.ensures) (handed_on c.from_residual.ensures.1)

pub list_links-requires : goal.list_links-requires
list_links-requires c = listable _ _ _ _ _ (rw c.in_ok-drawn.was at c.sketch.ensures)

pub put_links-requires : goal.put_links-requires
put_links-requires c = putable _ _ _ _ _ (rw c.in_ok-drawn.was at c.sketch.ensures) c.list_links.ensures

pub returns : goal.returns
returns c = linked _ _ _ _ _ (rw c.in_ok-drawn.was at c.sketch.ensures) c.list_links.ensures c.put_links.ensures
