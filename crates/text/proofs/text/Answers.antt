-- `text::text` meets its contract: every text has room in so many bytes.
use Rattle.text.proofs.Left.{every-left}
use Rattle.text.proofs.Room.{every_suffices}
use Rattle.text.proofs.text.Goals as goal

pub text_within-requires : goal.text_within-requires
text_within-requires c = every_suffices _ _ _

pub returns : goal.returns
returns c = every-left c.text_within.ensures
