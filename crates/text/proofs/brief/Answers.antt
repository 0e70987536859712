-- `text::brief` meets its contract: the text has the room that was counted for it.
use Rattle.text.proofs.Left.{brief_left}
use Rattle.text.proofs.brief.Goals as goal

pub returns : goal.returns
returns c = brief_left (rw c.brief_room-room.ensures at c.text_within.ensures)
