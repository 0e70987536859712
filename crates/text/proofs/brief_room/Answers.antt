-- `text::brief_room` meets its contract: its three ends are the three cases of `brief_room`.
use mathlib.Core.Path.{sym, ◌∙◌}
use Rattle.rules.proofs.Answers.{refused-number, passed-number}
use Rattle.text.proofs.Room.{brief_line, brief_none, brief_network}
use Rattle.text.proofs.brief_room.Goals as goal

pub returns-then-is_err : goal.returns-then-is_err
returns-then-is_err c = sym (brief_line _ _ (refused-number _ (sym c.is_err.ensures.value ∙ c.if-is_err.true)))

pub returns-then-block-lt-RECORDS_OFFSET : goal.returns-then-block-lt-RECORDS_OFFSET
returns-then-block-lt-RECORDS_OFFSET c = sym (brief_none _ _ (passed-number _ (sym c.is_err.ensures.value ∙ c.if-is_err.false)) c.if-block-lt-RECORDS_OFFSET.true)

pub returns : goal.returns
returns c =
    let none = passed-number _ (sym c.is_err.ensures.value ∙ c.if-is_err.false) in
    rw (c.word_at.ensures.is, c.word_at-2.ensures.is) (sym (brief_network _ _ none c.if-block-lt-RECORDS_OFFSET.false))
