-- `hurdlesong_text` meets its contract: the text of a network or the line of a refusal, and what is told of it.
use Rattle.hurdlesong_c.proofs.Interface.{network-told, line-told}
use Rattle.hurdlesong_c.proofs.hurdlesong_text.Goals as goal

pub returns-then-number-eq0 : goal.returns-then-number-eq0
returns-then-number-eq0 c =
    let text = c in
    network-told text.if-number-eq0.true text.text-printed.ensures c.tell_text.ensures

pub returns : goal.returns
returns c =
    let line = c in
    line-told line.if-number-eq0.false line.refusal_text-printed.ensures c.tell_text-2.ensures
