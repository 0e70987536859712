-- What is told of a call and of a text is what the rooms below say, and a text by number and place is the text of the answer that they are told of.
use Rattle.std.specs.Prelude.{Ok}
use mathlib.Core.Path.{◌≡◌, refl, ◌∙◌}
use mathlib.Core.Logic.{◌≢◌}
use mathlib.Core.List.{List}
use Prim.Native.Nat.{ℕ}
use borrow.Author.Tests.{eq-eqb, ne_eqb}
use Rattle.rules.specs.Answers.{number, place, Answer}
use Rattle.rules.specs.Job.{Bytes}
use Rattle.rules.specs.Lent.{Lent}
use Rattle.rules.specs.Call.{answer, padded, result_after}
use Rattle.rules.specs.Text.{printed}
use Rattle.rules.specs.declared.Link.{Link}
use Rattle.answers.specs.Told.{ToldOf}
use Rattle.answers.specs.declared.Told.{Told}
use Rattle.text.specs.Printed.{ToldText, RefusalLeft, TextLeft, text_of, printed_as, printed_bytes, Printed}
use Rattle.network.specs.Called.{lent_by, Called}
use Rattle.service.specs.Served.{printed_in}
use Rattle.service.proofs.Text.{text-is, printed_is}
use Rattle.hurdlesong_c.specs.Interface.{CallTold, text_by, printed_by, TextTold}

-- ── The contracts ──

pub call_told : {job result states : Bytes} {distances : List ℕ} {links : List Link} {r : Answer} {t : Told} {result' states' : Bytes} {distances' : List ℕ}
    {links' : List Link} → Called job result states distances links r result' states' distances' links' → ToldOf r t →
    CallTold job result states distances links t result' states' distances' links'
call_told c t = record { called = rw c.served.answered at c; told = rw c.served.answered at t }

-- The text that `text` leaves, and the line that `refusal_text` leaves, each told by number and place.
module _ {job block : Bytes} {n at lent : ℕ} {out : Bytes} {p : Printed} {r : Told} where
  pub network-told : n ≡ 0 → TextLeft job block (Ok 0) lent out p → ToldText p r → TextTold job block n at lent out r
  unfolding printed_as
  network-told e t told = record { told = rw (eq-eqb n 0 e, ← t.answered) told; left = t.left ∙ rw (eq-eqb n 0 e) }

  pub line-told : n ≢ 0 → RefusalLeft n at lent out p → ToldText p r → TextTold job block n at lent out r
  line-told f t told = record { told = rw (ne_eqb n 0 f, ← t.answered) told; left = t.left ∙ rw (ne_eqb n 0 f) }

-- ── The text of an answer ──

module _ (job block : Bytes) (a : Answer) where
  text-by : text_by job block (number a) (place a) ≡ text_of job block a
  text-by = refl

  printed-by : (lent : ℕ) → printed_by lent job block (number a) (place a) ≡ printed_as lent job block a
  unfolding printed_as
  printed-by lent = refl

-- A call, and then the text by what was told of it: the text of the rules.
module _ {job result states : Bytes} {distances : List ℕ} {links : List Link} {r : Told} {result' states' : Bytes} {distances' : List ℕ} {links' : List Link}
    {lent : ℕ} {out : Bytes} {t : Told} (c : CallTold job result states distances links r result' states' distances' links')
    (x : TextTold job result' r.number r.place lent out t) where
  abbrev memory : Lent
  memory = lent_by result states distances links

  abbrev a : Answer
  a = answer memory job

  said : printed_by lent job result' r.number r.place ≡ printed_in lent (printed memory job)
  said = rw (c.told.number_is, c.told.place_is, c.called.served.result_left) (printed-by job (result_after memory job) a lent ∙ printed_is memory job lent)

  is : text_by job result' r.number r.place ≡ printed memory job
  is = rw (c.told.number_is, c.told.place_is, c.called.served.result_left) (text-by job (result_after memory job) a ∙ text-is memory job)

  pub text-told : ToldText (printed_in lent (printed memory job)) t
  text-told = rw said at x.told

  pub text-left : out ≡ padded lent (printed_bytes (printed_in lent (printed memory job)) (printed memory job))
  text-left = rw (said, is) at x.left
