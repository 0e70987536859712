-- The text of what the call leaves is the text of the rules, and the block that it leaves can always be printed.
use Rattle.std.specs.Prelude.{Ok, Err}
use mathlib.Core.Path.{◌≡◌, refl, sym, ap, ap₂, ◌∙◌}
use mathlib.Core.Logic.{◌≢◌}
use mathlib.Core.Bool.{Bool, true, false, cond, not, ◌&&◌}
use mathlib.Core.List.{[]}
use Prim.Native.Nat.{ℕ, ◌+◌, ◌*◌, ◌≤◌}
use native.Mathlib.Omega.{arith}
use lib.Dec.{ltb, eqb}
use lib.ListN.{length, length-append}
use borrow.Author.Tests.{le-ltb, eq-eqb, ne_eqb, le-leb}
use Rattle.rules.specs.Answers.{number, Answer}
use Rattle.rules.specs.Job.{Bytes, word, checked}
use Rattle.rules.specs.Lent.{Lent, least}
use Rattle.rules.specs.Run.{Network}
use Rattle.rules.specs.Call.{Verdict, refused, found, verdict, answer, padded, result_after}
use Rattle.rules.specs.Text.{printed}
use Rattle.readback.proofs.Found.{answered, found-is, verdict_numbered}
use Rattle.readback.proofs.Result.{few-links, read_result, header-matches, links-counted, links-reach}
use Rattle.text.specs.Lines.{legible}
use Rattle.text.specs.Printed.{printed_used, text_room, text_of, brief_room, printed_as, printed_bytes, TextLeft, brief_as, BriefLeft, Printed}
use Rattle.text.specs.declared.Unprinted.TheVariants.{Short}
use Rattle.text.proofs.Room.{every_suffices}
use Rattle.service.specs.Served.{AnsweredJob, printed_in, shown, Shown, TextOnly}

module _ (lent : Lent) (job : Bytes) where
  pub text-is : text_of job (result_after lent job) (answer lent job) ≡ printed lent job
  unfolding answer printed
  text-is = go (verdict lent job) refl
    where
      go : (v : Verdict) → verdict lent job ≡ v → text_of job (result_after lent job) (answer lent job) ≡ printed lent job
      go (refused a) e = rw (e, ne_eqb (number a) 0 (verdict_numbered lent job a e))
      go (found net) e = rw (e, read_result lent job net e)

  module _ (net : Network) (e : verdict lent job ≡ found net) where
    abbrev block : Bytes
    block = result_after lent job

    -- The block that the call leaves can be printed.
    legible-block : legible job block ≡ true
    legible-block =
        let few : word block 6 ≤ 8128 = rw (links-counted lent job net e) (few-links lent job net e) in
        simp (
          eq-eqb (number (checked job)) 0 (found-is lent job net e).checks,
          header-matches lent job net e,
          le-leb (word block 6) 8128 few,
          le-leb (word block 14 + 6 * word block 6) (length block) (links-reach lent job net e),
        )

  -- So no network goes unprinted.
  never_block : eqb (number (answer lent job)) 0 && not (legible job (result_after lent job)) ≡ false
  unfolding answer
  never_block = go (verdict lent job) refl
    where
      go : (v : Verdict) → verdict lent job ≡ v → eqb (number (answer lent job)) 0 && not (legible job (result_after lent job)) ≡ false
      go (refused a) e = rw (e, ne_eqb (number a) 0 (verdict_numbered lent job a e))
      go (found net) e = rw (e, legible-block net e)

  -- What is answered for the text, and what is written, with the lengths lent.
  pub printed_is : (n : ℕ) → printed_as n job (result_after lent job) (answer lent job) ≡ printed_in n (printed lent job)
  unfolding printed_as
  printed_is n = rw (never_block, text-is)

  -- ── The same in little memory ──

  abbrev room : ℕ
  room = brief_room (result_after lent job) (answer lent job)

  abbrev Brief : ℕ → Bytes → Printed → Type 0
  Brief n out r = BriefLeft job (result_after lent job) (answer lent job) n out r

  brief_is : (n : ℕ) → brief_as n job (result_after lent job) (answer lent job) ≡ cond (ltb n room) (Err Short) (Ok (length (printed lent job)))
  unfolding brief_as
  brief_is n = rw (never_block, text-is)

  -- Where there is no lack of room, all of the text is printed.
  pub brief_whole : {n : ℕ} {out : Bytes} {r : Printed} → Brief n out r → r ≢ (Err Short) →
      (r ≡ (Ok (length (printed lent job)))) × (out ≡ padded n (printed lent job))
  brief_whole {n} {out} {r} b f = go (ltb n room) refl
    where
      go : (t : Bool) → ltb n room ≡ t → (r ≡ (Ok (length (printed lent job)))) × (out ≡ padded n (printed lent job))
      go true e = absurd (f (b.answered ∙ brief_is n ∙ rw e))
      go false e = (b.answered ∙ brief_is n ∙ rw e, b.left ∙ rw (brief_is n, e, text-is))

  -- There is none where there is room for every text.
  pub brief_roomy : {n : ℕ} {out : Bytes} {r : Printed} → Brief n out r → text_room ≤ n → r ≢ (Err Short)
  brief_roomy {n} {r = r} b h e =
      let l : number (answer lent job) ≡ 0 → legible job (result_after lent job) ≡ true = (λ z. let (net, is) = (answered lent job).0 z in legible-block net is) in
      let done : r ≡ (Ok (length (printed lent job))) =
      b.answered ∙ brief_is n ∙ rw (le-ltb n room (omega (arith, every_suffices job (result_after lent job) (answer lent job) l))) in
      let z : ◌≡◌ {A = ℕ} 0 1 = cc in omega arith

-- What is said of the text of such an answer, and the text.
module _ (lent : Lent) (job : Bytes) {r : Answer} {result : Bytes} (said : r ≡ answer lent job) (is : result ≡ result_after lent job)
    {n : ℕ} {out : Bytes} {p : Printed} (t : TextLeft job result r n out p) where
  pub text-said : p ≡ printed_in n (printed lent job)
  text-said = t.answered ∙ rw (said, is) (printed_is lent job n)

  pub text-left : out ≡ padded n (printed_bytes p (printed lent job))
  text-left =
      t.left ∙ ap₂ (λ (q : Printed) (xs : Bytes). padded n (printed_bytes q xs)) (sym t.answered) (rw (said, is) (text-is lent job))

-- The text, by its length.
shown-used : (lent : ℕ) (xs : Bytes) → printed_used (printed_in lent xs) ≡ length (shown lent xs)
shown-used lent xs = go (ltb lent text_room)
  where
    go : (t : Bool) → printed_used (cond t (Err Short) (Ok (length xs))) ≡ length (cond t [] xs)
    go true = refl
    go false = refl

shown-bytes : (lent : ℕ) (xs : Bytes) → printed_bytes (printed_in lent xs) xs ≡ shown lent xs
shown-bytes lent xs = go (ltb lent text_room)
  where
    go : (t : Bool) → printed_bytes (cond t (Err Short) (Ok (length xs))) xs ≡ cond t [] xs
    go true = refl
    go false = refl

pub shown_as : {xs out out' : Bytes} {r : Printed} {used : ℕ} → r ≡ printed_in (length out) xs → out' ≡ padded (length out) (printed_bytes r xs) →
    used ≡ printed_used r → Shown xs out used out'
shown_as {xs} {out} {out'} {used} said written u =
    let text = shown (length out) xs in
    let is : used ≡ length text = u ∙ ap printed_used said ∙ shown-used (length out) xs in
    let all : out' ≡ padded (length out) text = written ∙ ap (padded (length out)) (ap (λ q. printed_bytes q xs) said ∙ shown-bytes (length out) xs) in
    record { used_is = is; left = all; within = rw all (simp length-append (omega (arith, is))) }

-- The text of such an answer, over a result of the least length.
pub least-text : {job result out result' out' : Bytes} {r : Answer} {p : Printed} {used : ℕ} →
    AnsweredJob job result r result' → length result ≡ 57680 → TextLeft job result' r (length out) out' p → used ≡ printed_used p → TextOnly job out used out'
least-text {job} {result} {r = r} a e t u =
    let said : r ≡ answer least job = rw e at a.answered in
    let is = rw e at a.left in
    shown_as (text-said least job said is t) (text-left least job said is t) u
