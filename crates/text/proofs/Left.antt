-- What is left in the memory lent, for each of the four ends of a call, and what the public functions say of it.
use Rattle.std.specs.Prelude.{Ok, Err}
use Rattle.std.specs.Result.{result_unwrap_or}
use mathlib.Core.Path.{◌≡◌, refl, ap, ◌∙◌}
use mathlib.Core.Logic.{◌≢◌}
use mathlib.Core.Bool.{Bool, true, false, cond, not, ◌&&◌}
use Prim.Native.Nat.{ℕ, ◌≤◌, ◌<◌}
use native.Mathlib.Nat.{sub-zero, zero-add}
use native.Mathlib.Omega.{arith}
use lib.Dec.{ltb, eqb}
use lib.ListN.{length, length-append, replicate}
use borrow.Author.Tests.{lt-ltb, le-ltb, eq-eqb, ne_eqb}
use Rattle.rules.specs.Answers.{number, place, Answer}
use Rattle.rules.specs.Call.{padded}
use Rattle.rules.specs.Job.{Bytes}
use Rattle.memory.specs.Placed.{Follows}
use Rattle.memory.proofs.Placed.{placed-padded}
use Rattle.text.specs.Lines.{legible, network_of}
use Rattle.text.specs.Printed.{printed_used, text_room, text_of, refusal_of, brief_room, printed_within, printed_as, printed_bytes, RefusalWithin, RefusalLeft, TextWithin, TextLeft, brief_as, BriefLeft, Printed}
use Rattle.text.specs.declared.Unprinted.TheVariants.{Short, Block}
use Rattle.text.proofs.listing.Legible.{read_is}
use Rattle.text.proofs.Network.{text-read}

-- ── A refusal by itself ──

-- The memory lent holds zeros first.
module _ (n at room lent : ℕ) {zeros : Bytes} (z : zeros ≡ replicate lent 0) where
  pub no_room : {r : Printed} → lent < room → r ≡ Err Short → RefusalWithin n at room lent zeros r
  no_room h is = record { answered = is ∙ rw (lt-ltb lent room h); left = z ∙ rw (lt-ltb lent room h, sub-zero) }

  pub line-left : {out : Bytes} {r : ℕ} → room ≤ lent → Follows zeros 0 (refusal_of n at) out r → RefusalWithin n at room lent out (Ok r)
  line-left h f = record {
    answered = rw (le-ltb lent room h) (ap Ok (f.behind ∙ zero-add (length (refusal_of n at))));
    left = f.is ∙ rw (z, le-ltb lent room h) (placed-padded lent (refusal_of n at));
  }

pub every-line : {n at lent : ℕ} {out : Bytes} {r : Printed} → RefusalWithin n at text_room lent out r → RefusalLeft n at lent out r
every-line l = record { answered = l.answered; left = l.left }

-- ── The text of an answer ──

module _ (job block : Bytes) (answer : Answer) (room lent : ℕ) where
  -- A refusal's text is its line.
  pub refusal-left : {n at : ℕ} {out : Bytes} {r : Printed} → n ≡ number answer → at ≡ place answer → n ≢ 0 → RefusalWithin n at room lent out r →
      TextWithin job block answer room lent out r
  refusal-left n-is at_is f l =
      let e = ne_eqb (number answer) 0 (λ z. f (n-is ∙ z)) in
      record { answered = l.answered ∙ rw (e, n-is, at_is); left = l.left ∙ rw (e, n-is, at_is) }

  -- For a network the memory holds zeros first.
  module _ {zeros : Bytes} (z : zeros ≡ replicate lent 0) (n : number answer ≡ 0) where
    pub room-left : {r : Printed} → lent < room → r ≡ Err Short → TextWithin job block answer room lent zeros r
    room-left h is = record { answered = is ∙ rw (lt-ltb lent room h); left = z ∙ rw (lt-ltb lent room h, sub-zero) }

    module _ (h : room ≤ lent) where
      pub block-left : legible job block ≡ false → TextWithin job block answer room lent zeros (Err Block)
      block-left e = record {
        answered = rw (le-ltb lent room h, eq-eqb (number answer) 0 n, e);
        left = z ∙ rw (le-ltb lent room h, eq-eqb (number answer) 0 n, e, sub-zero);
      }

      -- What is written from the front is the text.
      pub network-left : {out : Bytes} {r : ℕ} → legible job block ≡ true → Follows zeros 0 (network_of job block) out r →
          TextWithin job block answer room lent out (Ok r)
      network-left e f =
          let xs = network_of job block in
          let text : text_of job block answer ≡ xs = rw (eq-eqb (number answer) 0 n) (text-read job block (read_is job block e).sampled_most) in
          let done : printed_within room lent job block answer ≡ (Ok (length (text_of job block answer))) =
          rw (le-ltb lent room h, eq-eqb (number answer) 0 n, e) in
          record { answered = rw (done, text) (ap Ok (f.behind ∙ zero-add (length xs))); left = f.is ∙ rw (z, done, text) (placed-padded lent xs) }

-- ── What the public functions say of it ──

-- A text that is not there uses none.
pub used_is : (r : Printed) → result_unwrap_or r 0 ≡ printed_used r
used_is (Ok used) = refl
used_is (Err Short) = refl
used_is (Err Block) = refl

-- The bytes used lie in the memory lent.
used-within : (short other : Bool) (lent : ℕ) (xs : Bytes) → let r : Printed = cond short (Err Short) (cond other (Err Block) (Ok (length xs))) in
    printed_used r ≤ length (padded lent (printed_bytes r xs))
used-within true other lent xs = omega arith
used-within false true lent xs = omega arith
used-within false false lent xs = simp length-append (omega arith)

module _ {job block : Bytes} {answer : Answer} {lent : ℕ} {out : Bytes} {r : Printed} where
  pub every-left : TextWithin job block answer text_room lent out r → TextLeft job block answer lent out r
  unfolding printed_as
  every-left t = record { answered = t.answered; left = t.left }

  pub brief_left : TextWithin job block answer (brief_room block answer) lent out r → BriefLeft job block answer lent out r
  unfolding brief_as
  brief_left t = record {
    answered = t.answered;
    left = t.left;
    within =
        rw (t.answered, t.left)
        (used-within (ltb lent (brief_room block answer)) (eqb (number answer) 0 && not (legible job block)) lent (text_of job block answer));
  }
