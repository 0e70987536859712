-- `listing::put_link_line` meets its contract: part by part.
use mathlib.Core.Path.{◌≡◌, refl, ap}
use mathlib.Core.List.{List, [], ◌∷◌}
use Prim.Native.Nat.{ℕ, ◌+◌, ◌≤◌}
use lib.Dec.{lit<}
use lib.ListN.{length, get_or}
use Rattle.graph.specs.Below.{gather}
use Rattle.rules.specs.Job.{Bytes, word}
use Rattle.rules.specs.Text.{text, say, link_line}
use Rattle.memory.specs.Placed.{Follows}
use Rattle.memory.proofs.decimals.Upto.{Upto, upto-none, upto-room, upto-more}
use Rattle.text.specs.Lines.{link_line_of}
use Rattle.text.proofs.listing.put_link_line.Goals as goal

abbrev parts : Bytes → ℕ → List Bytes
parts b from = say "L " (word b from) ∷ say " " (word b (from + 2)) ∷ say " " (word b (from + 4)) ∷ text "\n" ∷ []

-- So many of the parts are written.
abbrev Done : Bytes → ℕ → Bytes → ℕ → ℕ → Bytes → ℕ → Type 0
Done block from out at n now p = Upto 4 (λ i. get_or (parts block from) i []) out at n now p

-- What each part leaves, where there is room for the line.
module _ (block : Bytes) (from : ℕ) {out : Bytes} {at : ℕ} (room : at + length (link_line_of block from) ≤ length out) where
  none : Done block from out at 0 out at
  unfolding gather link_line
  none = upto-none _ _ _ _ room

  module _ {x p₁ : ℕ} {out₁ : Bytes} (x-is : x ≡ word block from) (f₁ : Follows out at (say "L " x) out₁ p₁) where
    one : Done block from out at 1 out₁ p₁
    unfolding text
    one = upto-more none (lit< tt) (ap (say "L ") x-is) f₁

    module _ {y p₂ : ℕ} {out₂ : Bytes} (y-is : y ≡ word block (from + 2)) (f₂ : Follows out₁ p₁ (say " " y) out₂ p₂) where
      two : Done block from out at 2 out₂ p₂
      unfolding text
      two = upto-more one (lit< tt) (ap (say " ") y-is) f₂

      module _ {z p₃ : ℕ} {out₃ : Bytes} (z-is : z ≡ word block (from + 4)) (f₃ : Follows out₂ p₂ (say " " z) out₃ p₃) where
        three : Done block from out at 3 out₃ p₃
        unfolding text
        three = upto-more two (lit< tt) (ap (say " ") z-is) f₃

pub say-at-requires : goal.say-at-requires
unfolding text
say-at-requires c = upto-room (none c.args.block.now c.args.from c.requires.1) (lit< tt) (ap (say "L ") c.word_at.ensures.is)

pub say-at-requires-2 : goal.say-at-requires-2
unfolding text
say-at-requires-2 c = upto-room (one c.args.block.now c.args.from c.requires.1 c.word_at.ensures.is c.say-at.ensures) (lit< tt) (ap (say " ") c.word_at-2.ensures.is)

pub say-at-requires-3 : goal.say-at-requires-3
unfolding text
say-at-requires-3 c =
    upto-room (two c.args.block.now c.args.from c.requires.1 c.word_at.ensures.is c.say-at.ensures c.word_at-2.ensures.is c.say-at-2.ensures)
    (lit< tt) (ap (say " ") c.word_at-3.ensures.is)

pub put-requires : goal.put-requires
unfolding text
put-requires c =
    upto-room
    (three c.args.block.now c.args.from c.requires.1 c.word_at.ensures.is c.say-at.ensures c.word_at-2.ensures.is c.say-at-2.ensures c.word_at-3.ensures.is c.say-at-3.ensures)
    (lit< tt) refl

pub returns : goal.returns
unfolding gather text link_line
returns c =
    (upto-more
    (three c.args.block.now c.args.from c.requires.1 c.word_at.ensures.is c.say-at.ensures c.word_at-2.ensures.is c.say-at-2.ensures c.word_at-3.ensures.is c.say-at-3.ensures)
    (lit< tt) refl c.put.ensures).done
