-- The lines that are texts with marks: so they are filled, with what was read of the block.
use mathlib.Core.Path.{◌≡◌}
use mathlib.Core.List.{[], ◌∷◌, append_assoc}
use Prim.Native.Nat.{ℕ, ◌+◌, ◌*◌, ◌≤◌, ◌<◌}
use borrow.Author.Tests.{lt-ltb, le-ltb}
use Rattle.graph.specs.Below.{gather}
use Rattle.rules.specs.Job.{Bytes, word}
use Rattle.rules.specs.Lookup.{lookup}
use Rattle.rules.specs.Text.{text, type_line}
use Rattle.text.specs.Lines.{network_line_of, type_line_of}
use Rattle.text.specs.Printed.{refusal_of}
use Rattle.text.specs.Template.{filled}
use Rattle.text.proofs.listing.Legible.{Read}

pub refusal-filled : (x y : ℕ) → filled (text "refused \0 \u{1}\n") (x ∷ y ∷ []) [] ≡ refusal_of x y
refusal-filled x y = simp append_assoc (unfold gather text in (simp append_assoc))

pub network-filled : (block : Bytes) {x y z t : ℕ} → x ≡ word block 0 → y ≡ word block 2 → z ≡ word block 6 → t ≡ word block 8 →
    filled (text "types \0 sampled \u{1} links \u{2} rounds \u{3}\n") (x ∷ y ∷ z ∷ t ∷ []) [] ≡ network_line_of block
unfolding network_line_of
network-filled block a b c d = rw (a, b, c, d) (simp append_assoc (unfold gather text in (simp append_assoc)))

module _ {job block : Bytes} (r : Read job block) {k s x : ℕ} {row : Bytes} (s-is : s ≡ word block 2) (row_is : row ≡ lookup job block k) where
  pub sampled-filled : k < s → x ≡ word block (16 + 6 * k) → filled (text "T \0 S \u{1} \u{2}\n") (k ∷ x ∷ []) row ≡ type_line_of job block k
  unfolding type_line
  sampled-filled h e =
      rw (r.records-from, ← s-is, lt-ltb _ _ h, e, row_is) (simp append_assoc (unfold gather text in (simp append_assoc)))

  pub inferred-filled : s ≤ k → x ≡ word block (16 + 6 * k + 4) → filled (text "T \0 I \u{1} \u{2}\n") (k ∷ x ∷ []) row ≡ type_line_of job block k
  unfolding type_line
  inferred-filled h e =
      rw (r.records-from, ← s-is, le-ltb _ _ h, e, row_is) (simp append_assoc (unfold gather text in (simp append_assoc)))
