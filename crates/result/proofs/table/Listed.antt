-- A table that is filled from its front: the first i records of a list stand there, and behind them the table is as it was.
use mathlib.Core.Path.{◌≡◌, sym, ap, ◌∙◌}
use mathlib.Core.List.{List}
use Prim.Native.Nat.{ℕ, suc, ◌+◌, ◌≤◌, ◌<◌}
use native.Mathlib.Nat.{zero-add}
use native.Mathlib.Omega.{arith}
use Rattle.std.proofs.Common.{add-one}
use lib.ListN.{length, set, take}
use lib.Seq.{length-take-le, take-suc, take_all}
use Rattle.memory.specs.Placed.{placed}
use Rattle.memory.proofs.Placed.{placed-none, placed-more, length-placed}
use Rattle.rules.specs.Links.{link_at}
use Rattle.rules.specs.declared.Link.{Link}
use Rattle.result.specs.Order.{no_link}

module _ (b ls : List Link) where
  abbrev pub filled : ℕ → List Link
  filled i = placed b 0 (take i ls)

  pub filled_none : b ≡ filled 0
  filled_none = placed-none b 0

  pub filled-all : (i : ℕ) → length ls ≤ i → filled i ≡ placed b 0 ls
  filled-all i l = ap (placed b 0) (take_all i ls l)

  module _ (room : length ls ≤ length b) (i : ℕ) where
    pub length-filled : i ≤ length ls → length (filled i) ≡ length b
    length-filled l = length-placed b (take i ls) 0 (omega (arith, length-take-le i ls l))

    pub filled_more : i < length ls → set (filled i) i (link_at ls i) ≡ filled (suc i)
    filled_more l =
        ap (λ (k : ℕ). set (filled i) k (link_at ls i)) (sym (zero-add i)) ∙
        placed-more b (take i ls) 0 i (link_at ls i) (length-take-le i ls (omega arith)) (omega arith) ∙ ap (placed b 0) (sym (take-suc ls i no_link l))

    -- One more record is stored.
    pub filled_next : {now : List Link} (x : Link) → i < length ls → link_at ls i ≡ x → now ≡ filled i → set now i x ≡ filled (i + 1)
    filled_next x l e is = rw (is, ← e, add-one) (filled_more l)
