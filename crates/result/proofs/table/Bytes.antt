-- Laws of the bytes that are written from the link table: how long they are, and how they grow by a link.
use mathlib.Core.Path.{◌≡◌}
use mathlib.Core.List.{List}
use Prim.Native.Nat.{ℕ, suc, ◌+◌, ◌*◌, ◌≤◌}
use native.Mathlib.Omega.{arith}
use lib.ListN.{length}
use Rattle.graph.specs.Below.{gather}
use Rattle.rules.specs.Job.{Bytes}
use Rattle.rules.specs.Links.{link_at}
use Rattle.rules.specs.declared.Link.{Link}
use Rattle.rules.proofs.Block.{length-words, length-parts}
use Rattle.memory.specs.Placed.{placed}
use Rattle.memory.proofs.Placed.{placed-none, placed-twice, length-placed}
use Rattle.result.specs.Table.{link_bytes, table_bytes}

module _ (links : List Link) where
  pub length-table_bytes : (i : ℕ) → length (table_bytes i links) ≡ i * 6
  unfolding table_bytes
  length-table_bytes i = length-parts 6 i _ (λ k _. length-words _)

  module _ (b : Bytes) (at : ℕ) where
    -- The result after the first i links.
    abbrev pub after : ℕ → Bytes
    after i = placed b at (table_bytes i links)

    pub after_none : b ≡ after 0
    unfolding table_bytes gather
    after_none = placed-none b at

    pub after-length : (i : ℕ) → at + 6 * i ≤ length b → length (after i) ≡ length b
    after-length i room = length-placed b (table_bytes i links) at (omega (arith, length-table_bytes i))

    pub after_more : (i : ℕ) → at ≤ length b → placed (after i) (at + 6 * i) (link_bytes (link_at links i)) ≡ after (suc i)
    unfolding table_bytes gather
    after_more i room = placed-twice b (table_bytes i links) at room (at + 6 * i) (link_bytes (link_at links i)) (omega (arith, length-table_bytes i))
