-- The text of the network that is read back is made of the lines that the block gives.
use mathlib.Core.Path.{◌≡◌, ap, ◌∙◌}
use mathlib.Core.List.{[]}
use Prim.Native.Nat.{ℕ, ◌+◌, ◌-◌, ◌≤◌}
use native.Mathlib.Omega.{arith}
use lib.ListN.{length, get_or}
use borrow.Author.Tests.{lt-ltb, le-ltb}
use Rattle.graph.specs.Below.{table, gather}
use Rattle.graph.proofs.Below.{table_add, length-table, get_or-table, gather_ext, in_table}
use Rattle.rules.specs.Job.{Bytes, word}
use Rattle.rules.specs.Types.{Node}
use Rattle.rules.specs.Result.{sampled_in}
use Rattle.rules.specs.Text.{network_text, type_line, link_line}
use Rattle.rules.specs.declared.Origin.TheVariants.{Sampled}
use Rattle.rules.proofs.Block.{sampled_in-append}
use Rattle.readback.specs.ReadBack.{read_type, read_link, network_back}
use Rattle.text.specs.Lines.{network_line_of, type_lines_of, link_lines_of, network_of}

-- As many types are read back as sampled as the header says.
sampled-read : (job block : Bytes) → word block 2 ≤ word block 0 → sampled_in (table (word block 0) (read_type job block)) ≡ word block 2
sampled-read job b h =
    let s = word b 2 in
    let n = word b 0 - s in
    let f : ℕ → Node = read_type job b in
    let e : word b 0 ≡ s + n = omega arith in
    ap (λ (t : ℕ). sampled_in (table t f)) e
    ∙ ap sampled_in (table_add s n f)
    ∙ sampled_in-append (table s f) (table n (λ i. f (s + i)))
    (λ x i. let (k, l, is) = (in_table x s f).0 i in rw (is, lt-ltb k s l))
    (λ x i. let (k, l, is) = (in_table x n (λ i. f (s + i))).0 i in rw (is, le-ltb (s + k) s (omega arith)))
    ∙ length-table s f

-- The lines of what is read back from a table.
lines-read : {A : Type 0} (n : ℕ) (f : ℕ → A) (d : A) (line : ℕ → A → Bytes) →
    gather (length (table n f)) (λ k. line k (get_or (table n f) k d)) ≡ gather n (λ k. line k (f k))
lines-read n f d line = rw length-table (gather_ext n _ _ (λ k l. ap (line k) (get_or-table n f k d l)))

pub text-read : (job block : Bytes) → word block 2 ≤ word block 0 → network_text (network_back job block) ≡ network_of job block
unfolding network_text network_back network_line_of type_lines_of link_lines_of
text-read job b h =
    rw (
      lines-read (word b 0) (read_type job b) (record { row = []; origin = Sampled 0 0 }) type_line,
      lines-read (word b 6) (read_link b) (record { low = 0; high = 0; length = 0 }) (λ k. link_line),
      sampled-read job b h,
      length-table (word b 0) (read_type job b),
      length-table (word b 6) (read_link b),
    )
