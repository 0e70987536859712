-- The block of the network in memory: its parts, how long they are, and that what is written part by part is the block up to its links.
use mathlib.Core.Path.{◌≡◌, sym, ap, ◌∙◌}
use mathlib.Core.Bool.{Bool, not, ◌&&◌}
use mathlib.Core.List.{List, ◌++◌, append_assoc}
use Prim.Native.Nat.{ℕ, ◌+◌, ◌*◌, ◌-◌, ◌≤◌, ◌<◌}
use native.Mathlib.Nat.{mul-le-mul}
use native.Mathlib.Omega.{arith}
use lib.Dec.{ltb}
use lib.ListN.{length, length-append}
use Rattle.graph.specs.Below.{gather, only, count}
use Rattle.graph.proofs.Below.{gather_ext, length-table, get_or-table, length-gather, sum_bound, count_le, count_ext, length-kept}
use Rattle.rules.specs.Job.{Bytes}
use Rattle.rules.specs.Types.{Node, inferred, node_at}
use Rattle.rules.specs.Run.{Network}
use Rattle.rules.specs.Result.{words, header, record_of, rows_offset, links_offset, block}
use Rattle.rules.specs.declared.Kind.{Kind}
use Rattle.rules.specs.declared.Link.{Link}
use Rattle.rules.proofs.Block.{length-words}
use Rattle.memory.specs.Placed.{placed, Follows}
use Rattle.memory.proofs.Follows.{follows_on}
use Rattle.types.specs.State.{row_in, nodes_in}
use Rattle.distances.specs.Area.{cell_at}
use Rattle.links.specs.Marks.{marked}
use Rattle.purge.specs.declared.state.Held.{Held}
use Rattle.result.specs.Records.{kind_at, sampled_of, records_of, inferred_rows}
use Rattle.result.proofs.records.RecordBytes.{length-records, length-rows_from}
use Rattle.purge.specs.Network.{links_in, network_in}
use Rattle.result.specs.Table.{table_bytes}
use Rattle.result.proofs.table.Bytes.{length-table_bytes}
use Rattle.result.specs.Front.{front}
use Rattle.result.specs.FrontWritten.{FrontWritten}

-- The offset of the links is small.
pub links-short : {t m : ℕ} (s : ℕ) → t ≤ 128 → m ≤ 64 → links_offset t s m ≤ 8976
links-short {t} {m} s h l = omega (arith, mul-le-mul {n₁ = t - s} {n₂ = 128} (omega arith) l)

-- ── Links ──

-- The block is its front and then its links.
pub block-is : (m : ℕ) (net : Network) → block m net ≡ front m net ++ table_bytes (length net.links) net.links
unfolding block front table_bytes
block-is m net = simp append_assoc

pub block_size : (m : ℕ) (net : Network) → length (block m net) ≡ length (front m net) + 6 * length net.links
block_size m net = rw (block-is m net, length-append) (omega (arith, length-table_bytes net.links (length net.links)))

-- At most one link for each pair.
pub few-links : (area : List ℕ) (t : ℕ) → t ≤ 128 → length (links_in t area) ≤ 16384
unfolding links_in
few-links area t h =
    let test : ℕ → ℕ → Bool = λ i j. ltb i j && marked area i j in
    let link : ℕ → ℕ → Link = λ i j. record { low = i; high = j; length = cell_at area i j } in
    let line : ℕ → List Link = λ i. gather t (λ j. only (test i j) (link i j)) in
    rw (length-gather t line)
    (omega (arith, sum_bound t 128 (λ i. length (line i)) (λ i l. omega (arith, length-kept t (test i) (link i), count_le t (test i)))))

-- ── Records and rows ──

module _ (m : ℕ) (states : Bytes) (kinds : List Kind) (t : ℕ) where
  abbrev nodes : List Node
  nodes = nodes_in m t states kinds

  node_at_lem : (k : ℕ) → k < t → node_at nodes k ≡ record { row = row_in m states k; origin = (kind_at kinds k).origin }
  unfolding nodes_in
  node_at_lem k h = get_or-table t _ k _ h

  node-count : length nodes ≡ t
  unfolding nodes_in
  node-count = length-table t _

  sampled_are : count t (λ k. not (inferred (node_at nodes k).origin)) ≡ sampled_of kinds t
  sampled_are = count_ext t _ _ (λ k h. ap (λ (n : Node). not (inferred n.origin)) (node_at_lem k h))

  module _ (s : ℕ) where
    records_are : gather t (λ k. words (record_of (node_at nodes k).origin (k - s))) ≡ records_of kinds t s
    unfolding records_of
    records_are = gather_ext t _ _ (λ k h. rw (node_at_lem k h))

    rows_are : gather (t - s) (λ i. (node_at nodes (s + i)).row) ≡ inferred_rows m states s (t - s)
    unfolding inferred_rows
    rows_are = gather_ext (t - s) _ _ (λ i h. rw (node_at_lem (s + i) (omega arith)))

-- ── The front ──

module _ (m : ℕ) (states : Bytes) (area : List ℕ) (held : Held) (s : ℕ) (e : s ≡ sampled_of held.kinds held.state.types) where
  abbrev types : ℕ
  types = held.state.types

  abbrev kinds : List Kind
  kinds = held.kinds

  abbrev numbers : ℕ → List ℕ
  numbers l = header types s m l held.state.rounds

  front-parts : front m (network_in m states area held)
      ≡ words (numbers (length (links_in types area))) ++ records_of kinds types s ++ inferred_rows m states s (types - s)
  unfolding front network_in
  front-parts =
      rw (
        node-count m states kinds types,
        sampled_are m states kinds types,
        ← e,
        records_are m states kinds types s,
        rows_are m states kinds types s,
      )

  pub front_length : length (front m (network_in m states area held)) ≡ links_offset types s m
  front_length =
      rw (front-parts, length-append, length-append)
      (omega (arith, length-words (numbers (length (links_in types area))), length-records kinds s types, length-rows_from m states s (types - s)))

  -- The header, and each part behind the one before.
  pub parts-written : {out b₁ b₂ b₃ : Bytes} {l : ℕ} → l ≡ length (links_in types area) → b₁ ≡ placed out 0 (words (numbers l)) →
      b₂ ≡ placed b₁ 16 (records_of kinds types s) → b₃ ≡ placed b₂ (rows_offset types) (inferred_rows m states s (types - s)) →
      FrontWritten m states area held out b₃ (record { links = l; at = links_offset types s m })
  parts-written {out} {b₁} {b₂} {b₃} {l} count head records rows =
      let room : 0 ≤ length out = omega arith in
      let one : Follows out 0 (words (numbers l)) b₁ 16 = record { is = head; behind = omega (arith, length-words (numbers l)) } in
      let two : Follows b₁ 16 (records_of kinds types s) b₂ (rows_offset types) =
      record { is = records; behind = omega (arith, length-records kinds s types) } in
      let three : Follows b₂ (rows_offset types) (inferred_rows m states s (types - s)) b₃ (links_offset types s m) =
      record { is = rows; behind = omega (arith, length-rows_from m states s (types - s)) } in
      let all = follows_on (follows_on one room two) room three in
      record {
        is = all.is ∙ ap (placed out 0) (rw (front-parts, count) (simp append_assoc));
        links_are = count;
        at_is = sym front_length;
      }
