-- The result block read back by its own header gives the network, whatever is behind it, and it has at most 57,680 bytes.
use mathlib.Core.Path.{◌≡◌, refl, sym, ap, ◌∙◌, subst}
use mathlib.Core.Bool.{true, not, false≢true}
use mathlib.Core.List.{List, [], ◌++◌}
use Prim.Native.Nat.{ℕ, ◌+◌, ◌*◌, ◌-◌, ◌≤◌, ◌<◌}
use native.Mathlib.Nat.{add-sub_cancel_left, mul-le-mul}
use native.Mathlib.Omega.{arith}
use native.Mathlib.Decide.{dec_lt}
use lib.Dec.{ltb}
use lib.ListN.{length, get_or, length-append, get_or-append}
use lib.Seq.{get_or-append-add}
use borrow.Author.Tests.{not-true, not-false, lt-ltb, le-ltb, le-leb, eq-eqb}
use Rattle.graph.specs.Below.{table}
use Rattle.graph.proofs.Below.{In, in_at, table-get_or, table_ext, count_le}
use Rattle.rules.specs.Answers.{number}
use Rattle.rules.specs.Job.{Bytes, word, rows, width, job_row, job_rows, checked}
use Rattle.rules.specs.Types.{Node, inferred, row_at, node_at, is_same_row, sampled_at, sampled}
use Rattle.rules.specs.Run.{Network}
use Rattle.rules.specs.Links.{link_at}
use Rattle.rules.specs.Result.{records_offset, record_size, rows_offset, links_offset, record_of, block}
use Rattle.rules.specs.Lookup.{types_in, sampled_types, header_fits, place_in, lookup}
use Rattle.rules.specs.declared.Origin.{Origin}
use Rattle.rules.specs.declared.Origin.TheVariants.{Sampled, Inferred}
use Rattle.rules.proofs.Job.{Passed, passed_is, length-rows, row-at, row-part}
use Rattle.rules.proofs.Types.{in_sampled, firsts_any, length-sampled}
use Rattle.rules.proofs.Lookup.{lookup-sampled, lookup-inferred}
use Rattle.rules.proofs.Block.{Stands, stands_front, stands_length, stands_part, header_of, record_numbers, link_numbers, Three, type_count, sampled_count, inferred_row, Wide, length-block, header-word, record_words, row_stands, link-words, sampled_in-append}
use Rattle.readback.specs.ReadBack.{read_origin, read_link, read_type, network_back}

-- A network that the result block can hold: the job's sampled types, inferred ones of the job's width behind them, at most 128 in all.
pub record Writable (job : Bytes) (net : Network) : Type 0 where
  pub later : List Node
  pub types_are : net.types ≡ sampled (job_rows job) ++ later
  pub later-inferred : (x : Node) → In x later → inferred x.origin ≡ true
  pub later-wide : (x : Node) → In x later → length x.row ≡ width job
  pub few : length net.types ≤ 128

abbrev none : Node
none = record { row = []; origin = Sampled 0 0 }

-- A sampled type's row is the job's row that it names, and it counts at most all rows.
pub record FromJob (job : Bytes) (x : Node) : Type 0 where
  pub count : ℕ
  pub first : ℕ
  pub origin_is : x.origin ≡ Sampled count first
  pub count_most : count ≤ rows job
  pub first-row : first < rows job
  pub row_is : x.row ≡ job_row job first

pub from-job : (job : Bytes) (x : Node) → In x (sampled (job_rows job)) → FromJob job x
unfolding sampled_at
from-job job x h =
    let rs = job_rows job in
    let s = in_sampled rs x h in
    let l : s.0 < rows job = (rw length-rows at s).1 in
    record {
      count = _;
      first = s.0;
      origin_is = ap (λ n. n.origin) s.2;
      count_most = omega (arith, count_le (length rs) (λ i. is_same_row (row_at rs i) (row_at rs s.0)), length-rows job);
      first-row = l;
      row_is = ap (λ n. n.row) s.2 ∙ row-at job s.0 l;
    }

some_sampled : (job : Bytes) → 1 ≤ rows job → 1 ≤ length (sampled (job_rows job))
some_sampled job h = rw length-sampled (firsts_any (job_rows job) (rw length-rows h))

-- A record says whence its type is; the place of an inferred type is its number among those.
origin-back : (b : Bytes) (k i : ℕ) (o : Origin) → Three b (word b 10 + 6 * k) (record_of o i) → inferred o ≡ not (ltb k (word b 2)) → read_origin b k ≡ o
origin-back b k i (Sampled n f) t e = rw (not-false (ltb k (word b 2)) (sym e), t.one, t.two)
origin-back b k i (Inferred round) t e = rw (not-true (ltb k (word b 2)) (sym e), t.three)

place_inferred : (o : Origin) (i : ℕ) → inferred o ≡ true → get_or (record_of o i) 1 0 ≡ i
place_inferred (Sampled n f) i e = absurd (false≢true e)
place_inferred (Inferred round) i e = refl

-- What holds below s and from s on holds below t.
both_sides : (P : ℕ → Type 0) (s t : ℕ) → ((k : ℕ) → k < s → P k) → ((i : ℕ) → i < t - s → P (s + i)) → (k : ℕ) → k < t → P k
both_sides P s t f g k h = elim (dec_lt k s) [
  | yes l ↦ f k l
  | no n ↦ let e : s + (k - s) ≡ k = omega arith in subst P e (g (k - s) (omega arith))
]

module _ (job : Bytes) (net : Network) (w : Writable job net) where
  -- Its header counts the job's sampled types, and every inferred row has the job's width.
  pub sampled-count : sampled_count net ≡ length (sampled (job_rows job))
  sampled-count =
      rw w.types_are
      (sampled_in-append (sampled (job_rows job)) w.later (λ x h. rw (from-job job x h).origin_is) w.later-inferred)

  type-count : type_count net ≡ length (sampled (job_rows job)) + length w.later
  type-count = rw w.types_are (length-append (sampled (job_rows job)) w.later)

  node-sampled : (k : ℕ) → k < sampled_count net → FromJob job (node_at net.types k)
  node-sampled k h =
      let l : k < length (sampled (job_rows job)) = omega (arith, sampled-count) in
      rw (w.types_are, get_or-append (sampled (job_rows job)) w.later none k l) (from-job job _ (in_at (sampled (job_rows job)) k none l))

  node-later : (i : ℕ) → i < type_count net - sampled_count net → In (node_at net.types (sampled_count net + i)) w.later
  node-later i h =
      let l : i < length w.later = omega (arith, sampled-count, type-count) in
      rw (sampled-count, w.types_are, get_or-append-add (sampled (job_rows job)) w.later i none) (in_at w.later i none l)

  pub wide : Wide (width job) net
  wide i h = w.later-wide _ (node-later i h)

  kind : (k : ℕ) → k < type_count net → inferred (node_at net.types k).origin ≡ not (ltb k (sampled_count net))
  kind = both_sides (λ k. inferred (node_at net.types k).origin ≡ not (ltb k (sampled_count net))) (sampled_count net) (type_count net)
      (λ k l. rw (lt-ltb k (sampled_count net) l, (node-sampled k l).origin_is))
      (λ i l. rw (le-ltb (sampled_count net + i) (sampled_count net) (omega arith)) (w.later-inferred _ (node-later i l)))

  -- The largest block: 128 types, one of them sampled, of 64 states, and 8,128 links.
  pub block-fits : Passed job → length net.links ≤ 8128 → length (block (width job) net) ≤ 57680
  block-fits p h =
      let s : 1 ≤ sampled_count net = omega (arith, sampled-count, some_sampled job p.rows-within.at_least) in
      let n : type_count net - sampled_count net ≤ 127 = omega (arith, w.few) in
      rw (length-block (width job) net wide) (omega (arith, w.few, mul-le-mul {n₂ = 127} {m₂ = 64} n p.width-within.at_most))

  -- The block at the front of b, read back.
  module _ (pass : number (checked job) ≡ 0) (b : Bytes) (front : Stands b 0 (block (width job) net)) where
    pub the_header : (k : ℕ) → k < 8 → word b (2 * k) ≡ get_or (header_of (width job) net) k 0
    the_header = header-word (width job) net b front

    pub fits : header_fits (width job) b (types_in b) (sampled_types b) ≡ true
    fits =
        let p = passed_is job pass in
        let t = type_count net in
        let s = sampled_count net in
        let l : links_offset t s (width job) ≤ length b = omega (arith, stands_length front, length-block (width job) net wide) in
        rw (the_header 0 (omega arith), the_header 1 (omega arith))
        (simp (
          le-leb 16 (length b) (omega arith),
          le-leb s t (omega (arith, sampled-count, type-count)),
          le-leb t 128 w.few,
          le-leb 1 s (omega (arith, sampled-count, some_sampled job p.rows-within.at_least)),
          eq-eqb (word b 4) (width job) (the_header 2 (omega arith)),
          eq-eqb (word b 10) records_offset (the_header 5 (omega arith)),
          eq-eqb (word b 12) (rows_offset t) (the_header 6 (omega arith)),
          eq-eqb (word b 14) (links_offset t s (width job)) (the_header 7 (omega arith)),
          le-leb (links_offset t s (width job)) (length b) l,
        ))

    types-word : word b 0 ≡ type_count net
    types-word = the_header 0 (omega arith)

    sampled-word : word b 2 ≡ sampled_count net
    sampled-word = the_header 1 (omega arith)

    the_record : (k : ℕ) → k < type_count net → Three b (records_offset + record_size * k) (record_numbers net k)
    the_record = record_words (width job) net b front

    row-sampled : (k : ℕ) → k < sampled_count net → lookup job b k ≡ (node_at net.types k).row
    row-sampled k l =
        let f = node-sampled k l in
        let h : k < type_count net = omega (arith, sampled-count, type-count) in
        let e : place_in b k ≡ f.first = (the_record k h).two ∙ rw f.origin_is in
        let g : place_in b k < rows job = rw e f.first-row in
        lookup-sampled job b k pass fits (rw types-word h) (rw sampled-word l) g
        ∙ rw e (row-part job f.first (passed_is job pass) f.first-row ∙ sym f.row_is)

    row-inferred : (i : ℕ) → i < type_count net - sampled_count net → lookup job b (sampled_count net + i) ≡ inferred_row net i
    row-inferred i h =
        let k = sampled_count net + i in
        let n : k < type_count net = omega arith in
        let o = (node_at net.types k).origin in
        let e : place_in b k ≡ i = (the_record k n).two ∙ place_inferred o (k - sampled_count net) (w.later-inferred _ (node-later i h)) ∙ add-sub_cancel_left (sampled_count net) i in
        let g : place_in b k < types_in b - sampled_types b = rw (e, types-word, sampled-word) h in
        lookup-inferred job b k pass fits (rw types-word n) (rw sampled-word (omega arith)) g
        ∙ rw (e, types-word) (rw (wide i h) at (stands_part (row_stands (width job) net b front wide i h)))

    -- The row lookup hands back every type's row.
    pub row_back : (k : ℕ) → k < type_count net → lookup job b k ≡ (node_at net.types k).row
    row_back = both_sides (λ k. lookup job b k ≡ (node_at net.types k).row) (sampled_count net) (type_count net) row-sampled row-inferred

    type-back : (k : ℕ) → k < type_count net → read_type job b k ≡ node_at net.types k
    type-back k h =
        let t : Three b (word b 10 + 6 * k) (record_numbers net k) = rw (the_header 5 (omega arith)) (the_record k h) in
        let o = origin-back b k _ (node_at net.types k).origin t (rw sampled-word (kind k h)) in
        λ i. record { row = row_back k h i; origin = o i }

    link-back : (k : ℕ) → k < length net.links → read_link b k ≡ link_at net.links k
    link-back k h =
        let t : Three b (word b 14 + 6 * k) (link_numbers net k) = rw (the_header 7 (omega arith)) (link-words (width job) net b front wide k h) in
        λ i. record { low = t.one i; high = t.two i; length = t.three i }

    block_back : network_back job b ≡ net
    unfolding network_back
    block_back =
        let ts : table (word b 0) (read_type job b) ≡ net.types =
        rw types-word (table_ext (type_count net) _ (node_at net.types) type-back ∙ table-get_or net.types none) in
        let ls : table (word b 6) (read_link b) ≡ net.links =
        rw (the_header 3 (omega arith)) (table_ext (length net.links) _ (link_at net.links) link-back ∙ table-get_or net.links _) in
        λ i. record { types = ts i; links = ls i; rounds = the_header 4 (omega arith) i }

-- Whoever holds a job and its result block, with anything behind it, holds the network.
pub read_back : (job : Bytes) (net : Network) (behind : Bytes) → number (checked job) ≡ 0 → Writable job net → network_back job (block (width job) net ++ behind) ≡ net
read_back job net behind pass w = block_back job net w pass (block (width job) net ++ behind) (stands_front (block (width job) net) behind)
