-- How long a text is: a line of the network has at most 46 bytes, one of a type 79, one of a link 20, one of a refusal 50. Every text has at
-- most 172,718.
use mathlib.Core.Path.{◌≡◌, refl}
use mathlib.Core.Logic.{◌≢◌}
use mathlib.Core.Bool.{Bool, true, false, cond}
use Prim.Native.Nat.{ℕ, ◌+◌, ◌*◌, ◌^◌, ◌≤◌, ◌<◌}
use native.Mathlib.Nat.{min-le_left}
use native.Mathlib.Omega.{arith}
use lib.Dec.{ltb, eqb}
use lib.ListN.{length, get_or, length-append, length-take}
use borrow.Author.Tests.{eqb-true, eqb-false, lt-ltb, le-ltb, eq-eqb, ne_eqb}
use Rattle.graph.specs.Below.{gather}
use Rattle.graph.proofs.Below.{length-gather, sum_bound}
use Rattle.rules.specs.Answers.{number, Answer}
use Rattle.rules.specs.Job.{Bytes, word, width}
use Rattle.rules.specs.Lookup.{Part, in_job, in_result, nowhere, part_of, states_of, lookup}
use Rattle.rules.specs.Text.{text, origin_text, type_line, link_line}
use Rattle.rules.specs.declared.Origin.TheVariants.{Sampled, Inferred}
use Rattle.memory.proofs.decimals.Decimal.{length-decimal}
use Rattle.readback.specs.ReadBack.{record_at, read_link}
use Rattle.text.specs.Lines.{Legible, network_line_of, type_line_of, type_lines_of, link_lines_of, network_of}
use Rattle.text.specs.Printed.{text_room, refusal_of, line_room, network_room, brief_room, Suffices}
use Rattle.text.proofs.listing.Legible.{Read, read_is}

-- The row lookup hands back at most a row's states.
states-most : (job block : Bytes) (k : ℕ) → length (lookup job block k) ≤ width job
unfolding lookup
states-most job block k = go (part_of job block k)
  where
    go : (p : Part) → length (states_of job block p) ≤ width job
    go (in_job at) = rw length-take (min-le_left _ _)
    go (in_result at) = rw length-take (min-le_left _ _)
    go nowhere = omega arith

pub refusal-most : (number place : ℕ) → number < 2 ^ 64 → place < 2 ^ 64 → length (refusal_of number place) ≤ line_room
unfolding text
refusal-most number place h g =
    simp length-append (omega (arith, length-decimal 19 number (omega arith), length-decimal 19 place (omega arith)))

origin-most : (t : Bool) (x y z : ℕ) → x ≤ 65535 → z ≤ 65535 → length (origin_text (cond t (Sampled x y) (Inferred z))) ≤ 8
unfolding text
origin-most true x y z h g = omega (arith, length-decimal 4 x (omega arith))
origin-most false x y z h g = omega (arith, length-decimal 4 z (omega arith))

-- Gathered lines of at most so many bytes.
gather-most : (n most : ℕ) (f : ℕ → Bytes) → ((k : ℕ) → k < n → length (f k) ≤ most) → length (gather n f) ≤ n * most
gather-most n most f h = rw length-gather (sum_bound n most _ h)

module _ {job block : Bytes} (r : Read job block) (bytes : (i : ℕ) → get_or block i 0 < 256) where
  word-most : (i : ℕ) → word block i ≤ 65535
  word-most i = omega (arith, bytes i, bytes (i + 1))

  head-most : length (network_line_of block) ≤ 46
  unfolding network_line_of text
  head-most =
      simp length-append
      (omega (
        arith,
        length-decimal 2 (word block 0) (omega (arith, r.types-most)),
        length-decimal 2 (word block 2) (omega (arith, r.types-most, r.sampled_most)),
        length-decimal 3 (word block 6) (omega (arith, r.links-most)),
        length-decimal 4 (word block 8) (omega (arith, word-most 8)),
      ))

  type-most : (k : ℕ) → k < word block 0 → length (type_line_of job block k) ≤ 79
  unfolding type_line text
  type-most k h =
      let at = record_at block k in
      simp length-append
      (omega (
        arith,
        r.width-most,
        states-most job block k,
        length-decimal 2 k (omega (arith, r.types-most)),
        origin-most (ltb k (word block 2)) (word block at) (word block (at + 2)) (word block (at + 4)) (word-most at) (word-most (at + 4)),
      ))

  link-most : (k : ℕ) → k < word block 6 → length (link_line (read_link block k)) ≤ 20
  unfolding link_line text
  link-most k h =
      let at = word block 14 + 6 * k in
      simp length-append
      (omega (
        arith,
        length-decimal 4 (word block at) (omega (arith, word-most at)),
        length-decimal 4 (word block (at + 2)) (omega (arith, word-most (at + 2))),
        length-decimal 4 (word block (at + 4)) (omega (arith, word-most (at + 4))),
      ))

  pub network-most : length (network_of job block) ≤ network_room block
  unfolding type_lines_of link_lines_of
  network-most =
      simp length-append
      (omega (
        arith,
        head-most,
        gather-most (word block 0) 79 (type_line_of job block) type-most,
        gather-most (word block 6) 20 (λ k. link_line (read_link block k)) link-most,
      ))

-- ── The text of an answer ──

module _ (block : Bytes) (answer : Answer) where
  pub brief_line : number answer ≢ 0 → brief_room block answer ≡ line_room
  unfolding brief_room
  brief_line f = rw (ne_eqb (number answer) 0 f)

  module _ (n : number answer ≡ 0) where
    pub brief_none : length block < 16 → brief_room block answer ≡ 0
    unfolding brief_room
    brief_none h = rw (eq-eqb (number answer) 0 n, lt-ltb (length block) 16 h)

    pub brief_network : 16 ≤ length block → brief_room block answer ≡ network_room block
    unfolding brief_room
    brief_network h = rw (eq-eqb (number answer) 0 n, le-ltb (length block) 16 h)

module _ (job block : Bytes) (answer : Answer) where
  -- Room for the text is room for what is printed.
  module _ {room : ℕ} (s : Suffices job block answer room) where
    pub line-fits : number answer ≢ 0 → line_room ≤ room
    line-fits f = rw (← brief_line block answer f) (s (λ z. absurd (f z)))

    pub network-fits : number answer ≡ 0 → Legible job block → network_room block ≤ room
    network-fits n l = rw (← brief_network block answer n (read_is job block l).head) (s (λ z. l))

  pub every_suffices : Suffices job block answer text_room
  every_suffices l = go (eqb (number answer) 0) refl
    where
      go : (t : Bool) → eqb (number answer) 0 ≡ t → brief_room block answer ≤ text_room
      go true e =
          let n = eqb-true (number answer) 0 e in
          let r = read_is job block (l n) in
          rw (brief_network block answer n r.head) (omega (arith, r.types-most, r.links-most))
      go false e = rw (brief_line block answer (eqb-false (number answer) 0 e)) (omega arith)
