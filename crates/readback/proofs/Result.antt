-- The result of every call: the block of the network found is bytes, fits the lent result, and gives the network when it is read
-- back; and a refusal leaves zeros.
use Rattle.std.specs.Prelude.{Ok}
use mathlib.Core.Path.{◌≡◌, refl, ap, ◌∙◌}
use mathlib.Core.Logic.{◌≢◌, ◌⊎◌, inl, inr, ⊎_elim}
use mathlib.Core.Bool.{true, not}
use mathlib.Core.List.{◌++◌}
use Prim.Native.Nat.{ℕ, ◌+◌, ◌*◌, ◌-◌, ◌≤◌, ◌<◌}
use native.Mathlib.Nat.{sub-zero}
use native.Mathlib.Omega.{arith}
use lib.ListN.{length, get_or, replicate, length-append, length-map, length-replicate}
use Rattle.graph.proofs.Below.{In, in_at, in_append, in_replicate, count_le, each-place}
use Rattle.rules.specs.Answers.{number, used}
use Rattle.rules.specs.Job.{Bytes, word, width, weights, job_rows}
use Rattle.rules.specs.Lent.{Lent}
use Rattle.rules.specs.Types.{Node, inferred, node_at, rows_of, sampled}
use Rattle.rules.specs.Links.{link_at}
use Rattle.rules.specs.Purge.{Run, links_of, purge}
use Rattle.rules.specs.Run.{Network, phase_two}
use Rattle.rules.specs.Result.{block_length, record_of, block}
use Rattle.rules.specs.Call.{Verdict, refused, found, verdict, answer, result_after}
use Rattle.rules.specs.Lookup.{types_in, sampled_types, header_fits, lookup}
use Rattle.rules.proofs.Job.{Within, Passed, passed_is, state-within}
use Rattle.rules.proofs.Distance.{distance-fits}
use Rattle.rules.proofs.Links.{links_fit, links-at}
use Rattle.rules.proofs.Keeps.{made-count}
use Rattle.rules.proofs.Sound.{Sound, each_row, sound-states}
use Rattle.rules.proofs.Block.{Fits16, Fits, Stands, stands_front, stands_length, type_count, sampled_count, inferred_row, length-block, block-bytes}
use Rattle.readback.specs.ReadBack.{network_back}
use Rattle.readback.proofs.Lent.{enough}
use Rattle.readback.proofs.Found.{Found, found-is, found-sound}
use Rattle.readback.proofs.ReadBack.{Writable, from-job, sampled-count, wide, block-fits, the_header, fits, row_back, read_back}

-- ── A job that is answered with a network ──

module _ (lent : Lent) (job : Bytes) (net : Network) (e : verdict lent job ≡ found net) where
  abbrev f : Found lent job net
  f = found-is lent job net e

  abbrev pass : Passed job
  pass = passed_is job f.checks

  abbrev end : Run
  end = purge (weights job) 0 f.run

  abbrev sound : Sound (job_rows job) (width job) end
  sound = found-sound f

  -- The network is what Phase II leaves.
  net-is : net ≡ record { types = end.current; links = links_of (weights job) 0 end; rounds = end.rounds }
  unfolding phase_two
  net-is = f.left

  types_are : net.types ≡ sampled (job_rows job) ++ sound.later
  types_are = ap (λ n. n.types) net-is ∙ sound.current-is

  few_types : length net.types ≤ 128
  few_types = rw net-is (omega (arith, sound.room, made-count end))

  pub writable : Writable job net
  writable = record {
    later = sound.later;
    types_are = types_are;
    later-inferred = λ x h. rw (sound.later-inferred x h).origin_is;
    later-wide = λ x h. (each_row (λ r. length r ≡ width job) end.current).0 sound.widths x
        (rw sound.current-is ((in_append x (sampled (job_rows job)) sound.later).1 (inr h)));
    few = few_types;
  }

  pub few-links : length net.links ≤ 8128
  few-links = rw net-is (links_fit (weights job) 0 (rows_of end.current) (rw length-map (rw net-is at few_types)))

  pub few-rounds : net.rounds ≤ 128
  few-rounds = rw net-is (omega (arith, sound.room, sound.rounds-made))

  pub block-short : length (block (width job) net) ≤ 57680
  block-short = block-fits job net writable pass few-links

  -- Every state of every type, sampled or inferred, is from 33 to 126.
  pub type-states : (t : Node) → In t net.types → (c : ℕ) → c < width job → Within 33 126 (get_or t.row c 0)
  type-states t h =
      (each_row (λ r. (c : ℕ) → c < width job → Within 33 126 (get_or r c 0)) end.current).0
      (λ i l c b. sound-states (Within 33 126) (state-within job pass) sound i c l b) t (rw net-is at h)

  -- The numbers of a type's record: its row count and first row, or its place among the inferred ones and its round.
  record_numbers_fit : (t : Node) → In t net.types → (index : ℕ) → index < 65536 → Fits16 (record_of t.origin index)
  record_numbers_fit t h index l = ⊎_elim of_job of_round ((in_append t (sampled (job_rows job)) sound.later).0 (rw types_are at h))
    where
      of_job : In t (sampled (job_rows job)) → Fits16 (record_of t.origin index)
      of_job g =
          let j = from-job job t g in
          let r = pass.rows-within.at_most in
          rw j.origin_is (omega (arith, j.count_most), (omega (arith, j.first-row), (omega arith, tt)))

      of_round : In t sound.later → Fits16 (record_of t.origin index)
      of_round g =
          let r = sound.later-inferred t g in
          rw r.origin_is (omega arith, (l, (omega (arith, r.not_later, sound.room, sound.rounds-made), tt)))

  -- A link's lower number, its higher number and its length.
  the_link : (k : ℕ) → k < length net.links →
      ((link_at net.links k).low < (link_at net.links k).high) × ((link_at net.links k).high < length net.types) × ((link_at net.links k).length ≤ 64000)
  the_link k h =
      let l = links-at (weights job) 0 (rows_of end.current) k (rw net-is at h) in
      rw net-is (l.rising, rw length-map at l.within, rw l.long (distance-fits job pass _ _))

  -- Every number that the block writes fits 16 bits.
  pub numbers_fit : Fits (width job) net
  numbers_fit = record {
    header-fits =
        let t : sampled_count net ≤ length net.types = count_le (length net.types) (λ k. not (inferred (node_at net.types k).origin)) in
        let m = pass.width-within.at_most in
        let b : block_length (type_count net) (sampled_count net) (width job) (length net.links) ≤ 57680 = rw (length-block (width job) net (wide job net writable)) at block-short in
        let n = few_types in
        (omega arith, (omega arith, (omega arith, (omega arith, (omega (arith, few-rounds), (omega arith, (omega arith, (omega arith, tt))))))));
    record_fits = λ k h. record_numbers_fit (node_at net.types k) (in_at net.types k _ h) (k - sampled_count net) (omega (arith, few_types));
    states_fit = states;
    link_fits = λ k h.
        let l = the_link k h in
        let n = few_types in
        (omega (arith, l.0, l.1), (omega (arith, l.1), (omega (arith, l.2), tt)));
  }
    where
      states : (i : ℕ) → i < type_count net - sampled_count net → (x : ℕ) → In x (inferred_row net i) → x < 256
      states i h =
          let t = node_at net.types (sampled_count net + i) in
          let b = type-states t (in_at net.types (sampled_count net + i) _ (omega arith)) in
          (each-place (λ x. x < 256) t.row 0).0 (λ c l. omega (arith, (b c (rw (wide job net writable i h) at l)).at_most))

  -- ── What the result then holds ──

  abbrev behind : Bytes
  behind = replicate (lent.result - length (block (width job) net)) 0

  result_is : result_after lent job ≡ block (width job) net ++ behind
  unfolding result_after
  result_is = rw e

  pub read_result : network_back job (result_after lent job) ≡ net
  read_result = rw result_is (read_back job net behind f.checks writable)

  pub rows-read : (k : ℕ) → k < length net.types → lookup job (result_after lent job) k ≡ (node_at net.types k).row
  rows-read k h = rw result_is (row_back job net writable f.checks _ (stands_front (block (width job) net) behind) k h)

  -- What the header of the result says: it is one of the job's width, and of the links that follow it.
  in_front : Stands (result_after lent job) 0 (block (width job) net)
  in_front = rw result_is (stands_front (block (width job) net) behind)

  pub header-matches : header_fits (width job) (result_after lent job) (types_in (result_after lent job)) (sampled_types (result_after lent job)) ≡ true
  header-matches = fits job net writable f.checks (result_after lent job) in_front

  pub links-counted : word (result_after lent job) 6 ≡ length net.links
  links-counted = the_header job net writable f.checks (result_after lent job) in_front 3 (omega arith)

  pub links-reach : word (result_after lent job) 14 + 6 * word (result_after lent job) 6 ≤ length (result_after lent job)
  links-reach =
      let at = the_header job net writable f.checks (result_after lent job) in_front 7 (omega arith) in
      omega (arith, at, links-counted, stands_length in_front, length-block (width job) net (wide job net writable))

  answer_is : answer lent job ≡ (Ok (length (block (width job) net)))
  unfolding answer
  answer_is = rw e

  -- The bytes used, as RULES 13.6 counts them.
  pub used_is : used (answer lent job) ≡ block_length (length net.types) (length (sampled (job_rows job))) (width job) (length net.links)
  used_is = rw (answer_is, ← sampled-count job net writable) (length-block (width job) net (wide job net writable))

  -- The result lent is long enough for every block.
  long-enough : 57680 ≤ lent.result
  long-enough = (enough lent f.areas).result-long

-- ── Any job, refused or not ──

module _ (lent : Lent) (job : Bytes) where
  -- A network is found, or nothing is written.
  found-or_zero : ((net : Network) × (verdict lent job ≡ found net)) ⊎ (result_after lent job ≡ replicate lent.result 0)
  unfolding result_after
  found-or_zero = go (verdict lent job) refl
    where
      go : (v : Verdict) → verdict lent job ≡ v → ((net : Network) × (verdict lent job ≡ found net)) ⊎ (result_after lent job ≡ replicate lent.result 0)
      go (refused a) e = inr (rw (e, sub-zero))
      go (found net) e = inl (net, e)

  pub result_length : length (result_after lent job) ≡ lent.result
  result_length =
      ⊎_elim
      (λ s. let (net, e) = s in
      rw (result_is lent job net e, length-append, length-replicate) (omega (arith, block-short lent job net e, long-enough lent job net e)))
      (λ z. ap length z ∙ length-replicate lent.result 0) found-or_zero

  pub result-bytes : (x : ℕ) → In x (result_after lent job) → x < 256
  result-bytes x h =
      ⊎_elim
      (λ s. let (net, e) = s in
      let b = block (width job) net in
      ⊎_elim (block-bytes (width job) net (numbers_fit lent job net e) x) (zeros (lent.result - length b))
      ((in_append x b _).0 (rw (result_is lent job net e) at h)))
      (λ z. zeros lent.result (rw z at h)) found-or_zero
    where
      zeros : (n : ℕ) → In x (replicate n 0) → x < 256
      zeros n g = omega (arith, in_replicate x 0 n g)

  pub refused_zero : number (answer lent job) ≢ 0 → result_after lent job ≡ replicate lent.result 0
  refused_zero n = ⊎_elim (λ s. absurd (n (rw (answer_is lent job s.0 s.1)))) (λ z. z) found-or_zero
