-- The row lookup hands back states exactly if its conditions hold, and then those of the job's row or of the block's.
use mathlib.Core.Path.{◌≡◌, refl, sym, ap}
use mathlib.Core.Logic.{◌↔◌, ◌≢◌}
use mathlib.Core.Bool.{Bool, true, false}
use mathlib.Core.List.{[]}
use Prim.Native.Nat.{ℕ, ◌+◌, ◌*◌, ◌-◌, ◌≤◌, ◌<◌}
use native.Mathlib.Omega.{arith}
use native.Mathlib.Decide.{dec_lt}
use lib.ListN.{length, take, drop}
use borrow.Author.Tests.{eq-eqb, le-leb}
use Rattle.rules.specs.Job.{Bytes, rows, width}
use Rattle.rules.specs.Result.{links_offset}
use Rattle.rules.specs.Lookup.{lookup}
use Rattle.rules.proofs.Job.{passed_is}
use Rattle.lookup.specs.Match.{matches}
use Rattle.lookup.proofs.matching.Match.{matched-is}
use Rattle.lookup.specs.Places.{Points}
use Rattle.lookup.proofs.Places.{of_the_job, of_the_result, no_states}
use Rattle.lookup.proofs.Rows.{unmatched, past, sampled_out, sampled-row, inferred_out, inferred-row}
use Rattle.claims.specs.Handed.{t, s, record_place, Handed}

module _ (job block : Bytes) (k : ℕ) where
  -- Job and block match where the conditions on both hold.
  handed-matches : Handed job block k → matches job block ≡ true
  handed-matches h =
      simp (
        eq-eqb _ _ h.passes,
        le-leb 16 (length block) h.head,
        le-leb (s block) (t block) h.sampled_most,
        le-leb (t block) 128 h.few_types,
        le-leb 1 (s block) h.some_sampled,
        eq-eqb _ _ h.width_field,
        eq-eqb _ _ h.records_field,
        eq-eqb _ _ h.rows_field,
        eq-eqb _ _ h.links_field,
        le-leb (links_offset (t block) (s block) (width job)) (length block) h.reaches,
      )

  module _ (h : Handed job block k) where
    row-sampled : k < s block → Points job block k (record { source = 1; at = 12 + 2 * width job + record_place block k * width job; length = width job })
    row-sampled l = sampled-row job block k (handed-matches h) h.number_known l refl refl (h.place_sampled l)

    row-inferred : s block ≤ k → Points job block k (record { source = 2; at = 16 + 6 * t block + record_place block k * width job; length = width job })
    row-inferred l = inferred-row job block k (handed-matches h) h.number_known l refl refl refl (h.place_inferred l)

    pub handed-sampled : k < s block → lookup job block k ≡ take (width job) (drop (12 + 2 * width job + record_place block k * width job) job)
    handed-sampled l = sym (of_the_job (row-sampled l) refl)

    pub handed-inferred : s block ≤ k → lookup job block k ≡ take (width job) (drop (16 + 6 * t block + record_place block k * width job) block)
    handed-inferred l = sym (of_the_result (row-inferred l) refl)

    -- So many states are handed back as the job's rows have, and there is at least one.
    pub handed-length : length (lookup job block k) ≡ width job
    handed-length = sym (elim (dec_lt k (s block)) [ yes l ↦ (row-sampled l).length_is | no f ↦ (row-inferred (omega arith)).length_is ])

    handed-some : lookup job block k ≢ []
    handed-some e =
        let w = (passed_is job h.passes).width-within.at_least in
        let z : length (lookup job block k) ≡ 0 = ap length e in
        absurd (omega (arith, handed-length, z, w))

  -- Where something is handed back, the conditions hold.
  some-handed : lookup job block k ≢ [] → Handed job block k
  some-handed n = matching (matches job block) refl
    where
      matched : matches job block ≡ true → Handed job block k
      matched e =
          let p = matched-is job block e in
          let h = p.header in
          let known : k < t block = elim (dec_lt k (t block)) [ yes l ↦ l | no f ↦ absurd (n (sym (no_states (past job block k e (omega arith)) refl))) ] in
          record {
            passes = p.pass;
            head = h.head;
            some_sampled = h.some;
            sampled_most = h.sampled_most;
            few_types = h.few;
            width_field = h.width_field;
            records_field = h.records_field;
            rows_field = h.rows_field;
            links_field = h.links_field;
            reaches = h.reaches;
            number_known = known;
            place_sampled = λ l. elim (dec_lt (record_place block k) (rows job)) [
              | yes g ↦ g
              | no f ↦ absurd (n (sym (no_states (sampled_out job block k e known l (omega arith)) refl)))
            ];
            place_inferred = λ l. elim (dec_lt (record_place block k) (t block - s block)) [
              | yes g ↦ g
              | no f ↦ absurd (n (sym (no_states (inferred_out job block k e known l (omega arith)) refl)))
            ];
          }

      matching : (b : Bool) → matches job block ≡ b → Handed job block k
      matching true e = matched e
      matching false e = absurd (n (sym (no_states (unmatched job block k e) refl)))

  pub handed_exactly : (lookup job block k ≢ []) ↔ Handed job block k
  handed_exactly = (some-handed, handed-some)
