-- What the numbers of a place say: the states that lie there, and that no other numbers say it.
use mathlib.Core.Path.{◌≡◌, refl, sym, ◌∙◌}
use mathlib.Core.Bool.{cond}
use mathlib.Core.List.{[]}
use Prim.Native.Nat.{ℕ}
use native.Mathlib.Omega.{arith}
use lib.Dec.{eqb}
use lib.ListN.{length, take, drop, take-append-drop}
use lib.Seq.{take-append_seam}
use Rattle.rules.specs.Job.{Bytes, width}
use Rattle.rules.specs.Lookup.{Part, in_job, in_result, nowhere, part_of, states_of, lookup}
use Rattle.lookup.specs.Places.{source_of, start_of, Points}
use Rattle.lookup.specs.declared.Place.{Place}

-- As many elements as the first n are, taken, are the first n.
again : (n : ℕ) (xs : Bytes) → take (length (take n xs)) xs ≡ take n xs
again n xs = rw take-append-drop at (take-append_seam (take n xs) (drop n xs))

module _ (job block : Bytes) where
  -- What a source names: the block where it is 2, and else the job, of which nowhere takes no byte.
  abbrev pub sourced : ℕ → Bytes
  sourced source = cond (eqb source 2) block job

  held : (p : Part) → take (length (states_of job block p)) (drop (start_of p) (sourced (source_of p))) ≡ states_of job block p
  held (in_job at) = again (width job) (drop at job)
  held (in_result at) = again (width job) (drop at block)
  held nowhere = refl

  none : (p : Part) → source_of p ≡ 0 → [] ≡ states_of job block p
  none (in_job at) e = absurd (omega arith)
  none (in_result at) e = absurd (omega arith)
  none nowhere e = refl

module _ {job block : Bytes} {k : ℕ} {r : Place} (h : Points job block k r) where
  pub states : take r.length (drop r.at (sourced job block r.source)) ≡ lookup job block k
  unfolding lookup
  states = rw (h.source_is, h.at_is, h.length_is) (held job block (part_of job block k))

  pub of_the_job : r.source ≡ 1 → take r.length (drop r.at job) ≡ lookup job block k
  of_the_job e = rw e at states

  pub of_the_result : r.source ≡ 2 → take r.length (drop r.at block) ≡ lookup job block k
  of_the_result e = rw e at states

  pub no_states : r.source ≡ 0 → [] ≡ lookup job block k
  unfolding lookup
  no_states e = none job block (part_of job block k) (sym h.source_is ∙ e)

  pub same_place : {r' : Place} → Points job block k r' → r ≡ r'
  same_place q i = record {
    source = (h.source_is ∙ sym q.source_is) i;
    at = (h.at_is ∙ sym q.at_is) i;
    length = (h.length_is ∙ sym q.length_is) i;
  }
