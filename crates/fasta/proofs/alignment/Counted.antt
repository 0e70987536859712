-- Laws of the lengths counted up to a byte, and of one byte more.
use mathlib.Core.Path.{◌≡◌, sym, ap, ◌∙◌}
use mathlib.Core.Bool.{true, false}
use Rattle.std.proofs.Common.{Ok, Err}
use Prim.Native.Nat.{ℕ, suc, ◌+◌, ◌-◌, ◌≤◌, ◌<◌}
use native.Mathlib.Omega.{arith}
use native.Mathlib.Decide.{ℕ_discrete}
use lib.ListN.{length, get_or, set, replicate, length-append, length-set, length-replicate, get_or-replicate}
use lib.Seq.{ext_get_or, get_or-set_same, get_or-set_other}
use Rattle.graph.specs.Below.{gather}
use Rattle.graph.proofs.Below.{table_ext, length-table, get_or-table}
use Rattle.rules.specs.Job.{Bytes}
use Rattle.fasta.specs.Lines.{is_state}
use Rattle.fasta.specs.Answers.{no_fault}
use Rattle.fasta.specs.declared.conversion.Fault.{Fault}
use Rattle.fasta.proofs.conversion.Answers.{fault-refuses}
use Rattle.fasta.specs.Sequences.{opened, joined}
use Rattle.fasta.specs.Refusals.{held, fault_at}
use Rattle.fasta.specs.Read.{lengths_to, CountedTo, Taken}
use Rattle.fasta.proofs.alignment.Joined.{joined-state, joined-skipped, joined-other}

pub lengths-length : (text : Bytes) (i : ℕ) → length (lengths_to text i) ≡ 256
unfolding lengths_to
lengths-length text i = length-table 256 _

pub lengths-at : (text : Bytes) (i k : ℕ) → k < 256 → get_or (lengths_to text i) k 0 ≡ length (joined text i k)
unfolding lengths_to
lengths-at text i k h = get_or-table 256 (λ j. length (joined text i j)) k 0 h

-- Before the first byte nothing is counted.
pub lengths_none : (text : Bytes) → replicate 256 0 ≡ lengths_to text 0
unfolding lengths_to joined gather
lengths_none text =
    let n : length (replicate {A = ℕ} 256 0) ≡ 256 = length-replicate {A = ℕ} 256 0 in
    ext_get_or 0 _ _ (n ∙ sym (length-table 256 _))
    (λ k h. get_or-replicate 256 k 0 0 (omega arith) ∙ sym (get_or-table 256 _ k 0 (omega arith)))

-- ── One byte more ──

module _ (text : Bytes) (i : ℕ) where
  pub lengths-same : is_state text i ≡ false → lengths_to text i ≡ lengths_to text (suc i)
  unfolding lengths_to
  lengths-same s = table_ext 256 _ _ (λ k h. ap length (sym (joined-skipped text i k s)))

  -- A state is counted for the sequence that was opened last.
  lengths-more : (k : ℕ) → is_state text i ≡ true → opened text i ≡ suc k → k < 256 →
      set (lengths_to text i) k (get_or (lengths_to text i) k 0 + 1) ≡ lengths_to text (suc i)
  lengths-more k s o h =
      let before = lengths_to text i in
      let v = get_or before k 0 + 1 in
      let n = lengths-length text i in
      let m = lengths-length text (suc i) in
      ext_get_or 0 (set before k v) (lengths_to text (suc i)) (simp length-set (omega arith)) (λ j l.
      let within : j < 256 = omega (arith, length-set before k v) in
      elim (ℕ_discrete j k) [
        | yes e ↦ rw (e, get_or-set_same before k v 0 (omega arith), lengths-at text (suc i) k h, joined-state text i k s o, length-append)
            (ap (λ (x : ℕ). x + 1) (lengths-at text i k h))
        | no ne ↦ get_or-set_other before k j v 0 ne ∙ lengths-at text i j within
            ∙ ap length (sym (joined-other text i j (omega arith))) ∙ sym (lengths-at text (suc i) j within)
      ])

  -- A fault is not counted, and a byte that passes is.
  pub taken-fault : {lengths : Bytes} {fault : Fault} → fault_at text i ≡ Err fault → lengths ≡ lengths_to text i → Taken text i lengths (Err fault)
  taken-fault {fault} e l = record { fault_is = sym e; lengths_are = rw (e, fault-refuses fault) l }

  pub taken-passed : {lengths : Bytes} {done : Unit} → fault_at text i ≡ no_fault → lengths ≡ lengths_to text (suc i) → Taken text i lengths (Ok done)
  taken-passed e l = record { fault_is = sym e; lengths_are = rw e l }

  pub fault-left : {lengths : Bytes} {fault : Fault} → Taken text i lengths (Err fault) → lengths ≡ lengths_to text i
  fault-left {fault} t = t.lengths_are ∙ rw (← t.fault_is, fault-refuses fault)

  pub passed-left : {lengths : Bytes} {done : Unit} → Taken text i lengths (Ok done) → lengths ≡ lengths_to text (suc i)
  passed-left t = t.lengths_are ∙ rw (← t.fault_is)

-- The same of the lengths in memory.
module _ (text : Bytes) (i : ℕ) {begun : ℕ} {lengths : Bytes} (c : CountedTo text i begun lengths) where
  pub counted-length : length lengths ≡ 256
  counted-length = ap length c.lengths_are ∙ lengths-length text i

  module _ (some : 1 ≤ begun) where
    last : opened text i - 1 < 256
    last = omega (arith, c.begun_is, c.few)

    pub last-within : begun - 1 < length lengths
    last-within = omega (arith, c.few, counted-length)

    pub held-is : get_or lengths (begun - 1) 0 ≡ held text i
    held-is = rw (c.lengths_are, c.begun_is) (lengths-at text i (opened text i - 1) last)

    pub one_more : is_state text i ≡ true → set lengths (begun - 1) (get_or lengths (begun - 1) 0 + 1) ≡ lengths_to text (suc i)
    one_more s = rw (c.lengths_are, c.begun_is) (lengths-more text i (opened text i - 1) s (omega (arith, c.begun_is)) last)
