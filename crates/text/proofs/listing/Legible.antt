-- What is known of a block that can be printed with a job, by name.
use mathlib.Core.Path.{◌≡◌}
use mathlib.Core.Bool.{true, and-eq-true_iff}
use Prim.Native.Nat.{◌+◌, ◌*◌, ◌≤◌}
use native.Mathlib.Omega.{arith}
use lib.ListN.{length}
use borrow.Author.Tests.{leb-true}
use Rattle.rules.specs.Job.{Bytes, word, width}
use Rattle.lookup.specs.Match.{matches}
use Rattle.lookup.proofs.matching.Match.{matched-is}
use Rattle.text.specs.Lines.{Legible}

pub record Read (job block : Bytes) : Type 0 where
  pub alike : matches job block ≡ true
  pub head : 16 ≤ length block
  pub width-most : width job ≤ 64
  pub types-most : word block 0 ≤ 128
  pub sampled_most : word block 2 ≤ word block 0
  pub records-from : word block 10 ≡ 16
  pub records_in : 16 + 6 * word block 0 ≤ length block
  pub links-most : word block 6 ≤ 8128
  pub links_within : word block 14 + 6 * word block 6 ≤ length block

pub read_is : (job block : Bytes) → Legible job block → Read job block
read_is job block e =
    let s = (and-eq-true_iff _ _).0 e in
    let t = (and-eq-true_iff _ _).0 s.0 in
    let m = matched-is job block t.0 in
    let h = m.header in
    record {
      alike = t.0;
      head = h.head;
      width-most = m.passed.width-within.at_most;
      types-most = h.few;
      sampled_most = h.sampled_most;
      records-from = h.records_field;
      records_in = omega (arith, h.reaches);
      links-most = leb-true _ _ t.1;
      links_within = leb-true _ _ s.1;
    }
