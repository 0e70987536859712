-- A header that fits, field by field; and a job and a block that match.
use mathlib.Core.Path.{◌≡◌, sym, ◌∙◌}
use mathlib.Core.Bool.{true, false, not, and-eq-true_iff}
use Prim.Native.Nat.{ℕ, ◌*◌, ◌-◌, ◌≤◌}
use native.Mathlib.Nat.{mul-le-mul}
use native.Mathlib.Omega.{arith}
use lib.Dec.{eqb}
use lib.ListN.{length}
use borrow.Author.Tests.{leb-true, eqb-true, eqb-false, not-true, not-false}
use Rattle.graph.proofs.Below.{is_false}
use Rattle.rules.specs.Answers.{number}
use Rattle.rules.specs.Job.{Bytes, word, width, checked}
use Rattle.rules.specs.Result.{records_offset, rows_offset, links_offset}
use Rattle.rules.specs.Lookup.{types_in, sampled_types, header_fits}
use Rattle.rules.proofs.Job.{Passed, passed_is}
use Rattle.lookup.specs.Match.{matches}

-- The header of a block of width m with t types, s of them sampled: every test of it, by name.
pub record Header (m : ℕ) (block : Bytes) (t s : ℕ) : Type 0 where
  pub head : 16 ≤ length block
  pub sampled_most : s ≤ t
  pub few : t ≤ 128
  pub some : 1 ≤ s
  pub width_field : word block 4 ≡ m
  pub records_field : word block 10 ≡ records_offset
  pub rows_field : word block 12 ≡ rows_offset t
  pub links_field : word block 14 ≡ links_offset t s m
  pub reaches : links_offset t s m ≤ length block

header_is : {m : ℕ} {block : Bytes} {t s : ℕ} → header_fits m block t s ≡ true → Header m block t s
header_is e =
    let s9 = (and-eq-true_iff _ _).0 e in
    let s8 = (and-eq-true_iff _ _).0 s9.0 in
    let s7 = (and-eq-true_iff _ _).0 s8.0 in
    let s6 = (and-eq-true_iff _ _).0 s7.0 in
    let s5 = (and-eq-true_iff _ _).0 s6.0 in
    let s4 = (and-eq-true_iff _ _).0 s5.0 in
    let s3 = (and-eq-true_iff _ _).0 s4.0 in
    let s2 = (and-eq-true_iff _ _).0 s3.0 in
    record {
      head = leb-true _ _ s2.0;
      sampled_most = leb-true _ _ s2.1;
      few = leb-true _ _ s3.1;
      some = leb-true _ _ s4.1;
      width_field = eqb-true _ _ s5.1;
      records_field = eqb-true _ _ s6.1;
      rows_field = eqb-true _ _ s7.1;
      links_field = eqb-true _ _ s8.1;
      reaches = leb-true _ _ s9.1;
    }

-- A block without such a header fails the test.
pub no_header : (m : ℕ) (block : Bytes) (t s : ℕ) → (Header m block t s → ⊥) → false ≡ header_fits m block t s
no_header m block t s h = sym (is_false _ (λ e. h (header_is e)))

-- A field that was read and held against what it must be, where only the test is kept: what that says of the field itself.
pub agrees : {read field : ℕ} (y : ℕ) → read ≡ field → not (eqb read y) ≡ false → eqb field y ≡ true
agrees y is t = rw (← is) (not-false _ t)

pub differs : {read field y : ℕ} → read ≡ field → not (eqb read y) ≡ true → field ≡ y → ⊥
differs is t e = eqb-false _ _ (not-true _ t) (is ∙ e)

-- A job and a block that match: the job passes, what is known of it then, and the block's header.
pub record Matched (job block : Bytes) : Type 0 where
  pub pass : number (checked job) ≡ 0
  pub passed : Passed job
  pub header : Header (width job) block (types_in block) (sampled_types block)

pub matched-is : (job block : Bytes) → matches job block ≡ true → Matched job block
matched-is job block e =
    let s = (and-eq-true_iff _ _).0 e in
    let p = eqb-true _ _ s.0 in
    record { pass = p; passed = passed_is job p; header = header_is s.1 }

-- The inferred rows of a block take few bytes, whatever width its job has.
pub few-inferred : {m : ℕ} (t s : ℕ) → t ≤ 128 → m ≤ 65535 → (t - s) * m ≤ 8388480
few-inferred t s h l = let d : t - s ≤ 128 = omega arith in omega (arith, mul-le-mul {n₂ = 128} {m₂ = 65535} d l)
