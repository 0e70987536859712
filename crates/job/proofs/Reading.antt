-- What a job that passed lets its readers count on: where weights and rows end, in the numbers that the code has at hand.
use mathlib.Core.Path.{◌≡◌}
use Prim.Native.Nat.{ℕ, suc, ◌+◌, ◌*◌, ◌-◌, ◌≤◌, ◌<◌}
use native.Mathlib.Nat.{suc-mul, mul-le-mul_right}
use native.Mathlib.Omega.{arith}
use lib.ListN.{length, take, drop}
use Rattle.rules.specs.Answers.{number}
use Rattle.rules.specs.Job.{Bytes, rows, width, job_row, checked}
use Rattle.rules.proofs.Job.{passed_is, row-part}

-- Row k of a job of width m ends within it, and so do the weights before it.
pub record RowEnds (job : Bytes) (m k : ℕ) : Type 0 where
  pub narrow : m ≤ 64
  pub ends : 12 + 2 * m + k * m + m ≤ length job

pub row_ends : (job : Bytes) (m k : ℕ) → number (checked job) ≡ 0 → m ≡ width job → k < rows job → RowEnds job m k
row_ends job m k e w h =
    let p = passed_is job e in
    let l : suc k * width job ≤ rows job * width job = mul-le-mul_right (width job) h in
    record {
      narrow = omega (arith, p.width-within.at_most);
      ends = rw w (omega (arith, p.whole, suc-mul k (width job)));
    }

-- There is a first row.
pub first-row : (job : Bytes) (m : ℕ) → number (checked job) ≡ 0 → m ≡ width job → RowEnds job m 0
first-row job m e w = row_ends job m 0 e w (passed_is job e).rows-within.at_least

-- That part of the job is the row of the rules.
pub row_is : (job : Bytes) (m k : ℕ) → number (checked job) ≡ 0 → m ≡ width job → k < rows job →
    let from = 12 + 2 * m + k * m in take (from + m - from) (drop from job) ≡ job_row job k
row_is job m k e w h =
    let from = 12 + 2 * m + k * m in
    let l : from + m - from ≡ m = omega arith in
    rw (l, w) (row-part job k (passed_is job e) h)
