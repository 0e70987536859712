-- The bytes of a row, mixed: the sum over the first c of them, and that it is small.
use mathlib.Core.Path.{◌≡◌, refl, ap}
use Prim.Native.Nat.{ℕ, ◌+◌, ◌*◌, ◌%◌, ◌≤◌, ◌<◌}
use native.Mathlib.Nat.{mul-le-mul, mod-lt}
use native.Mathlib.Omega.{arith}
use lib.ListN.{get_or}
use Rattle.graph.specs.Below.{sum}
use Rattle.graph.proofs.Below.{sum_more}
use Rattle.rules.specs.Job.{Bytes}
use Rattle.medians.specs.Guesses.{slot_of}

-- The weight of a byte by its place, and its bound.
abbrev pub weight : ℕ → ℕ
weight c = 13 * c * c + 4801

pub square_small : (c : ℕ) → c < 64 → 13 * c * c ≤ 51597
square_small c h = mul-le-mul {n₁ = 13 * c} {m₁ = c} {n₂ = 819} {m₂ = 63} (omega arith) (omega arith)

pub term_small : (x c : ℕ) → x < 256 → c < 64 → x * weight c ≤ 14381490
term_small x c l h =
    mul-le-mul {n₁ = x} {m₁ = weight c} {n₂ = 255} {m₂ = 56398} (omega arith) (omega (arith, square_small c h))

-- The sum of the first c bytes: of none, of one more, and of all 64.
pub record Mixed (row : Bytes) (c s : ℕ) : Type 0 where
  pub passed : c ≤ 64
  pub so_far : s ≡ sum c (λ k. get_or row k 0 * weight k)
  pub small : s ≤ 14381490 * c

pub none_mixed : (row : Bytes) → Mixed row 0 0
unfolding sum
none_mixed row = record { passed = omega arith; so_far = refl; small = omega arith }

pub one_mixed : (row : Bytes) (c s : ℕ) → c < 64 → get_or row c 0 < 256 → Mixed row c s → Mixed row (c + 1) (s + get_or row c 0 * weight c)
one_mixed row c s h l t = record {
  passed = omega arith;
  so_far = rw (sum_more, t.so_far);
  small = omega (arith, t.small, term_small (get_or row c 0) c l h);
}

pub all_mixed : (row : Bytes) (c s : ℕ) → 64 ≤ c → Mixed row c s → s % 4096 ≡ slot_of row
unfolding slot_of
all_mixed row c s h t =
    let all : c ≡ 64 = omega (arith, t.passed) in
    ap (λ (x : ℕ). x % 4096) (rw all at t.so_far)

-- A guess has one of 4096 places.
pub slot_few : (row : Bytes) → slot_of row < 4096
unfolding slot_of
slot_few row = mod-lt (sum 64 (λ c. get_or row c 0 * weight c)) (omega arith)
