-- A text of n parts is written part by part: `Upto` says how far it is, and its laws take it from one part to the next.
use mathlib.Core.Path.{◌≡◌}
use Prim.Native.Nat.{ℕ, ◌+◌, ◌≤◌, ◌<◌}
use native.Mathlib.Omega.{arith}
use lib.ListN.{length}
use Rattle.graph.specs.Below.{gather}
use Rattle.rules.specs.Job.{Bytes}
use Rattle.memory.specs.Placed.{Follows}
use Rattle.memory.proofs.Placed.{length-placed}
use Rattle.memory.proofs.Follows.{follows-none, pieces_within, follows-more, follows-room}

-- k of n parts are written, and there is room for all.
pub record Upto (n : ℕ) (part : ℕ → Bytes) (b : Bytes) (at k : ℕ) (b₁ : Bytes) (p : ℕ) : Type 0 where
  pub most : k ≤ n
  pub done : Follows b at (gather k part) b₁ p
  pub room : at + length (gather n part) ≤ length b

pub upto-none : (n : ℕ) (part : ℕ → Bytes) (b : Bytes) (at : ℕ) → at + length (gather n part) ≤ length b → Upto n part b at 0 b at
unfolding gather
upto-none n part b at h = record { most = omega arith; done = follows-none b at; room = h }

module _ {n : ℕ} {part : ℕ → Bytes} {b b₁ : Bytes} {at k p : ℕ} (u : Upto n part b at k b₁ p) where
  pub upto-length : length b₁ ≡ length b
  upto-length = rw u.done.is (length-placed b _ at (omega (arith, u.room, pieces_within part n k u.most)))

  pub upto_all : n ≤ k → Follows b at (gather n part) b₁ p
  upto_all h = let e : n ≡ k = omega (arith, u.most) in rw e u.done

  -- Room for the next part, and one part more: what is written is that part.
  module _ (h : k < n) {ys : Bytes} (e : ys ≡ part k) where
    pub upto-room : p + length ys ≤ length b₁
    upto-room = rw e (omega (arith, follows-room part k u.done n h u.room, upto-length))

    pub upto-more : {b₂ : Bytes} {r : ℕ} → Follows b₁ p ys b₂ r → Upto n part b at (k + 1) b₂ r
    upto-more f = record {
      most = omega arith;
      done = follows-more part k u.done (omega (arith, u.room)) (rw e at f);
      room = u.room;
    }
