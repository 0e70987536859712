-- The rows of types that stay come to the front, and those of types that go to the end, one after the other.
use mathlib.Core.Path.{◌≡◌, refl, sym, ◌∙◌}
use mathlib.Core.Bool.{Bool, true, false, not}
use mathlib.Core.List.{List, ◌++◌, append_assoc, append-nil}
use Prim.Native.Nat.{ℕ, zero, suc, ◌+◌, ◌*◌, ◌-◌, ◌≤◌, ◌<◌}
use native.Mathlib.Nat.{zero-add, sub-zero}
use native.Mathlib.Omega.{arith}
use lib.ListN.{length, take, drop, take-append-drop, length-append, length-drop}
use lib.Seq.{length-take-le, take-add, drop-drop}
use Rattle.graph.specs.Below.{gather, given}
use Rattle.graph.proofs.Below.{gather-more}
use Rattle.rules.specs.Job.{Bytes}
use Rattle.rules.proofs.Block.{length-parts}
use Rattle.types.specs.State.{stored_at, rows_from}
use Rattle.types.proofs.State.{length-stored_at}
use Rattle.memory.specs.Placed.{placed}
use Rattle.memory.proofs.Placed.{length-placed}
use Rattle.purge.specs.Left.{Chosen, is_kept, parted}
use Rattle.purge.proofs.retire.Kept.{Upto, Next, upto-none, next-kept, next-upto, other_upto, other-gone}
use Rattle.purge.proofs.retire.Moved.{row-to-end}

-- The next row is the first of those that follow.
module _ (b : Bytes) (i made : ℕ) (h : i < made) where
  rows_next : rows_from b i made ≡ stored_at b i ++ rows_from b (i + 1) made
  rows_next =
      let e : 64 * (made - i) ≡ 64 + 64 * (made - (i + 1)) = omega arith in
      let g : 64 * i + 64 ≡ 64 * (i + 1) = omega arith in
      rw (e, take-add 64 (64 * (made - (i + 1))) (drop (64 * i) b), drop-drop, g)

  length-rows : 64 * made ≤ length b → length (rows_from b (i + 1) made) ≡ 64 * (made - (i + 1))
  length-rows l = length-take-le _ (drop (64 * (i + 1)) b) (rw length-drop (omega arith))

-- A test chooses some of the lists gathered, and its negation the others: together they are as long as all.
either-length : {A : Type 0} (t : Bool) (xs : List A) → length (given t xs) + length (given (not t) xs) ≡ length xs
either-length true xs = omega arith
either-length false xs = omega arith

both-lengths : {A : Type 0} (n : ℕ) (p : ℕ → Bool) (f : ℕ → List A) →
    length (gather n (λ k. given (p k) (f k))) + length (gather n (λ k. given (not (p k)) (f k))) ≡ length (gather n f)
unfolding gather
both-lengths zero p f = refl
both-lengths (suc n) p f =
    simp length-append (omega (arith, both-lengths n p f, either-length (p n) (f n)))

-- Of the first i rows those that stay, and those that go.
module _ (kept : List ℕ) (count : ℕ) (b : Bytes) where
  abbrev stays : ℕ → Bytes
  stays i = gather i (λ k. given (is_kept kept count k) (stored_at b k))

  abbrev goes : ℕ → Bytes
  goes i = gather i (λ k. given (not (is_kept kept count k)) (stored_at b k))

  both-sized : (i : ℕ) → 64 * i ≤ length b → length (stays i) + length (goes i) ≡ 64 * i
  both-sized i h =
      let n = length-parts 64 i (stored_at b) (λ k l. length-stored_at b k (omega arith)) in
      omega (arith, both-lengths i (is_kept kept count) (stored_at b))

  pub parted-size : (i made : ℕ) → i ≤ made → 64 * made ≤ length b → length (parted kept count i made b) ≡ 64 * made
  unfolding parted
  parted-size i made h l =
      let n = length-take-le (64 * (made - i)) (drop (64 * i) b) (rw length-drop (omega arith)) in
      rw (length-append, length-append) (omega (arith, both-sized i (omega arith)))

  stays-more : (i : ℕ) → is_kept kept count i ≡ true → (stays (i + 1) ≡ stays i ++ stored_at b i) × (goes (i + 1) ≡ goes i)
  stays-more i e = (rw (gather-more, e), rw (gather-more, e) (append-nil (goes i)))

  goes-more : (i : ℕ) → is_kept kept count i ≡ false → (stays (i + 1) ≡ stays i) × (goes (i + 1) ≡ goes i ++ stored_at b i)
  goes-more i e = (rw (gather-more, e) (append-nil (stays i)), rw (gather-more, e))

-- The first i of t rows are parted, and a of them stay.
pub record Parting (kept : List ℕ) (count t made : ℕ) (b area : Bytes) (i a : ℕ) : Type 0 where
  pub chosen : Chosen kept count t
  pub rows : t ≤ made
  pub room : 64 * made ≤ length b
  pub read : i ≤ t
  pub upto : Upto kept count i a
  pub front : length (stays kept count b i) ≡ 64 * a
  pub area_is : area ≡ placed b 0 (parted kept count i made b)

-- What stands at the front, placed there again.
front-again : (b : Bytes) (n : ℕ) → n ≤ length b → b ≡ placed b 0 (take n b)
unfolding placed
front-again b n l = sym (rw (length-take-le n b l, zero-add) (take-append-drop n b))

pub none-parted : {kept : List ℕ} {count t made : ℕ} {b : Bytes} → Chosen kept count t → t ≤ made → 64 * made ≤ length b →
    Parting kept count t made b b 0 0
unfolding parted gather
none-parted {kept} {count} {made} {b} chosen rows room = record {
  chosen = chosen;
  rows = rows;
  room = room;
  read = omega arith;
  upto = upto-none kept count;
  front = refl;
  area_is = rw (append-nil, sub-zero) (front-again b (64 * made) room);
}

-- One row more stays, or goes to the end; and all rows are parted.
module _ {kept : List ℕ} {count t made i a : ℕ} {b area : Bytes} (p : Parting kept count t made b area i a) where
  pub same_size : length area ≡ length b
  same_size =
      let n = parted-size kept count b i made (omega arith) p.room in
      rw p.area_is (length-placed b (parted kept count i made b) 0 (omega arith))

  both-rows : length (stays kept count b i) + length (goes kept count b i) ≡ 64 * i
  both-rows = both-sized kept count b i (omega arith)

  pub few-stay : a ≤ i
  few-stay = omega (arith, both-rows, p.front)

  module _ (h : i < t) where
    row-size : length (stored_at b i) ≡ 64
    row-size = length-stored_at b i (omega (arith, p.room, p.rows))

    pub one-stays : Next kept count i a → Parting kept count t made b area (i + 1) (a + 1)
    unfolding parted
    one-stays n =
        let (s, g) = stays-more kept count b i (next-kept p.chosen p.upto n) in
        record {
          chosen = p.chosen;
          rows = p.rows;
          room = p.room;
          read = omega arith;
          upto = next-upto p.chosen p.upto n;
          front = rw (s, length-append) (omega (arith, p.front, row-size));
          area_is = rw (s, g, append_assoc (stays kept count b i), ← rows_next b i made (omega (arith, p.rows))) p.area_is;
        }

    pub one-goes : (Next kept count i a → ⊥) →
        Parting kept count t made b (placed area (64 * a) (rows_from area (a + 1) made ++ stored_at area a)) (i + 1) a
    unfolding parted
    one-goes n =
        let l : i < made = omega (arith, p.rows) in
        let (s, g) = goes-more kept count b i (other-gone p.chosen p.upto n) in
        let front = stays kept count b i in
        let rest = rows_from b (i + 1) made in
        let rear = goes kept count b i in
        let row = stored_at b i in
        let is : area ≡ placed b 0 (front ++ (row ++ (rest ++ rear))) = p.area_is ∙ rw (rows_next b i made l) (simp append_assoc) in
        let size : length (rest ++ rear) ≡ 64 * (made - (a + 1)) = rw length-append (omega (arith, length-rows b i made l p.room, both-rows)) in
        record {
          chosen = p.chosen;
          rows = p.rows;
          room = p.room;
          read = omega arith;
          upto = other_upto p.chosen p.upto n;
          front = rw s p.front;
          area_is = row-to-end b front row (rest ++ rear) a made p.front row-size size (omega (arith, both-rows)) p.room area is
              ∙ rw (s, g) (simp append_assoc);
        }
