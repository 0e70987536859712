-- Laws of `placed`: how a loop of stores steps, and what stands where afterwards.
use mathlib.Core.Path.{◌≡◌, sym, ap, ap₂, ◌∙◌}
use mathlib.Core.List.{List, [], ◌∷◌, ◌++◌, append_assoc, append-nil}
use Prim.Native.Nat.{ℕ, zero, suc, ◌+◌, ◌-◌, ◌≤◌, ◌<◌}
use native.Mathlib.Nat.{add-zero, zero-add, add_assoc, sub-zero, zero-sub, suc-sub-suc}
use native.Mathlib.Numerals.{add-one}
use native.Mathlib.Omega.{arith}
use lib.ListN.{length, take, drop, set, get_or, replicate, length-append, length-drop, take-append-drop, drop_of_length-le}
use lib.Seq.{length-take-le, take-suc, drop-cons, set_at, append_snoc, take_at, take-append-le, take-take, drop-append-add, drop-drop, get_or-take, get_or-drop}
use Rattle.graph.specs.Below.{table}
use Rattle.graph.proofs.Below.{length-table, table_more}
use Rattle.rules.specs.Call.{padded}
use Rattle.rules.proofs.Block.{Stands, stands_get_or}
use Rattle.memory.specs.Placed.{placed}

module _ {A : Type 0} where
  pub placed-none : (b : List A) (at : ℕ) → b ≡ placed b at []
  unfolding placed
  placed-none b at = sym (rw (append-nil, add-zero) (take-append-drop at b))

  module _ (b xs : List A) (at : ℕ) (room : at ≤ length b) where
    length_front : length (take at b ++ xs) ≡ at + length xs
    length_front = rw (length-append, length-take-le at b room)

    -- What is placed stands there (rules has the laws of `Stands`), and the rest is as it was.
    pub stands_placed : Stands (placed b at xs) at xs
    unfolding placed
    stands_placed =
        let behind = drop (at + length xs) b in
        record { before = take at b; behind = behind; is = append_assoc (take at b) xs behind; from = length-take-le at b room }

    pub take-placed : (k : ℕ) → k ≤ at → take k (placed b at xs) ≡ take k b
    unfolding placed
    take-placed k l =
        let n = length-take-le at b room in
        rw (append_assoc, take-append-le k (take at b) (xs ++ drop (at + length xs) b) (omega arith)) (take-take k at b l)

    pub drop-placed : (k : ℕ) → at + length xs ≤ k → drop k (placed b at xs) ≡ drop k b
    unfolding placed
    drop-placed k l =
        let n = at + length xs in
        let p = take at b ++ xs in
        let e : k ≡ length p + (k - n) = omega (arith, length_front) in
        rw e (drop-append-add p (drop n b) (k - n) ∙ drop-drop (k - n) n b ∙ ap (λ (i : ℕ). drop (i + (k - n)) b) (sym length_front))

    pub get_or-placed : (i : ℕ) (d : A) → i < length xs → get_or (placed b at xs) (at + i) d ≡ get_or xs i d
    get_or-placed i d l = stands_get_or stands_placed i d l

    pub get_or-placed-before : (i : ℕ) (d : A) → i < at → get_or (placed b at xs) i d ≡ get_or b i d
    get_or-placed-before i d l =
        sym (get_or-take at (placed b at xs) i d l) ∙ rw (take-placed at (omega arith)) (get_or-take at b i d l)

    pub get_or-placed-behind : (i : ℕ) (d : A) → at + length xs ≤ i → get_or (placed b at xs) i d ≡ get_or b i d
    get_or-placed-behind i d l =
        rw (← add-zero i) (sym (get_or-drop i (placed b at xs) 0 d) ∙ rw (drop-placed i l) (get_or-drop i b 0 d))

    -- What is placed over it, and is no shorter, leaves nothing of it.
    pub placed_over : (ys : List A) → length xs ≤ length ys → placed (placed b at xs) at ys ≡ placed b at ys
    unfolding placed
    placed_over ys l =
        ap₂ (λ (f r : List A). f ++ ys ++ r) (take-placed at (omega arith)) (drop-placed (at + length ys) (omega arith))

    -- Placed behind what was placed, both are placed as one.
    pub placed-twice : (k : ℕ) (ys : List A) → at + length xs ≡ k → placed (placed b at xs) k ys ≡ placed b at (xs ++ ys)
    unfolding placed
    placed-twice k ys e =
        let front = take_at (take at b ++ xs) (drop (at + length xs) b) k (length_front ∙ e) in
        let behind = drop-placed (k + length ys) (omega arith) in
        rw (front, behind, ← e, length-append, add_assoc, append_assoc (take at b) xs ys)

  -- One store more behind what was written.
  pub placed-more : (b xs : List A) (at i : ℕ) (v : A) → length xs ≡ i → at + i < length b → set (placed b at xs) (at + i) v ≡ placed b at (xs ++ (v ∷ []))
  unfolding placed
  placed-more b xs at i v e h =
      let p = take at b ++ xs in
      let l : length p ≡ at + i = omega (arith, length_front b xs at (omega arith)) in
      rw (e, drop-cons b (at + i) v h, set_at p (get_or b (at + i) v) (drop (suc (at + i)) b) v (at + i) l, length-append, e, ← append_assoc)
      (sym (rw (← add_assoc, add-one) (append_snoc p v (drop (suc (at + i)) b))))

  pub length-placed : (b xs : List A) (at : ℕ) → at + length xs ≤ length b → length (placed b at xs) ≡ length b
  unfolding placed
  length-placed b xs at h = simp (length-append, length-drop, length-take-le at b (omega arith)) (omega arith)

  -- What fills all of b leaves nothing of it.
  pub placed-whole : (b xs : List A) → length xs ≡ length b → placed b 0 xs ≡ xs
  unfolding placed
  placed-whole b xs e = rw (drop_of_length-le b {i = 0 + length xs} (omega arith)) (append-nil xs)

-- A table at the front: one element more.
pub table-front : (b now : List ℕ) (i v : ℕ) (f : ℕ → ℕ) → i < length b → now ≡ placed b 0 (table i f) → v ≡ f i →
    set now i v ≡ placed b 0 (table (i + 1) f)
table-front b now i v f h e g =
    ap₂ (λ (n : List ℕ) (k : ℕ). set n k v) e (sym (zero-add i)) ∙ placed-more b (table i f) 0 i v (length-table i f) (omega arith)
    ∙ ap (placed b 0) (rw (g, table_more))

-- A copy from the front of s: one element more.
pub taken_more : (b s now : List ℕ) (at i : ℕ) → i < length s → at + i < length b → now ≡ placed b at (take i s) →
    set now (at + i) (get_or s i 0) ≡ placed b at (take (i + 1) s)
taken_more b s now at i l h e =
    rw (e, placed-more b (take i s) at i (get_or s i 0) (length-take-le i s (omega arith)) h, add-one, take-suc s i 0 l)

-- What is written from the front into zeros has zeros behind it.
drop-replicate : {A : Type 0} (k n : ℕ) (a : A) → drop k (replicate n a) ≡ replicate (n - k) a
drop-replicate zero n a = rw sub-zero
drop-replicate (suc k) zero a = rw zero-sub
drop-replicate (suc k) (suc n) a = rw suc-sub-suc (drop-replicate k n a)

pub placed-padded : (n : ℕ) (xs : List ℕ) → placed (replicate n 0) 0 xs ≡ padded n xs
unfolding placed
placed-padded n xs = rw (zero-add, drop-replicate {A = ℕ} (length xs) n 0)
