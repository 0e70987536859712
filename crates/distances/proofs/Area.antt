-- Laws of Area.antt: what is written by one store and by a loop of them, and that two who write the same leave the same.
-- Every cell asked for is narrow: it lies in one of its line's 128 columns, so that a place has one line and one column.
use mathlib.Core.Path.{◌≡◌, refl, sym, ◌∙◌}
use mathlib.Core.Logic.Dec
use mathlib.Core.Logic.{◌↔◌, ◌≢◌, ◌⊎◌, inl, inr}
use mathlib.Core.List.{List}
use Prim.Native.Nat.{ℕ, ◌+◌, ◌*◌, ◌/◌, ◌%◌, ◌≤◌, ◌<◌}
use native.Mathlib.Nat.{mod-lt, div-add-mod}
use native.Mathlib.Decide.{map_dec, dec_le, dec_lt}
use native.Mathlib.Omega.{arith}
use lib.ListN.{length, set, length-set}
use lib.Seq.{get_or-set_same, get_or-set_other, ext_get_or}
use Rattle.distances.specs.Area.{cell_at, CellsWritten, New}

abbrev pub Asked : Type 1
Asked = ℕ → ℕ → Type 0

abbrev pub Narrow : Asked → Type 0
Narrow asked = (i j : ℕ) → asked i j → j < 128

-- One cell.
abbrev pub Cell : ℕ → ℕ → Asked
Cell i j a b = (a ≡ i) × (b ≡ j)

-- A place of the distance area is a cell of t types, or none of theirs.
pub cell-or-not : (t p : ℕ) → t ≤ 128 →
    ((i : ℕ) × (j : ℕ) × (i < t) × (j < t) × (p ≡ 128 * i + j)) ⊎ ((i j : ℕ) → i < t → j < t → p ≢ 128 * i + j)
cell-or-not t p few = elim (dec_lt (p / 128) t) [
  | yes h ↦ elim (dec_lt (p % 128) t) [
    | yes l ↦ inl (p / 128, p % 128, h, l, omega arith)
    | no f ↦ inr (λ i j a b e. omega arith)
  ]
  | no f ↦ inr (λ i j a b e. omega arith)
]

-- A cell that was not asked for is as it was.
pub cell-kept : {asked : Asked} {f : ℕ → ℕ → ℕ} {before after : List ℕ} → CellsWritten asked f before after → Narrow asked →
    (i j : ℕ) → j < 128 → ¬ asked i j → cell_at after i j ≡ cell_at before i j
cell-kept {asked} w narrow i j h other = w.kept (128 * i + j) (λ a b t e.
    let column = narrow a b t in
    let line : a ≡ i = omega arith in
    let same : b ≡ j = omega arith in
    other (rw (line, same) at t))

-- One store.
pub written_one : {f : ℕ → ℕ → ℕ} (area : List ℕ) (i j v : ℕ) → 128 * i + j < length area → v ≡ f i j →
    CellsWritten (Cell i j) f area (set area (128 * i + j) v)
written_one area i j v h e = record {
  size = length-set area (128 * i + j) v;
  holds = λ a b t. rw (t.0, t.1, e) (get_or-set_same area (128 * i + j) _ 0 h);
  kept = λ p other. get_or-set_other area (128 * i + j) p v 0 (other i j (refl, refl));
}

-- A loop passes the cells asked for by a number of theirs, such as the line or the column. Those passed at k.
pub record Passed (by : ℕ → ℕ → ℕ) (asked : Asked) (k i j : ℕ) : Type 0 where
  pub is : asked i j
  pub below : by i j < k

abbrev pub by_line : ℕ → ℕ → ℕ
by_line i j = i

abbrev pub by_column : ℕ → ℕ → ℕ
by_column i j = j

-- A turn from k to m writes the part that is passed between them.
pub record Stride (by : ℕ → ℕ → ℕ) (asked part : Asked) (k m : ℕ) : Type 0 where
  pub narrow : Narrow asked
  pub on : k ≤ m
  pub part-is : (i j : ℕ) → part i j ↔ (asked i j × (k ≤ by i j) × (by i j < m))

-- What is written at the next turn, and once all are passed. None are passed at first, which is plain arithmetic.
module _ {by : ℕ → ℕ → ℕ} {asked : Asked} {f : ℕ → ℕ → ℕ} {before area : List ℕ} {k : ℕ} (w : CellsWritten (Passed by asked k) f before area) where
  pub part-passed : {part : Asked} {g : ℕ → ℕ → ℕ} {after : List ℕ} {m : ℕ} → Stride by asked part k m → CellsWritten part g area after →
      ((i j : ℕ) → part i j → g i j ≡ f i j) → CellsWritten (Passed by asked m) f before after
  part-passed turn x same = record {
    size = x.size ∙ w.size;
    holds = λ i j t. elim (dec_lt (by i j) k) [
      | yes l ↦ cell-kept x (λ a b u. turn.narrow a b ((turn.part-is a b).0 u).0) i j (turn.narrow i j t.is)
          (λ u. omega (arith, ((turn.part-is i j).0 u).1)) ∙ w.holds i j (record { is = t.is; below = l })
      | no g ↦ let u = (turn.part-is i j).1 (t.is, omega arith, t.below) in x.holds i j u ∙ same i j u
    ];
    kept = λ p other. x.kept p (λ i j u. let t = (turn.part-is i j).0 u in other i j (record { is = t.0; below = t.2 }))
        ∙ w.kept p (λ i j t. other i j (record { is = t.is; below = omega (arith, t.below, turn.on) }));
  }

  pub cell-passed : {i j v : ℕ} → Stride by asked (Cell i j) k (k + 1) → 128 * i + j < length before → v ≡ f i j →
      CellsWritten (Passed by asked (k + 1)) f before (set area (128 * i + j) v)
  cell-passed {i} {j} {v} turn h e =
      part-passed turn (written_one {f = f} area i j v (omega (arith, w.size)) e) (λ a b t. refl)

  pub all-passed : ((i j : ℕ) → asked i j → by i j < k) → CellsWritten asked f before area
  all-passed all = record {
    size = w.size;
    holds = λ i j t. w.holds i j (record { is = t; below = all i j t });
    kept = λ p other. w.kept p (λ i j t. other i j t.is);
  }

-- Two who write the same numbers to the same cells leave the same.
pub written_once : {asked : Asked} {f : ℕ → ℕ → ℕ} {before a b : List ℕ} → Narrow asked → ((i j : ℕ) → Dec (asked i j)) →
    CellsWritten asked f before a → CellsWritten asked f before b → a ≡ b
written_once {asked} {f} {before} {a} {b} narrow dec w x = ext_get_or 0 a b (w.size ∙ sym x.size) (λ p h.
    rw (← div-add-mod p 128) (cells (p / 128) (p % 128) (mod-lt p (omega arith))))
  where
    cells : (i j : ℕ) → j < 128 → cell_at a i j ≡ cell_at b i j
    cells i j h = elim (dec i j) [
      | yes t ↦ w.holds i j t ∙ sym (x.holds i j t)
      | no other ↦ cell-kept w narrow i j h other ∙ sym (cell-kept x narrow i j h other)
    ]

-- New pairs: they are narrow, and it can be told which they are.
pub new-narrow : (from to : ℕ) → to ≤ 128 → Narrow (New from to)
new-narrow from to h i j t = omega (arith, t.last)

pub new_dec : (from to i j : ℕ) → Dec (New from to i j)
new_dec from to i j =
    map_dec (λ t. record { rising = t.0; first = t.1.0; last = t.1.1 }) (λ t. (t.rising, (t.first, t.last)))
    (Dec.and (dec_lt i j) (Dec.and (dec_le from j) (dec_lt j to)))
