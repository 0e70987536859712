-- Laws of State.antt: what stands where in the state area, what a store leaves, and that types are read back as they were stored.
use mathlib.Core.Path.{◌≡◌, refl, sym, ap, ap₂, ◌∙◌}
use mathlib.Core.Logic.{◌≢◌}
use mathlib.Core.Bool.{Bool, ◌&&◌}
use mathlib.Core.List.{List, [], ◌∷◌, ◌++◌, map-append}
use Prim.Native.Nat.{ℕ, zero, suc, ◌+◌, ◌*◌, ◌-◌, ◌≤◌, ◌<◌}
use native.Mathlib.Decide.{ℕ_discrete}
use native.Mathlib.Omega.{arith}
use lib.Dec.{eqb}
use lib.ListN.{length, get_or, drop, set, replicate, length-append, length-drop, length-set, length-map, length-replicate, get_or-replicate, get_or-append, get_or-map}
use lib.Seq.{length-take-le, get_or-take, get_or-drop, get_or-append_seam, get_or-set_same, get_or-set_other, map-set_same, ext_get_or}
use Rattle.graph.specs.Below.{gather, given, only, first}
use Rattle.graph.proofs.Below.{table_ext, length-table, get_or-table, table-get_or, first-is, first_le, first-before, first-hits}
use Rattle.graph.proofs.Spread.{spread-append, spread-kept}
use Rattle.rules.specs.Job.{Bytes, Row}
use Rattle.rules.specs.Types.{Node, row_at, node_at, rows_of, is_same_row}
use Rattle.rules.specs.declared.Kind.{Kind}
use Rattle.rules.proofs.Rows.{same_row}
use Rattle.rules.proofs.Block.{Stands, stands_in, stands_part, stands_get_or, length-parts, stands_gather}
use Rattle.memory.specs.Placed.{placed}
use Rattle.memory.proofs.Placed.{placed-none, stands_placed, placed-twice}
use Rattle.types.specs.State.{stored, stored_at, laid, blank, kind_of, kinds_of, row_in, nodes_in}

-- The 64 bytes of type i.
module _ (area : Bytes) (i : ℕ) where
  pub length-stored_at : 64 * i + 64 ≤ length area → length (stored_at area i) ≡ 64
  length-stored_at h = length-take-le 64 (drop (64 * i) area) (rw length-drop (omega arith))

  pub stored_at-state : (c : ℕ) → c < 64 → get_or (stored_at area i) c 0 ≡ get_or area (64 * i + c) 0
  stored_at-state c h = rw (get_or-take, get_or-drop)

  -- They are the bytes that they equal one by one.
  pub stored_at-is : (bs : Bytes) → length bs ≡ 64 → 64 * i + 64 ≤ length area →
      ((c : ℕ) → c < 64 → get_or area (64 * i + c) 0 ≡ get_or bs c 0) → stored_at area i ≡ bs
  stored_at-is bs l h e =
      let n = length-stored_at h in
      ext_get_or 0 _ bs (n ∙ sym l) (λ c g. let k : c < 64 = omega arith in stored_at-state c k ∙ e c k)

-- A stored row is 64 bytes, with the row's states in front. Rows of one width are equal as stored just where they are equal.
pub length-stored : (r : Row) → length r ≤ 64 → length (stored r) ≡ 64
length-stored r h = simp (length-append, length-replicate) (omega arith)

pub stored-state : (r : Row) (c : ℕ) → c < length r → get_or (stored r) c 0 ≡ get_or r c 0
stored-state r c h = get_or-append r (replicate (64 - length r) 0) 0 c h

same-before : (u v z : Row) → length u ≡ length v → is_same_row (u ++ z) (v ++ z) ≡ is_same_row u v
unfolding is_same_row
same-before [] [] z e = (same_row z z).1 refl
same-before [] (y ∷ v) z e = absurd (omega arith)
same-before (x ∷ u) [] z e = absurd (omega arith)
same-before (x ∷ u) (y ∷ v) z e = ap (λ (t : Bool). eqb x y && t) (same-before u v z (omega arith))

pub stored_same : (u v : Row) → length u ≡ length v → is_same_row (stored u) (stored v) ≡ is_same_row u v
stored_same u v e = rw e (same-before u v (replicate (64 - length v) 0) e)

-- Every row has m states.
abbrev pub OfWidth : ℕ → List Row → Type 0
OfWidth m rs = (i : ℕ) → i < length rs → length (row_at rs i) ≡ m

-- No rows, rows behind others, and one row more.
pub laid_both : (xs ys : List Row) → laid (xs ++ ys) ≡ laid xs ++ laid ys
unfolding laid
laid_both xs ys = spread-append stored [] xs ys

pub laid-append : (rs : List Row) (r : Row) → laid (rs ++ (r ∷ [])) ≡ laid rs ++ stored r
unfolding laid gather
laid-append rs r = laid_both rs (r ∷ [])

pub laid_none : (b : Bytes) → b ≡ placed b 0 (laid [])
unfolding laid gather
laid_none b = placed-none b 0

-- Rows chosen by a test.
pub laid-gather : (n : ℕ) (p : ℕ → Bool) (f : ℕ → Row) → laid (gather n (λ k. only (p k) (f k))) ≡ gather n (λ k. given (p k) (stored (f k)))
unfolding laid
laid-gather n p f = spread-kept stored [] n p f

-- Rows of one width, at most 64, in the state area.
module _ (m : ℕ) (rs : List Row) (small : m ≤ 64) (wide : OfWidth m rs) where
  row-stored : (i : ℕ) → i < length rs → length (stored (row_at rs i)) ≡ 64
  row-stored i h = length-stored (row_at rs i) (omega (arith, wide i h))

  pub length-laid : length (laid rs) ≡ 64 * length rs
  unfolding laid
  length-laid = omega (arith, length-parts 64 (length rs) (λ i. stored (row_at rs i)) row-stored)

  module _ (b : Bytes) where
    pub laid_more : (r : Row) → placed (placed b 0 (laid rs)) (64 * length rs) (stored r) ≡ placed b 0 (laid (rs ++ (r ∷ [])))
    laid_more r = rw laid-append (placed-twice b (laid rs) 0 (omega arith) (64 * length rs) (stored r) (omega (arith, length-laid)))

    laid_stands : (i : ℕ) → i < length rs → Stands (placed b 0 (laid rs)) (64 * i) (stored (row_at rs i))
    unfolding laid
    laid_stands i h =
        let s = stands_gather 64 (length rs) (λ i. stored (row_at rs i)) row-stored i h in
        stands_in (stands_placed b (laid rs) 0 (omega arith)) s (omega arith)

    pub laid-at : (i : ℕ) → i < length rs → stored_at (placed b 0 (laid rs)) i ≡ stored (row_at rs i)
    laid-at i h = rw (row-stored i h) at (stands_part (laid_stands i h))

    pub laid-state : (i c : ℕ) → i < length rs → c < m → get_or (placed b 0 (laid rs)) (64 * i + c) 0 ≡ get_or (row_at rs i) c 0
    laid-state i c h l =
        stands_get_or (laid_stands i h) c 0 (omega (arith, row-stored i h)) ∙ stored-state (row_at rs i) c (omega (arith, wide i h))

    pub laid_same : (i : ℕ) (r : Row) → i < length rs → length r ≡ m → is_same_row (stored_at (placed b 0 (laid rs)) i) (stored r) ≡ is_same_row (row_at rs i) r
    laid_same i r h e = rw (laid-at i h) (stored_same (row_at rs i) r (wide i h ∙ sym e))

    -- So the first type with a row is found by comparing what is stored.
    pub laid-first : (r : Row) → length r ≡ m →
        first (length rs) (λ i. is_same_row (stored_at (placed b 0 (laid rs)) i) (stored r)) ≡ first (length rs) (λ i. is_same_row (row_at rs i) r)
    laid-first r e =
        let n = length rs in
        let q : ℕ → Bool = λ i. is_same_row (row_at rs i) r in
        let w = first_le n q in
        first-is n _ (first n q) w (λ i h. laid_same i r (omega arith) e ∙ first-before n q i h) (λ h. laid_same (first n q) r h e ∙ first-hits n q h)

    pub row_back : (i : ℕ) → i < length rs → row_in m (placed b 0 (laid rs)) i ≡ row_at rs i
    unfolding row_in
    row_back i h = table_ext m _ (λ c. get_or (row_at rs i) c 0) (λ c l. laid-state i c h l) ∙ rw (← wide i h) (table-get_or (row_at rs i) 0)

-- The kinds of types: what one of them is, and after a store.
pub length-kinds : (ts : List Node) → length (kinds_of ts) ≡ 128
unfolding kinds_of
length-kinds ts = length-table 128 (λ i. kind_of (node_at ts i))

pub kinds-at : (ts : List Node) (i : ℕ) → i < 128 → get_or (kinds_of ts) i blank ≡ kind_of (node_at ts i)
unfolding kinds_of
kinds-at ts i h = get_or-table 128 (λ i. kind_of (node_at ts i)) i blank h

pub kinds-is : (ks : List Kind) (ts : List Node) → length ks ≡ 128 → ((i : ℕ) → i < 128 → get_or ks i blank ≡ kind_of (node_at ts i)) → ks ≡ kinds_of ts
kinds-is ks ts l e =
    ext_get_or blank ks (kinds_of ts) (l ∙ sym (length-kinds ts)) (λ i h. let k : i < 128 = omega arith in e i k ∙ sym (kinds-at ts i k))

pub kinds-none : replicate 128 blank ≡ kinds_of []
kinds-none = kinds-is (replicate 128 blank) [] (length-replicate 128 blank) (λ i h. get_or-replicate 128 i blank blank h)

-- Where type i becomes t, and no other type changes.
kinds_store : (ts us : List Node) (i : ℕ) (t : Node) → node_at us i ≡ t → ((j : ℕ) → j ≢ i → node_at us j ≡ node_at ts j) →
    set (kinds_of ts) i (kind_of t) ≡ kinds_of us
kinds_store ts us i t here other =
    kinds-is (set (kinds_of ts) i (kind_of t)) us (length-set (kinds_of ts) i (kind_of t) ∙ length-kinds ts) (λ j h. elim (ℕ_discrete j i) [
      | yes e ↦ rw (e, get_or-set_same (kinds_of ts) i (kind_of t) blank (omega (arith, length-kinds ts)), here)
      | no ne ↦ get_or-set_other (kinds_of ts) i j (kind_of t) blank ne ∙ kinds-at ts j h ∙ ap kind_of (sym (other j ne))
    ])

get_or-other : {A : Type 0} (xs : List A) (x : A) (j : ℕ) (d : A) → j ≢ length xs → get_or (xs ++ (x ∷ [])) j d ≡ get_or xs j d
get_or-other [] x zero d ne = absurd (ne refl)
get_or-other [] x (suc j) d ne = refl
get_or-other (y ∷ xs) x zero d ne = refl
get_or-other (y ∷ xs) x (suc j) d ne = get_or-other xs x j d (omega arith)

pub kinds-more : (ts : List Node) (t : Node) → set (kinds_of ts) (length ts) (kind_of t) ≡ kinds_of (ts ++ (t ∷ []))
kinds-more ts t = kinds_store ts (ts ++ (t ∷ [])) (length ts) t (get_or-append_seam ts t [] _) (λ j ne. get_or-other ts t j _ ne)

pub kinds-set : (ts : List Node) (i : ℕ) (t : Node) → i < length ts → set (kinds_of ts) i (kind_of t) ≡ kinds_of (set ts i t)
kinds-set ts i t h = kinds_store ts (set ts i t) i t (get_or-set_same ts i t _ h) (λ j ne. get_or-set_other ts i j t _ ne)

-- The rows of types, of one more, and of types of which one changed but not in its row.
pub row_of : (ts : List Node) (i : ℕ) → row_at (rows_of ts) i ≡ (node_at ts i).row
row_of ts i = get_or-map (λ (t : Node). t.row) ts i _

pub rows_more : (ts : List Node) (t : Node) → rows_of (ts ++ (t ∷ [])) ≡ rows_of ts ++ (t.row ∷ [])
rows_more ts t = map-append (λ (t : Node). t.row) ts (t ∷ [])

pub rows-set : (ts : List Node) (i : ℕ) (t : Node) → t.row ≡ (node_at ts i).row → rows_of (set ts i t) ≡ rows_of ts
rows-set ts i t e = map-set_same (λ (t : Node). t.row) ts i t _ e

-- Types are read back as they were stored.
pub read_back : (m : ℕ) (ts : List Node) → m ≤ 64 → OfWidth m (rows_of ts) → (b : Bytes) → length ts ≤ 128 →
    nodes_in m (length ts) (placed b 0 (laid (rows_of ts))) (kinds_of ts) ≡ ts
unfolding nodes_in
read_back m ts small wide b few =
    let made : Row → Kind → Node = λ r k. record { row = r; origin = k.origin } in
    table_ext (length ts) _ (node_at ts)
    (λ i h. ap₂ made (row_back m (rows_of ts) small wide b i (rw length-map h) ∙ row_of ts i) (kinds-at ts i (omega arith)))
    ∙ table-get_or ts _
