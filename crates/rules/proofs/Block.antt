-- The result block: its length, where header, records, inferred rows and links stand in it, whatever is behind it, and that it is
-- bytes where its numbers fit 16 bits.
use mathlib.Core.Path.{◌≡◌, refl, ◌∙◌}
use mathlib.Core.Logic.{inl, inr, ⊎_elim}
use mathlib.Core.Bool.{Bool, true, false, cond, not}
use mathlib.Core.List.{List, [], ◌∷◌, ◌++◌, append_assoc, append-nil}
use Prim.Native.Nat.{ℕ, zero, suc, ◌+◌, ◌*◌, ◌-◌, ◌≤◌, ◌<◌}
use native.Mathlib.Nat.{suc-mul, add_assoc, add-zero, zero-add, not-suc-le-zero}
use native.Mathlib.Omega.{arith}
use lib.ListN.{length, get_or, take, drop, length-append, get_or-append}
use lib.Seq.{drop_at, get_or-append-add, take-append_seam}
use Rattle.graph.specs.Below.{gather, count}
use Rattle.graph.proofs.Below.{In, in_at, in_append, in_gather, last_or, sum_add, count_zero, count-all}
use Rattle.rules.specs.Job.{Bytes, word}
use Rattle.rules.specs.Types.{Node, inferred, node_at}
use Rattle.rules.specs.Links.{link_at}
use Rattle.rules.specs.Run.{Network}
use Rattle.rules.specs.Result.{words, records_offset, record_size, link_size, rows_offset, links_offset, block_length, header, record_of, sampled_in, block}
use Rattle.rules.specs.declared.Origin.{Origin}
use Rattle.rules.specs.declared.Origin.TheVariants.{Sampled, Inferred}

pub length-words : (xs : List ℕ) → length (words xs) ≡ 2 * length xs
unfolding words
length-words [] = refl
length-words (x ∷ xs) = omega (arith, length-words xs)

-- A number is read back from its two places, whatever its size; whether both are bytes is another question.
pub word-words : (xs : List ℕ) (k : ℕ) → word (words xs) (2 * k) ≡ get_or xs k 0
unfolding words
word-words [] k = refl
word-words (x ∷ xs) zero = omega arith
word-words (x ∷ xs) (suc k) =
    let e : 2 * suc k ≡ suc (suc (2 * k)) = omega arith in
    let g : suc (suc (2 * k)) + 1 ≡ suc (suc (2 * k + 1)) = omega arith in rw (e, g) (word-words xs k)

-- Numbers that fit 16 bits are written as bytes.
abbrev pub Fits16 : List ℕ → Type 0
Fits16 [] = Unit {0}
Fits16 (x ∷ xs) = (x < 65536) × Fits16 xs

pub words-bytes : (xs : List ℕ) → Fits16 xs → (y : ℕ) → In y (words xs) → y < 256
unfolding words
words-bytes [] f y h = absurd h
words-bytes (x ∷ xs) f y (inl e) = omega arith
words-bytes (x ∷ xs) f y (inr (inl e)) = omega arith
words-bytes (x ∷ xs) f y (inr (inr h)) = words-bytes xs f.1 y h

module _ {A : Type 0} where
  -- xs stands in b from a place on.
  pub record Stands (b : List A) (place : ℕ) (xs : List A) : Type 0 where
    pub before : List A
    pub behind : List A
    pub is : b ≡ before ++ (xs ++ behind)
    pub from : length before ≡ place

  -- A list stands in itself, and in what has more behind or before it.
  pub stands_all : (xs : List A) → Stands xs 0 xs
  stands_all xs = record { before = []; behind = []; is = rw append-nil; from = refl }

  pub stands_front : (xs ys : List A) → Stands (xs ++ ys) 0 xs
  stands_front xs ys = record { before = []; behind = ys; is = refl; from = refl }

  pub stands_rear : (xs ys : List A) {n : ℕ} → length xs ≡ n → Stands (xs ++ ys) n ys
  stands_rear xs ys e = record { before = xs; behind = []; is = rw append-nil; from = e }

  -- What stands in a part stands in the whole.
  pub stands_in : {b ys xs : List A} {n k place : ℕ} → Stands b n ys → Stands ys k xs → n + k ≡ place → Stands b place xs
  stands_in s r e = record {
    before = s.before ++ r.before;
    behind = r.behind ++ s.behind;
    is = s.is ∙ rw r.is (simp append_assoc);
    from = rw length-append (omega (arith, s.from, r.from));
  }

  -- It still does with more behind the whole.
  stands_more : {b xs : List A} {n : ℕ} → Stands b n xs → (c : List A) → Stands (b ++ c) n xs
  stands_more {b} s c = stands_in (stands_front b c) s (omega arith)

  -- What stands somewhere ends within the whole, is the part cut out there, and is found there element by element.
  pub stands_length : {b xs : List A} {n : ℕ} → Stands b n xs → n + length xs ≤ length b
  stands_length s = rw (s.is, length-append, length-append) (omega (arith, s.from))

  pub stands_part : {b xs : List A} {n : ℕ} → Stands b n xs → take (length xs) (drop n b) ≡ xs
  stands_part {b} {xs} {n} s = rw (s.is, drop_at s.before _ n s.from) (take-append_seam xs s.behind)

  pub stands_get_or : {b xs : List A} {n : ℕ} → Stands b n xs → (i : ℕ) (d : A) → i < length xs → get_or b (n + i) d ≡ get_or xs i d
  stands_get_or {b} {xs} {n} s i d h =
      rw (s.is, ← s.from) (get_or-append-add s.before (xs ++ s.behind) i d ∙ get_or-append xs s.behind d i h)

  -- Parts of equal size, one behind the other: the length of all, where part k stands, and element c of it.
  pub length-parts : (size n : ℕ) (f : ℕ → List A) → ((i : ℕ) → i < n → length (f i) ≡ size) → length (gather n f) ≡ n * size
  unfolding gather
  length-parts size zero f sized = omega arith
  length-parts size (suc n) f sized =
      rw length-append (omega (arith, suc-mul n size, length-parts size n f (λ i h. sized i (omega arith)), sized n (omega arith)))

  pub stands_gather : (size n : ℕ) (f : ℕ → List A) → ((i : ℕ) → i < n → length (f i) ≡ size) → (k : ℕ) → k < n → Stands (gather n f) (k * size) (f k)
  unfolding gather
  stands_gather size zero f sized k h = absurd (not-suc-le-zero h)
  stands_gather size (suc n) f sized k h =
      let before : (i : ℕ) → i < n → length (f i) ≡ size = λ i l. sized i (omega arith) in
      last_or (λ j. Stands (gather (suc n) f) (j * size) (f j)) n k h (stands_rear (gather n f) (f n) (length-parts size n f before))
      (λ l. stands_more (stands_gather size n f before k l) (f n))

  pub get_or-gather : (size n : ℕ) (f : ℕ → List A) → ((i : ℕ) → i < n → length (f i) ≡ size) → (k c : ℕ) (d : A) → k < n → c < size →
      get_or (gather n f) (k * size + c) d ≡ get_or (f k) c d
  get_or-gather size n f sized k c d h l = stands_get_or (stands_gather size n f sized k h) c d (rw (sized k h) l)

-- Number k of those that stand in b.
pub stands_word : (xs : List ℕ) {b : Bytes} {n : ℕ} → Stands b n (words xs) → (k : ℕ) → k < length xs → word b (n + 2 * k) ≡ get_or xs k 0
stands_word xs {n} s k h =
    let l : length (words xs) ≡ 2 * length xs = length-words xs in
    rw (add_assoc n (2 * k) 1, stands_get_or s (2 * k) 0 (omega arith), stands_get_or s (2 * k + 1) 0 (omega arith)) (word-words xs k)

-- The same of numbers between any bytes.
pub word-between : (pre xs post : List ℕ) (k : ℕ) → k < length xs → word (pre ++ words xs ++ post) (length pre + 2 * k) ≡ get_or xs k 0
word-between pre xs post k h = stands_word xs (stands_more (stands_rear pre (words xs) refl) post) k h

-- Three numbers, of a record or a link, read from b at a place.
pub record Three (b : Bytes) (place : ℕ) (xs : List ℕ) : Type 0 where
  pub one : word b place ≡ get_or xs 0 0
  pub two : word b (place + 2) ≡ get_or xs 1 0
  pub three : word b (place + 4) ≡ get_or xs 2 0

stands_three : (xs : List ℕ) {b : Bytes} {n : ℕ} → length xs ≡ 3 → Stands b n (words xs) → Three b n xs
stands_three xs {n} e s = record {
  one = rw add-zero at (stands_word xs s 0 (omega arith));
  two = stands_word xs s 1 (omega arith);
  three = stands_word xs s 2 (omega arith);
}

-- Of a network: how many types it has, and how many of them are sampled; the numbers of header, record and link; an inferred row.
abbrev pub type_count : Network → ℕ
type_count net = length net.types

abbrev pub sampled_count : Network → ℕ
sampled_count net = sampled_in net.types

abbrev pub header_of : ℕ → Network → List ℕ
header_of m net = header (type_count net) (sampled_count net) m (length net.links) net.rounds

abbrev pub record_numbers : Network → ℕ → List ℕ
record_numbers net k = record_of (node_at net.types k).origin (k - sampled_count net)

abbrev pub inferred_row : Network → ℕ → Bytes
inferred_row net i = (node_at net.types (sampled_count net + i)).row

abbrev pub link_numbers : Network → ℕ → List ℕ
link_numbers net k = (link_at net.links k).low ∷ (link_at net.links k).high ∷ (link_at net.links k).length ∷ []

-- Every inferred row has m states.
abbrev pub Wide : ℕ → Network → Type 0
Wide m net = (i : ℕ) → i < type_count net - sampled_count net → length (inferred_row net i) ≡ m

-- The four parts of the block.
abbrev head : ℕ → Network → Bytes
head m net = words (header_of m net)

abbrev record_bytes : Network → ℕ → Bytes
record_bytes net k = words (record_numbers net k)

abbrev link_bytes : Network → ℕ → Bytes
link_bytes net k = words (link_numbers net k)

abbrev records : Network → Bytes
records net = gather (type_count net) (record_bytes net)

abbrev inferred_rows : Network → Bytes
inferred_rows net = gather (type_count net - sampled_count net) (inferred_row net)

abbrev links : Network → Bytes
links net = gather (length net.links) (link_bytes net)

block-is : (m : ℕ) (net : Network) → block m net ≡ head m net ++ records net ++ inferred_rows net ++ links net
unfolding block
block-is m net = refl

pub three-numbers : (o : Origin) (i : ℕ) → length (record_of o i) ≡ 3
three-numbers (Sampled rows first) i = refl
three-numbers (Inferred round) i = refl

length_record : (net : Network) (k : ℕ) → length (record_numbers net k) ≡ 3
length_record net k = three-numbers (node_at net.types k).origin (k - sampled_count net)

record_size_lem : (net : Network) (k : ℕ) → k < type_count net → length (record_bytes net k) ≡ record_size
record_size_lem net k h = omega (arith, length-words (record_numbers net k), length_record net k)

link-size : (net : Network) (k : ℕ) → k < length net.links → length (link_bytes net k) ≡ link_size
link-size net k h = length-words (link_numbers net k)

length-head : (m : ℕ) (net : Network) → length (head m net) ≡ records_offset
length-head m net = length-words (header_of m net)

-- As long as all before the inferred rows, and all before the links.
to-rows : (m : ℕ) (net : Network) → length (head m net ++ records net) ≡ rows_offset (type_count net)
to-rows m net =
    rw length-append (omega (arith, length-head m net, length-parts record_size (type_count net) (record_bytes net) (record_size_lem net)))

to-links : (m : ℕ) (net : Network) → Wide m net → length (head m net ++ records net ++ inferred_rows net) ≡ links_offset (type_count net) (sampled_count net) m
to-links m net wide =
    rw length-append (omega (arith, to-rows m net, length-parts m (type_count net - sampled_count net) (inferred_row net) wide))

pub length-block : (m : ℕ) (net : Network) → Wide m net → length (block m net) ≡ block_length (type_count net) (sampled_count net) m (length net.links)
length-block m net wide =
    rw (block-is, length-append)
    (omega (arith, to-links m net wide, length-parts link_size (length net.links) (link_bytes net) (link-size net)))

-- Every field of the block where it stands at the front of b: by stands-all in the block itself, by stands-front with anything behind it.
module _ (m : ℕ) (net : Network) (b : Bytes) (front : Stands b 0 (block m net)) where
  pub header-word : (k : ℕ) → k < 8 → word b (2 * k) ≡ get_or (header_of m net) k 0
  unfolding block
  header-word k h =
      let s = stands_in front (stands_more (stands_more (stands_front (head m net) (records net)) _) _) refl in
      rw (zero-add (2 * k)) at (stands_word (header_of m net) s k h)

  pub record_words : (k : ℕ) → k < type_count net → Three b (records_offset + record_size * k) (record_numbers net k)
  unfolding block
  record_words k h =
      let s = stands_in front (stands_more (stands_more (stands_rear (head m net) (records net) (length-head m net)) _) _) refl in
      stands_three _ (length_record net k)
      (stands_in s (stands_gather record_size (type_count net) (record_bytes net) (record_size_lem net) k h) (omega arith))

  module _ (wide : Wide m net) where
    pub row_stands : (i : ℕ) → i < type_count net - sampled_count net → Stands b (rows_offset (type_count net) + i * m) (inferred_row net i)
    unfolding block
    row_stands i h =
        let s = stands_in front (stands_more (stands_rear (head m net ++ records net) (inferred_rows net) (to-rows m net)) _) refl in
        stands_in s (stands_gather m (type_count net - sampled_count net) (inferred_row net) wide i h) (omega arith)

    pub row_byte : (i c : ℕ) → i < type_count net - sampled_count net → c < m →
        get_or b (rows_offset (type_count net) + i * m + c) 0 ≡ get_or (inferred_row net i) c 0
    row_byte i c h l = stands_get_or (row_stands i h) c 0 (rw (wide i h) l)

    pub link-words : (k : ℕ) → k < length net.links → Three b (links_offset (type_count net) (sampled_count net) m + link_size * k) (link_numbers net k)
    unfolding block
    link-words k h =
        let s = stands_in front (stands_rear (head m net ++ records net ++ inferred_rows net) (links net) (to-links m net wide)) refl in
        stands_three (link_numbers net k) refl
        (stands_in s (stands_gather link_size (length net.links) (link_bytes net) (link-size net) k h) (omega arith))

-- Of sampled types with inferred ones behind them, the former are counted.
pub sampled_in-append : (xs ys : List Node) → ((x : Node) → In x xs → inferred x.origin ≡ false) → ((y : Node) → In y ys → inferred y.origin ≡ true) →
    sampled_in (xs ++ ys) ≡ length xs
sampled_in-append xs ys f g =
    let none : Node = record { row = []; origin = Sampled 0 0 } in
    let p : ℕ → Bool = λ k. not (inferred (node_at (xs ++ ys) k).origin) in
    let front : count (length xs) p ≡ length xs = count-all (length xs) p (λ i h. rw (get_or-append xs ys none i h, f _ (in_at xs i none h))) in
    let rear : count (length ys) (λ i. p (length xs + i)) ≡ 0 =
    count_zero (length ys) (λ i. p (length xs + i)) (λ i h. rw (get_or-append-add xs ys i none, g _ (in_at ys i none h))) in
    rw length-append (omega (arith, sum_add (length xs) (length ys) (λ k. cond (p k) 1 0)))

-- ── Bytes ──

-- Every number of the block fits 16 bits, and every state of an inferred row a byte.
pub record Fits (m : ℕ) (net : Network) : Type 0 where
  pub header-fits : Fits16 (header_of m net)
  pub record_fits : (k : ℕ) → k < type_count net → Fits16 (record_numbers net k)
  pub states_fit : (i : ℕ) → i < type_count net - sampled_count net → (x : ℕ) → In x (inferred_row net i) → x < 256
  pub link_fits : (k : ℕ) → k < length net.links → Fits16 (link_numbers net k)

-- Then the block is bytes.
pub block-bytes : (m : ℕ) (net : Network) → Fits m net → (x : ℕ) → In x (block m net) → x < 256
block-bytes m net f x h =
    ⊎_elim
    (λ p. ⊎_elim
    (λ q. ⊎_elim (words-bytes (header_of m net) f.header-fits x) (each (type_count net) (record_numbers net) f.record_fits)
    ((in_append x (head m net) (records net)).0 q))
    (λ r. let (i, l, g) = (in_gather x _ (inferred_row net)).0 r in f.states_fit i l x g)
    ((in_append x (head m net ++ records net) (inferred_rows net)).0 p))
    (each (length net.links) (link_numbers net) f.link_fits)
    ((in_append x (head m net ++ records net ++ inferred_rows net) (links net)).0 (rw block-is at h))
  where
    each : (n : ℕ) (g : ℕ → List ℕ) → ((k : ℕ) → k < n → Fits16 (g k)) → In x (gather n (λ k. words (g k))) → x < 256
    each n g fits h = let (k, l, i) = (in_gather x n (λ k. words (g k))).0 h in words-bytes (g k) (fits k l) x i
