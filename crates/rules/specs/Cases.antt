-- RULES 16.1: the P cases as one table, the bounds of some refusals, and a few jobs on which slips show that the P cases do not see (an
-- independent program gave their texts). One claim of proofs/Table.antt proves the table.
use Rattle.std.specs.Prelude.{Bool, true, false, ◌&&◌, not, List, [], ◌∷◌, ◌++◌, ℕ, ◌+◌, ◌*◌, length, get_or}
use Prim.Native.String.{String}
use Rattle.graph.specs.Below.{gather}
use Rattle.rules.specs.Job.{Bytes, width, weights, job_rows}
use Rattle.rules.specs.Lent.{least}
use Rattle.rules.specs.Types.{is_same_row}
use Rattle.rules.specs.Links.{links_at, linked}
use Rattle.rules.specs.Result.{words}
use Rattle.rules.specs.Call.{written, verdict}
use Rattle.rules.specs.Text.{text, printed}

-- RULES 2, 16.1: a job block, written from rows, weights and epsilon.
unfoldable pub job : List String → List ℕ → ℕ → Bytes
job rows ws e =
    let n = length rows in
    let m = length ws in
    words (n ∷ m ∷ e ∷ 12 ∷ (12 + 2 * m) ∷ (12 + 2 * m + n * m) ∷ []) ++ words ws ++ gather n (λ k. text (get_or rows k ""))

-- RULES 16.1: three kinds of cases.
infix 2 ◌prints◌ ◌writes◌
pub data Case : Type 0 where
  -- the job is answered by this text
  ◌prints◌ : Bytes → String → Case
  -- the job's result block is these bytes
  ◌writes◌ : Bytes → List ℕ → Case
  -- whether types i and j of the job are linked at an epsilon
  links : Bytes → ℕ → ℕ → ℕ → Bool → Case

abbrev same : Bool → Bool → Bool
same true b = b
same false b = not b

-- RULES 16.1: a case holds, and so do all of a list.
unfoldable pub holds : Case → Bool
holds (b prints s) = is_same_row (printed least b) (text s)
holds (b writes xs) = is_same_row (written (width b) (verdict least b)) xs
holds (links b e i j x) = same x (linked (links_at (weights b) e (job_rows b)) i j)

unfoldable pub all_hold : List Case → Bool
all_hold [] = true
all_hold (c ∷ cs) = holds c && all_hold cs

abbrev p5 : ℕ → Bytes
p5 e = job ("110" ∷ "101" ∷ "011" ∷ []) (1 ∷ 1 ∷ 1 ∷ []) e

abbrev p7 : Bytes
p7 = job ("A100" ∷ "B010" ∷ "C001" ∷ []) (1 ∷ 1 ∷ 1 ∷ 1 ∷ []) 0

abbrev p8 : ℕ → Bytes
p8 e = job ("00" ∷ "01" ∷ "11" ∷ []) (1 ∷ 1 ∷ []) e

-- RULES 16.1: the table.
unfoldable pub cases : List Case
cases =
    -- P1, P2, P3, P4
    (job ("A" ∷ []) (1 ∷ []) 0 prints "types 1 sampled 1 links 0 rounds 0\nT 0 S 1 A\n")
    ∷ (job ("AC" ∷ "AC" ∷ []) (1 ∷ 1 ∷ []) 0 prints "types 1 sampled 1 links 0 rounds 0\nT 0 S 2 AC\n")
    ∷ (job ("A" ∷ "B" ∷ []) (7 ∷ []) 0 prints "types 2 sampled 2 links 1 rounds 0\nT 0 S 1 A\nT 1 S 1 B\nL 0 1 7\n")
    ∷ (job ("A" ∷ "B" ∷ "C" ∷ []) (1 ∷ []) 0 prints "types 3 sampled 3 links 3 rounds 0\nT 0 S 1 A\nT 1 S 1 B\nT 2 S 1 C\nL 0 1 1\nL 0 2 1\nL 1 2 1\n")
    -- P5, P6, P7
    ∷ (p5 0 prints "types 4 sampled 3 links 3 rounds 1\nT 0 S 1 110\nT 1 S 1 101\nT 2 S 1 011\nT 3 I 1 111\nL 0 3 1\nL 1 3 1\nL 2 3 1\n")
    ∷ (p5 1 prints "types 4 sampled 3 links 3 rounds 1\nT 0 S 1 110\nT 1 S 1 101\nT 2 S 1 011\nT 3 I 1 111\nL 0 3 1\nL 1 3 1\nL 2 3 1\n")
    ∷ (p7 prints "types 6 sampled 3 links 6 rounds 1\nT 0 S 1 A100\nT 1 S 1 B010\nT 2 S 1 C001\nT 3 I 1 A000\nT 4 I 1 B000\nT 5 I 1 C000\nL 0 3 1\nL 1 4 1\nL 2 5 1\nL 3 4 1\nL 3 5 1\nL 4 5 1\n")
    -- the result blocks of P5 and P7, byte by byte
    ∷ (p5 0 writes (4 ∷ 0 ∷ 3 ∷ 0 ∷ 3 ∷ 0 ∷ 3 ∷ 0 ∷ 1 ∷ 0 ∷ 16 ∷ 0 ∷ 40 ∷ 0 ∷ 43 ∷ 0 ∷ 1 ∷ 0 ∷ 0 ∷ 0 ∷ 0 ∷ 0 ∷ 1 ∷ 0 ∷ 1 ∷ 0 ∷ 0 ∷ 0 ∷ 1 ∷ 0 ∷ 2 ∷ 0 ∷ 0 ∷ 0 ∷ 0 ∷ 0 ∷ 0 ∷ 0 ∷ 1 ∷ 0 ∷ 49 ∷ 49 ∷ 49 ∷ 0 ∷ 0 ∷ 3 ∷ 0 ∷ 1 ∷ 0 ∷ 1 ∷ 0 ∷ 3 ∷ 0 ∷ 1 ∷ 0 ∷ 2 ∷ 0 ∷ 3 ∷ 0 ∷ 1 ∷ 0 ∷ []))
    ∷ (p7 writes (6 ∷ 0 ∷ 3 ∷ 0 ∷ 4 ∷ 0 ∷ 6 ∷ 0 ∷ 1 ∷ 0 ∷ 16 ∷ 0 ∷ 52 ∷ 0 ∷ 64 ∷ 0 ∷ 1 ∷ 0 ∷ 0 ∷ 0 ∷ 0 ∷ 0 ∷ 1 ∷ 0 ∷ 1 ∷ 0 ∷ 0 ∷ 0 ∷ 1 ∷ 0 ∷ 2 ∷ 0 ∷ 0 ∷ 0 ∷ 0 ∷ 0 ∷ 0 ∷ 0 ∷ 1 ∷ 0 ∷ 0 ∷ 0 ∷ 1 ∷ 0 ∷ 1 ∷ 0 ∷ 0 ∷ 0 ∷ 2 ∷ 0 ∷ 1 ∷ 0 ∷ 65 ∷ 48 ∷ 48 ∷ 48 ∷ 66 ∷ 48 ∷ 48 ∷ 48 ∷ 67 ∷ 48 ∷ 48 ∷ 48 ∷ 0 ∷ 0 ∷ 3 ∷ 0 ∷ 1 ∷ 0 ∷ 1 ∷ 0 ∷ 4 ∷ 0 ∷ 1 ∷ 0 ∷ 2 ∷ 0 ∷ 5 ∷ 0 ∷ 1 ∷ 0 ∷ 3 ∷ 0 ∷ 4 ∷ 0 ∷ 1 ∷ 0 ∷ 3 ∷ 0 ∷ 5 ∷ 0 ∷ 1 ∷ 0 ∷ 4 ∷ 0 ∷ 5 ∷ 0 ∷ 1 ∷ 0 ∷ []))
    -- P8, and P8 at epsilon 1, which is drawn alike: the last links are those at epsilon 0; then the pair 0-2 at both epsilons
    ∷ (p8 0 prints "types 3 sampled 3 links 2 rounds 0\nT 0 S 1 00\nT 1 S 1 01\nT 2 S 1 11\nL 0 1 1\nL 1 2 1\n")
    ∷ (p8 1 prints "types 3 sampled 3 links 2 rounds 0\nT 0 S 1 00\nT 1 S 1 01\nT 2 S 1 11\nL 0 1 1\nL 1 2 1\n")
    ∷ links (p8 0) 1 0 2 true
    ∷ links (p8 0) 0 0 2 false
    -- P9, P10: weights 1,000, 1,001 and 0
    ∷ (job ("A" ∷ []) (1000 ∷ []) 0 prints "types 1 sampled 1 links 0 rounds 0\nT 0 S 1 A\n")
    ∷ (job ("A" ∷ []) (1001 ∷ []) 0 prints "refused 6 0\n")
    ∷ (job ("A" ∷ []) (0 ∷ []) 0 prints "refused 6 0\n")
    -- P11: states 33, 126, 32 and 127
    ∷ (job ("!" ∷ []) (1 ∷ []) 0 prints "types 1 sampled 1 links 0 rounds 0\nT 0 S 1 !\n")
    ∷ (job ("~" ∷ []) (1 ∷ []) 0 prints "types 1 sampled 1 links 0 rounds 0\nT 0 S 1 ~\n")
    ∷ (job (" " ∷ []) (1 ∷ []) 0 prints "refused 7 0\n")
    ∷ (job ("\u{7f}" ∷ []) (1 ∷ []) 0 prints "refused 7 0\n")
    -- the table of refusals: no byte; 0 and 257 rows; widths 0 and 65; each field wrong; a header alone
    ∷ ([] prints "refused 2 0\n")
    ∷ (words (0 ∷ 1 ∷ 0 ∷ 12 ∷ 14 ∷ 14 ∷ []) prints "refused 3 0\n")
    ∷ (words (257 ∷ 1 ∷ 0 ∷ 12 ∷ 14 ∷ 271 ∷ []) prints "refused 3 0\n")
    ∷ (words (1 ∷ 0 ∷ 0 ∷ 12 ∷ 12 ∷ 12 ∷ []) prints "refused 4 2\n")
    ∷ (words (1 ∷ 65 ∷ 0 ∷ 12 ∷ 142 ∷ 207 ∷ []) prints "refused 4 2\n")
    ∷ (words (1 ∷ 1 ∷ 0 ∷ 13 ∷ 15 ∷ 16 ∷ []) prints "refused 5 6\n")
    ∷ (words (1 ∷ 1 ∷ 0 ∷ 12 ∷ 15 ∷ 16 ∷ []) prints "refused 5 8\n")
    ∷ (words (1 ∷ 1 ∷ 0 ∷ 12 ∷ 14 ∷ 16 ∷ []) prints "refused 5 10\n")
    ∷ (words (1 ∷ 1 ∷ 0 ∷ 12 ∷ 14 ∷ 15 ∷ []) prints "refused 5 12\n")
    ∷ (words (256 ∷ 64 ∷ 0 ∷ 12 ∷ 140 ∷ 16524 ∷ []) prints "refused 5 12\n")
    -- slips that the cases above do not see: lambda over all triplets
    ∷ (job ("CT" ∷ "CG" ∷ "AC" ∷ "C-" ∷ []) (852 ∷ 124 ∷ []) 0 prints "types 5 sampled 4 links 7 rounds 1\nT 0 S 1 CT\nT 1 S 1 CG\nT 2 S 1 AC\nT 3 S 1 C-\nT 4 I 1 CC\nL 0 1 124\nL 0 3 124\nL 0 4 124\nL 1 3 124\nL 1 4 124\nL 2 4 852\nL 3 4 124\n")
    -- a round that adds candidates of cost lambda alone
    ∷ (job ("TC" ∷ "CA" ∷ "GG" ∷ "CG" ∷ []) (3 ∷ 4 ∷ []) 1 prints "types 6 sampled 4 links 8 rounds 1\nT 0 S 1 TC\nT 1 S 1 CA\nT 2 S 1 GG\nT 3 S 1 CG\nT 4 I 1 CC\nT 5 I 1 TG\nL 0 4 3\nL 0 5 4\nL 1 3 4\nL 1 4 4\nL 2 3 3\nL 2 5 3\nL 3 4 4\nL 3 5 3\n")
    -- a purge of types with at most one link, or at most three
    ∷ (job ("AT-C" ∷ "GATC" ∷ "GCCC" ∷ "GCA-" ∷ []) (1 ∷ 4 ∷ 6 ∷ 10 ∷ []) 1 prints "types 7 sampled 4 links 9 rounds 2\nT 0 S 1 AT-C\nT 1 S 1 GATC\nT 2 S 1 GCCC\nT 3 S 1 GCA-\nT 4 I 2 GC-C\nT 5 I 2 GCAC\nT 6 I 2 GCTC\nL 0 4 5\nL 1 6 4\nL 2 4 6\nL 2 5 6\nL 2 6 6\nL 3 5 10\nL 4 5 6\nL 4 6 6\nL 5 6 6\n")
    ∷ (job ("TC" ∷ "AA" ∷ "GC" ∷ []) (3 ∷ 3 ∷ []) 0 prints "types 4 sampled 3 links 4 rounds 1\nT 0 S 1 TC\nT 1 S 1 AA\nT 2 S 1 GC\nT 3 I 1 AC\nL 0 2 3\nL 0 3 3\nL 1 3 3\nL 2 3 3\n")
    -- Phase II without its purge
    ∷ (job ("~~!!!!" ∷ "!!~~!!" ∷ "!~~!!~" ∷ "~!~!~!" ∷ "~!~~~~" ∷ []) (3 ∷ 4 ∷ 4 ∷ 3 ∷ 4 ∷ 4 ∷ []) 1 prints "types 7 sampled 5 links 6 rounds 2\nT 0 S 1 ~~!!!!\nT 1 S 1 !!~~!!\nT 2 S 1 !~~!!~\nT 3 S 1 ~!~!~!\nT 4 S 1 ~!~~~~\nT 5 I 1 ~!~~~!\nT 6 I 2 !~~!!!\nL 0 6 7\nL 1 5 7\nL 1 6 7\nL 2 6 4\nL 3 5 3\nL 4 5 4\n")
    ∷ []
