-- What holds of the state of a run at every moment: the sampled types stand first, in their order, and the inferred ones behind
-- them; all rows have one width, and in each character only states that sampled rows have there; at most 128 types were ever
-- made, at least one in each round.
use mathlib.Core.Path.{◌≡◌, refl, sym, ap, ap₂, ◌∙◌}
use mathlib.Core.Logic.{◌↔◌, ◌≢◌, ⊎_elim}
use mathlib.Core.Bool.{Bool, false, not}
use mathlib.Core.List.{List, [], ◌∷◌, ◌++◌, map, append_assoc, append-nil}
use Prim.Native.Nat.{ℕ, ◌+◌, ◌≤◌, ◌<◌}
use native.Mathlib.Omega.{arith}
use lib.ListN.{length, get_or, length-append, get_or-append}
use lib.Seq.{get_or-append-add}
use Rattle.graph.specs.Below.{gather, only}
use Rattle.graph.proofs.Below.{In, in_append, in_at, in_gather, in_only, in_map, gather_add, gather_ext, table-get_or, each-place, gather-table, empty}
use Rattle.rules.specs.Job.{Row}
use Rattle.rules.specs.Types.{Node, InferredBy, inferred, row_at, node_at, rows_of, sampled_at, sampled}
use Rattle.rules.specs.Purge.{Run, obsolete, purge_once, Purges, purge}
use Rattle.rules.specs.Round.{made, offers}
use Rattle.rules.specs.Run.{settled, start, fresh, grown, PhaseOne}
use Rattle.rules.specs.declared.Link.{Link}
use Rattle.rules.specs.declared.Origin.TheVariants.{Sampled, Inferred}
use Rattle.rules.proofs.Types.{in_sampled, sampled-sampled}
use Rattle.rules.proofs.Rounds.{added_offered, added-some, offer_width, offer_states}
use Rattle.rules.proofs.Keeps.{purges-keeps, phase_keeps, made-count, made-once, made-grown}
use Rattle.rules.proofs.Ends.{purges}

-- A property of the rows of nodes: of each number, and of each node.
abbrev pub EachRow : (Row → Type 0) → List Node → Type 0
EachRow R ts = (i : ℕ) → i < length (rows_of ts) → R (row_at (rows_of ts) i)

pub each_row : (R : Row → Type 0) (ts : List Node) → EachRow R ts ↔ ((t : Node) → In t ts → R t.row)
each_row R ts =
    let s = each-place R (rows_of ts) [] in (
      λ f t h. s.0 f t.row ((in_map t.row (λ (t : Node). t.row) ts).1 (t, h, refl)),
      λ f. s.1 (λ x h. let (t, i, e) = (in_map x (λ (t : Node). t.row) ts).0 h in rw e (f t i)),
    )

-- Some row of rs has state x in character c; of a row of m states, each is so.
abbrev pub Held : List Row → ℕ → ℕ → Type 0
Held rs c x = (k : ℕ) × (k < length rs) × (x ≡ get_or (row_at rs k) c 0)

abbrev pub AllHeld : List Row → ℕ → Row → Type 0
AllHeld rs m r = (c : ℕ) → c < m → Held rs c (get_or r c 0)

pub record Sound (rs : List Row) (m : ℕ) (run : Run) : Type 0 where
  -- the current types behind the sampled ones
  pub later : List Node
  pub current-is : run.current ≡ sampled rs ++ later
  pub later-inferred : (t : Node) → In t later → InferredBy run.rounds t.origin
  pub widths : EachRow (λ r. length r ≡ m) run.current
  pub states : EachRow (AllHeld rs m) run.current
  pub room : length (made run) ≤ 128
  -- each round made a type
  pub rounds-made : run.rounds ≤ length (made run)

-- What holds of all rows holds of the rows of their types.
pub rows-sampled : (R : Row → Type 0) (rs : List Row) → ((i : ℕ) → i < length rs → R (row_at rs i)) → EachRow R (sampled rs)
unfolding sampled_at
rows-sampled R rs each = (each_row R (sampled rs)).1 (λ t h. let (k, l, e) = in_sampled rs t h in rw e (each k l))

-- A run begins with the sampled types alone.
pub sound-start : (rs : List Row) (m : ℕ) → ((i : ℕ) → i < length rs → length (row_at rs i) ≡ m) → length (sampled rs) ≤ 128 → Sound rs m (start rs)
sound-start rs m each room = record {
  later = [];
  current-is = sym (append-nil (sampled rs));
  later-inferred = λ t h. absurd h;
  widths = rows-sampled (λ r. length r ≡ m) rs each;
  states = rows-sampled (AllHeld rs m) rs (λ k h c l. (k, h, refl));
  room = omega (arith, made-count (start rs));
  rounds-made = omega arith;
}

-- The nodes whose numbers pass a test.
abbrev kept : (ℕ → Bool) → List Node → List Node
kept p ts = gather (length ts) (λ i. only (p i) (node_at ts i))

kept_in : (p : ℕ → Bool) (ts : List Node) (t : Node) → In t (kept p ts) → In t ts
kept_in p ts t h =
    let (i, l, g) = (in_gather t (length ts) (λ i. only (p i) (node_at ts i))).0 h in
    rw ((in_only t (p i) (node_at ts i)).0 g).1 (in_at ts i _ l)

rows-kept : (R : Row → Type 0) (p : ℕ → Bool) (ts : List Node) → EachRow R ts → EachRow R (kept p ts)
rows-kept R p ts each = (each_row R (kept p ts)).1 (λ t h. (each_row R ts).0 each t (kept_in p ts t h))

abbrev keeps : List Link → List Node → ℕ → Bool
keeps ls ts i = not (obsolete ts ls i)

-- Of nodes the first of which are sampled, a purge keeps those in place.
kept-first : (ls : List Link) (xs ys : List Node) → ((t : Node) → In t xs → inferred t.origin ≡ false) →
    kept (keeps ls (xs ++ ys)) (xs ++ ys) ≡ xs ++ kept (λ i. keeps ls (xs ++ ys) (length xs + i)) ys
kept-first ls xs ys stay =
    rw (length-append xs ys) (gather_add (length xs) (length ys) _) ∙
    ap₂ ◌++◌ (gather_ext (length xs) _ (λ i. node_at xs i ∷ []) front ∙ gather-table _ _ ∙ table-get_or xs _)
    (gather_ext (length ys) _ _ (λ i h. ap (only (keeps ls (xs ++ ys) (length xs + i))) (get_or-append-add xs ys i _)))
  where
    front : (i : ℕ) → i < length xs → only (keeps ls (xs ++ ys) i) (node_at (xs ++ ys) i) ≡ node_at xs i ∷ []
    front i h = rw (get_or-append xs ys (record { row = []; origin = Sampled 0 0 }) i h, stay (node_at xs i) (in_at xs i _ h))

-- A purge keeps the sampled types in place and takes some of the others.
pub sound-once : (ls : List Link) (rs : List Row) (m : ℕ) (run : Run) → Sound rs m run → Sound rs m (purge_once ls run)
unfolding purge_once
sound-once ls rs m run s =
    let stays : ℕ → Bool = λ i. keeps ls (sampled rs ++ s.later) (length (sampled rs) + i) in
    let ts = run.current in
    record {
      later = kept stays s.later;
      current-is = rw s.current-is (kept-first ls (sampled rs) s.later (sampled-sampled rs));
      later-inferred = λ t h. s.later-inferred t (kept_in stays s.later t h);
      widths = rows-kept (λ r. length r ≡ m) (keeps ls ts) ts s.widths;
      states = rows-kept (AllHeld rs m) (keeps ls ts) ts s.states;
      room = omega (arith, s.room, made-once ls run);
      rounds-made = omega (arith, s.rounds-made, made-once ls run);
    }

-- A node that the next round adds.
abbrev new : Run → Row → Node
new run x = record { row = x; origin = Inferred (run.rounds + 1) }

rows_grown : (R : Row → Type 0) (run : Run) (xs : List Row) → ((x : Row) → In x xs → R x) → EachRow R run.current → EachRow R (run.current ++ map (new run) xs)
rows_grown R run xs fresh each =
    (each_row R (run.current ++ map (new run) xs)).1
    (λ t h. ⊎_elim ((each_row R run.current).0 each t) (λ g. let (x, i, e) = (in_map t (new run) xs).0 g in rw e (fresh x i))
    ((in_append t run.current (map (new run) xs)).0 h))

-- A round with room for its rows, at least one, all of the same width and with no other states.
pub sound-grown : (rs : List Row) (m : ℕ) (run : Run) (xs : List Row) → ((x : Row) → In x xs → (length x ≡ m) × AllHeld rs m x) →
    1 ≤ length xs → length (made run) + length xs ≤ 128 → Sound rs m run → Sound rs m (grown xs run)
unfolding grown
sound-grown rs m run xs each some room s = record {
  later = s.later ++ map (new run) xs;
  current-is = rw s.current-is (append_assoc (sampled rs) s.later (map (new run) xs));
  later-inferred = λ t h. ⊎_elim (older t) (newer t) ((in_append t s.later (map (new run) xs)).0 h);
  widths = rows_grown (λ r. length r ≡ m) run xs (λ x h. (each x h).0) s.widths;
  states = rows_grown (AllHeld rs m) run xs (λ x h. (each x h).1) s.states;
  room = omega (arith, made-grown xs run);
  rounds-made = omega (arith, made-grown xs run, s.rounds-made);
}
  where
    older : (t : Node) → In t s.later → InferredBy (run.rounds + 1) t.origin
    older t h =
        let o = s.later-inferred t h in
        record { round = o.round; origin_is = o.origin_is; not_zero = o.not_zero; not_later = omega (arith, o.not_later) }

    newer : (t : Node) → In t (map (new run) xs) → InferredBy (run.rounds + 1) t.origin
    newer t h =
        let (x, i, e) = (in_map t (new run) xs).0 h in
        record { round = run.rounds + 1; origin_is = ap (λ (u : Node). u.origin) e; not_zero = omega arith; not_later = omega arith }

-- A round of the run itself: its rows are median vectors of current rows.
pub sound-round : (ws : List ℕ) (e : ℕ) (rs : List Row) (m : ℕ) (run : Run) → offers ws e run ≢ [] →
    length (made run) + length (fresh ws e run) ≤ 128 → Sound rs m run → Sound rs m (grown (fresh ws e run) run)
sound-round ws e rs m run c room s =
    let more : length (fresh ws e run) ≢ 0 = λ z. added-some e (offers ws e run) c ((empty (fresh ws e run)).0 z) in
    sound-grown rs m run (fresh ws e run) each (omega arith) room s
  where
    each : (x : Row) → In x (fresh ws e run) → (length x ≡ m) × AllHeld rs m x
    each x h =
        let (o, i, f) = added_offered e (offers ws e run) x h in
        rw (← f) (
          offer_width ws e run m s.widths o i,
          λ c l. offer_states ws e run m s.widths (Held rs c) c l (λ k b. s.states k b c l) o i,
        )

-- Kept by purges at any epsilon, so at phase I's and at phase II's.
pub sound-purges : {ws : List ℕ} {e : ℕ} {rs : List Row} {m : ℕ} {run purged : Run} → Purges ws e run purged → Sound rs m run → Sound rs m purged
sound-purges {rs} {m} p s = purges-keeps (Sound rs m) (λ r. sound-once _ rs m r) p s

pub sound-purge : (ws : List ℕ) (e : ℕ) (rs : List Row) (m : ℕ) (run : Run) → Sound rs m run → Sound rs m (purge ws e run)
sound-purge ws e rs m run = sound-purges (purges ws e run)

-- Where phase I settles.
pub sound-settled : {ws : List ℕ} {e : ℕ} (rs : List Row) (m : ℕ) {run : Run} → PhaseOne ws e (start rs) (settled run) →
    ((i : ℕ) → i < length rs → length (row_at rs i) ≡ m) → length (sampled rs) ≤ 128 → Sound rs m run
sound-settled {ws} {e} rs m p each room =
    phase_keeps (Sound rs m) (λ r. sound-once _ rs m r) (λ r s c l. sound-round ws e rs m r c l s) p (sound-start rs m each room)

-- A property of every state of every row of rs holds of every state of every current row.
pub sound-states : (P : ℕ → Type 0) {rs : List Row} {m : ℕ} {run : Run} → ((k c : ℕ) → k < length rs → c < m → P (get_or (row_at rs k) c 0)) →
    Sound rs m run → (i c : ℕ) → i < length (rows_of run.current) → c < m → P (get_or (row_at (rows_of run.current) i) c 0)
sound-states P has s i c h l = let (k, b, e) = s.states i h c l in rw e (has k c b l)
