-- The fuel never runs out: purge and phaseOne do what Purge.antt's Purges and Run.antt's PhaseOne say, and more times or rounds
-- change nothing.
use mathlib.Core.Path.{◌≡◌, refl, sym, ap, ◌∙◌}
use mathlib.Core.Logic.{◌≢◌}
use mathlib.Core.Bool.{Bool, true, false, cond, ◌&&◌, false≢true}
use mathlib.Core.List.{List, []}
use Prim.Native.Nat.{ℕ, zero, suc, ◌+◌, ◌≤◌, ◌<◌}
use native.Mathlib.Omega.{arith}
use lib.Dec.{leb, ltb, eqb}
use lib.ListN.{length}
use borrow.Author.Tests.{ltb-true, ltb-false, eqb-true, eqb-false, leb-false}
use Rattle.graph.proofs.Below.{some_false, empty}
use Rattle.rules.specs.Job.{Row}
use Rattle.rules.specs.Types.{inferred, node_at}
use Rattle.rules.specs.Links.{link_count}
use Rattle.rules.specs.Purge.{Run, links_of, purge_once, some_obsolete, Purges, none, again, purge_times, purge}
use Rattle.rules.specs.Round.{Offer, made, offers, added}
use Rattle.rules.specs.Run.{Outcome, settled, full, grown, PhaseOne, no_candidate, no_room, round, phase_one_in, phase_one}
use Rattle.rules.specs.declared.Link.{Link}
use Rattle.rules.proofs.Rounds.{added-some}
use Rattle.rules.proofs.Keeps.{once_shorter, made-purges, made-grown}

-- As many times as there are types are enough: each takes a type away.
pub purges_in : (times : ℕ) (ws : List ℕ) (e : ℕ) (run : Run) → length run.current ≤ times → Purges ws e run (purge_times times ws e run)
unfolding purge_times
purges_in zero ws e run l = none ((some_false (length run.current) _).1 (λ i h. absurd (omega arith)))
purges_in (suc times) ws e run l =
    go (some_obsolete ls run) refl (λ t. purges_in times ws e (purge_once ls run) (omega (arith, once_shorter ls run t)))
  where
    ls : List Link
    ls = links_of ws e run

    go : (t : Bool) → some_obsolete ls run ≡ t →
        (some_obsolete ls run ≡ true → Purges ws e (purge_once ls run) (purge_times times ws e (purge_once ls run))) →
        Purges ws e run (cond t (purge_times times ws e (purge_once ls run)) run)
    go true t rest = again t (rest t)
    go false t rest = none t

pub purges : (ws : List ℕ) (e : ℕ) (run : Run) → Purges ws e run (purge ws e run)
unfolding purge
purges ws e run = purges_in (length run.current) ws e run (omega arith)

-- There is one way to purge, and one result.
pub purges-same : {ws : List ℕ} {e : ℕ} {run a b : Run} → Purges ws e run a → Purges ws e run b → a ≡ b
purges-same (none f) (none g) = refl
purges-same (none f) (again t q) = absurd (false≢true (sym f ∙ t))
purges-same (again t p) (none g) = absurd (false≢true (sym g ∙ t))
purges-same (again t p) (again s q) = purges-same p q

-- One time more changes nothing of what a purge comes to, and where nothing is obsolete it comes to the run itself.
module _ (ws : List ℕ) (e : ℕ) (run : Run) where
  pub purge-again : some_obsolete (links_of ws e run) run ≡ true → purge ws e (purge_once (links_of ws e run) run) ≡ purge ws e run
  purge-again t = purges-same (again t (purges ws e (purge_once (links_of ws e run) run))) (purges ws e run)

  pub purge-none : some_obsolete (links_of ws e run) run ≡ false → purge ws e run ≡ run
  purge-none f = purges-same (purges ws e run) (none f)

-- More times change nothing.
pub purge-more : (ws : List ℕ) (e : ℕ) (run : Run) (times : ℕ) → length run.current ≤ times → purge_times times ws e run ≡ purge ws e run
purge-more ws e run times l = purges-same (purges_in times ws e run l) (purges ws e run)

-- A purge ends because nothing is obsolete.
pub purges-end : {ws : List ℕ} {e : ℕ} {run purged : Run} → Purges ws e run purged → some_obsolete (links_of ws e purged) purged ≡ false
purges-end (none f) = f
purges-end (again t p) = purges-end p

pub purge-ends : (ws : List ℕ) (e : ℕ) (run : Run) → some_obsolete (links_of ws e (purge ws e run)) (purge ws e run) ≡ false
purge-ends ws e run = purges-end (purges ws e run)

-- So every inferred type that is left has at least three links.
pub purged-links : (ls : List Link) (run : Run) → some_obsolete ls run ≡ false →
    (i : ℕ) → i < length run.current → inferred (node_at run.current i).origin ≡ true → 3 ≤ link_count ls i
purged-links ls run f i h t =
    let g : (inferred (node_at run.current i).origin && leb (link_count ls i) 2) ≡ false = (some_false (length run.current) _).0 f i h in
    leb-false (link_count ls i) 2 (rw t at g)

pub purge-links : (ws : List ℕ) (e : ℕ) (run : Run) → let purged = purge ws e run in
    (i : ℕ) → i < length purged.current → inferred (node_at purged.current i).origin ≡ true → 3 ≤ link_count (links_of ws e purged) i
purge-links ws e run = purged-links (links_of ws e (purge ws e run)) (purge ws e run) (purge-ends ws e run)

-- As many rounds as bring the types made above 128 are enough: each makes a type.
pub phase_in : (rounds : ℕ) (ws : List ℕ) (e : ℕ) (run : Run) → length (made run) ≤ 128 → 128 < length (made run) + rounds →
    PhaseOne ws e run (phase_one_in rounds ws e run)
unfolding phase_one_in
phase_in zero ws e run l m = absurd (omega arith)
phase_in (suc rounds) ws e run l m =
    go (eqb (length os) 0) refl (ltb 128 (length (made purged) + length xs)) refl
    (λ room more. phase_in rounds ws e (grown xs purged) (omega (arith, made-grown xs purged)) (omega (arith, same, made-grown xs purged)))
  where
    purged : Run
    purged = purge ws e run

    same : length (made purged) ≡ length (made run)
    same = made-purges (purges ws e run)

    os : List Offer
    os = offers ws e purged

    xs : List Row
    xs = added e os

    go : (t : Bool) → eqb (length os) 0 ≡ t → (s : Bool) → ltb 128 (length (made purged) + length xs) ≡ s →
        (length (made purged) + length xs ≤ 128 → 0 < length xs → PhaseOne ws e (grown xs purged) (phase_one_in rounds ws e (grown xs purged))) →
        PhaseOne ws e run (cond t (settled purged) (cond s (full (purged.rounds + 1)) (phase_one_in rounds ws e (grown xs purged))))
    go true t s f rest = no_candidate (purges ws e run) ((empty os).0 (eqb-true _ 0 t))
    go false t true f rest = no_room (purges ws e run) (λ z. eqb-false _ 0 t ((empty os).1 z)) (ltb-true 128 _ f)
    go false t false f rest =
        let ne : os ≢ [] = λ z. eqb-false (length os) 0 t ((empty os).1 z) in
        let more : length xs ≢ 0 = λ z. added-some e os ne ((empty xs).0 z) in
        let room = ltb-false 128 _ f in
        round (purges ws e run) ne room (rest room (omega arith))

pub phase_one_is : (ws : List ℕ) (e : ℕ) (run : Run) → length (made run) ≤ 128 → PhaseOne ws e run (phase_one ws e run)
unfolding phase_one
phase_one_is ws e run l = phase_in 129 ws e run l (omega arith)

pub phase_same : {ws : List ℕ} {e : ℕ} {run : Run} {a b : Outcome} → PhaseOne ws e run a → PhaseOne ws e run b → a ≡ b
phase_same (no_candidate p n) (no_candidate q o) = ap settled (purges-same p q)
phase_same (no_candidate p n) (no_room q c f) = absurd (c (rw (purges-same q p) n))
phase_same (no_candidate p n) (round q c r o) = absurd (c (rw (purges-same q p) n))
phase_same (no_room p c f) (no_candidate q n) = absurd (c (rw (purges-same p q) n))
phase_same (no_room p c f) (no_room q d g) = ap (λ (run : Run). full (run.rounds + 1)) (purges-same p q)
phase_same (no_room p c f) (round q d r o) = let g = rw (purges-same p q) at f in absurd (omega arith)
phase_same (round p c r o) (no_candidate q n) = absurd (c (rw (purges-same p q) n))
phase_same (round p c r o) (no_room q d f) = let g = rw (purges-same q p) at f in absurd (omega arith)
phase_same (round p c r o) (round q d s f) = phase_same o (rw (purges-same q p) at f)

-- Phase I settles where there is no candidate and nothing is obsolete.
pub phase_ends : {ws : List ℕ} {e : ℕ} {run end : Run} → PhaseOne ws e run (settled end) →
    (offers ws e end ≡ []) × (some_obsolete (links_of ws e end) end ≡ false)
phase_ends (no_candidate p n) = (n, purges-end p)
phase_ends (round p c r rest) = phase_ends rest

-- More rounds change nothing.
pub phase_more : (ws : List ℕ) (e : ℕ) (run : Run) (rounds : ℕ) → 129 ≤ rounds → length (made run) ≤ 128 → phase_one_in rounds ws e run ≡ phase_one ws e run
phase_more ws e run rounds h l = phase_same (phase_in rounds ws e run l (omega arith)) (phase_one_is ws e run l)
