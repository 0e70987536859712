-- RULES 8: the purge.
use Rattle.std.specs.Prelude.{◌≡◌, Bool, true, false, cond, not, ◌&&◌, List, ◌++◌, ℕ, zero, suc, leb, length}
use Rattle.graph.specs.Below.{gather, only, some}
use Rattle.rules.specs.Job.{Row}
use Rattle.rules.specs.Types.{Node, inferred, node_at, rows_of}
use Rattle.rules.specs.Links.{links_at, link_count}
use Rattle.rules.specs.declared.Link.{Link}

-- RULES 5.4, 12.4: where a run stands: its current types, the oldest first, the rows of its retired types, its count of rounds.
pub record Run : Type 0 where
  pub current : List Node
  pub retired : List Row
  pub rounds : ℕ

-- RULES 8.1: the links among the current types.
abbrev pub links_of : List ℕ → ℕ → Run → List Link
links_of ws e run = links_at ws e (rows_of run.current)

-- RULES 8.1, 8.3: too few links, and not sampled.
abbrev pub obsolete : List Node → List Link → ℕ → Bool
obsolete ts ls i = inferred (node_at ts i).origin && leb (link_count ls i) 2

-- RULES 8.2, 8.4: one pass. Whatever is obsolete by these links leaves the current types and is retired.
unfoldable pub purge_once : List Link → Run → Run
purge_once ls run =
    let ts = run.current in
    record {
      current = gather (length ts) (λ i. only (not (obsolete ts ls i)) (node_at ts i));
      retired = run.retired ++ gather (length ts) (λ i. only (obsolete ts ls i) (node_at ts i).row);
      rounds = run.rounds;
    }

abbrev pub some_obsolete : List Link → Run → Bool
some_obsolete ls run = some (length run.current) (obsolete run.current ls)

-- RULES 8.2: passes, each with links of its own, until one finds nothing obsolete. This is what to believe.
pub data Purges (ws : List ℕ) (e : ℕ) : Run → Run → Type 0 where
  none : {run : Run} → some_obsolete (links_of ws e run) run ≡ false → Purges ws e run run
  again : {run purged : Run} → some_obsolete (links_of ws e run) run ≡ true → Purges ws e (purge_once (links_of ws e run) run) purged → Purges ws e run purged

-- RULES 8.2, computed: so many passes at most. A pass takes out a type or is the last one, so there are never more than types.
-- proofs/Ends.antt shows that purge does what Purges says.
unfoldable pub purge_times : ℕ → List ℕ → ℕ → Run → Run
purge_times zero ws e run = run
purge_times (suc times) ws e run =
    let ls = links_of ws e run in
    let next = purge_times times ws e (purge_once ls run) in
    cond (some_obsolete ls run) next run

unfoldable pub purge : List ℕ → ℕ → Run → Run
purge ws e run = purge_times (length run.current) ws e run
