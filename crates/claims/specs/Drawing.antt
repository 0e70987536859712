-- RULES 19.3, the third demand: what is drawn.
use Rattle.std.specs.Prelude.{◌≡◌, ◌↔◌, ◌≢◌, List, ◌++◌, ℕ, ◌+◌, ◌≤◌, ◌<◌, length}
use Rattle.graph.specs.Below.{sum}
use Rattle.graph.specs.Walk.{Walk}
use Rattle.graph.specs.Tree.{InCheapest}
use Rattle.rules.specs.Job.{Bytes, rows, weights, job_rows}
use Rattle.rules.specs.Types.{Node, InferredBy, row_count, node_at, rows_of, sampled}
use Rattle.rules.specs.Distance.{apart}
use Rattle.rules.specs.Links.{link_at, Between, Before, link_count}
use Rattle.rules.specs.Run.{Network}
use Rattle.rules.specs.declared.Link.{Link}

-- RULES 19.3: a link of the list lies between u and v.
abbrev pub Listed : List Link → ℕ → ℕ → Type 0
Listed ls u v = (k : ℕ) × (k < length ls) × Between (link_at ls k) u v

-- RULES 4.8: the links join all kept types.
abbrev pub JoinsAll : Network → Type 0
JoinsAll net = (u v : ℕ) → u < length net.types → v < length net.types → Walk (Listed net.links) u v

-- RULES 19.3: what is drawn for a job. A type's number is its index in the list (RULES 13.2).
pub record Drawing (job : Bytes) (net : Network) : Type 0 where
  -- the sampled types come first, in order of first row, and every one is kept; behind them come the inferred ones
  pub inferred : List Node
  pub kept : net.types ≡ sampled (job_rows job) ++ inferred
  pub rounds : (k : ℕ) → k < length inferred → InferredBy net.rounds (node_at inferred k).origin
  -- the sampled types' row counts sum to the job's rows
  pub counted : sum (length net.types) (λ k. row_count (node_at net.types k).origin) ≡ rows job
  -- a link is listed exactly if some cheapest tree over the kept types has it
  pub cheapest : (u v : ℕ) → u < length net.types → v < length net.types → u ≢ v →
      Listed net.links u v ↔ InCheapest (length net.types) (apart (weights job) (rows_of net.types)) u v
  -- each with the lower number first and the distance as its length, in order, each once
  pub lower : (k : ℕ) → k < length net.links → (link_at net.links k).low < (link_at net.links k).high
  pub higher : (k : ℕ) → k < length net.links → (link_at net.links k).high < length net.types
  pub long : (k : ℕ) → k < length net.links →
      (link_at net.links k).length ≡ apart (weights job) (rows_of net.types) (link_at net.links k).low (link_at net.links k).high
  pub ordered : (j k : ℕ) → j < k → k < length net.links → Before (link_at net.links j) (link_at net.links k)
  -- every inferred type is named by at least three links
  pub three : (k : ℕ) → k < length inferred → 3 ≤ link_count net.links (length (sampled (job_rows job)) + k)
  -- the links join all kept types
  pub joined : JoinsAll net
