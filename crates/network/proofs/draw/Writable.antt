-- What a run leaves can be written: its numbers fit 16 bits, and the least result is long enough for its block.
use Rattle.std.specs.Prelude.{Ok}
use mathlib.Core.Path.{◌≡◌, refl, sym, ap, ◌∙◌}
use mathlib.Core.Bool.{false}
use mathlib.Core.List.{List}
use Prim.Native.Nat.{ℕ, ◌-◌, ◌≤◌, ◌<◌}
use native.Mathlib.Omega.{arith}
use lib.ListN.{length}
use Rattle.graph.proofs.Below.{length-table, get_or-table}
use Rattle.rules.specs.Answers.{number}
use Rattle.rules.specs.Job.{Bytes, width, weights, checked}
use Rattle.rules.specs.Types.{node_at}
use Rattle.rules.specs.Lent.{least, area_short}
use Rattle.rules.specs.Purge.{Run}
use Rattle.rules.specs.Run.{Network, phase_two}
use Rattle.rules.specs.Result.{record_of, block}
use Rattle.rules.specs.Call.{found, verdict}
use Rattle.rules.specs.declared.Origin.{Origin}
use Rattle.rules.specs.declared.Origin.TheVariants.{Sampled, Inferred}
use Rattle.rules.proofs.Job.{passed_is}
use Rattle.rules.proofs.Block.{Fits16, sampled_count}
use Rattle.types.specs.State.{nodes_in}
use Rattle.purge.specs.Network.{network_in}
use Rattle.purge.specs.declared.state.Held.{Held}
use Rattle.result.specs.Records.{OriginFits, kind_at}
use Rattle.result.specs.FrontWritten.{Writable}
use Rattle.run.specs.Ran.{Ran}
use Rattle.run.proofs.Once.{ran-ok, ran-few}
use Rattle.readback.proofs.Result.{numbers_fit, few-rounds, block-short}
use Rattle.network.proofs.draw.Verdicts.{ran-found}

-- The least memory is long enough.
least-enough : area_short least ≡ false
unfolding area_short
least-enough = refl

origin-fits : (o : Origin) (index : ℕ) → Fits16 (record_of o index) → OriginFits o
origin-fits (Sampled rows first) index f = (omega (arith, f.0), omega (arith, f.1.0))
origin-fits (Inferred round) index f = omega (arith, f.1.1.0)

module _ {job states : Bytes} {area : List ℕ} {n cells : ℕ} {held : Held}
    (pass : number (checked job) ≡ 0) (ran : Ran job n cells states area (Ok held)) where
  abbrev end : Run
  end = (ran-ok ran).end

  abbrev net : Network
  net = phase_two (weights job) end

  -- Memory tells the network of the rules.
  pub told : network_in (width job) states area held ≡ net
  told = (ran-ok ran).network_is

  drawn : verdict least job ≡ found net
  drawn = ran-found least job least-enough pass (ran-ok ran).passed_is end (ran-ok ran).settled_in

  module _ where
    abbrev t : ℕ
    t = held.state.types

    types_are : net.types ≡ nodes_in (width job) t states held.kinds
    unfolding network_in
    types_are = sym (ap (λ n. n.types) told)

    type-count : length net.types ≡ t
    unfolding nodes_in
    type-count = ap length types_are ∙ length-table t _

    origin-at : (k : ℕ) → k < t → (node_at net.types k).origin ≡ (kind_at held.kinds k).origin
    unfolding nodes_in
    origin-at k h = ap (λ n. n.origin) (ap (λ ts. node_at ts k) types_are ∙ get_or-table t _ k _ h)

    rounds_are : net.rounds ≡ held.state.rounds
    unfolding network_in
    rounds_are = sym (ap (λ n. n.rounds) told)

  -- Its block is short.
  pub short : length (block (width job) (network_in (width job) states area held)) ≤ 57680
  short = rw told (block-short least job net drawn)

  pub ready : (result : Bytes) → 8192 ≤ n → 16384 ≤ cells → 57680 ≤ length result → Writable (width job) states area held result
  ready result a b c = record {
    narrow = (passed_is job pass).width-within.at_most;
    few = ran-few ran;
    states_fit = omega (arith, ran.states_size);
    cells_fit = omega (arith, ran.area_size);
    origins_fit = λ k h. rw (← origin-at k h) (origin-fits (node_at net.types k).origin (k - sampled_count net) ((numbers_fit least job net drawn).record_fits k (rw type-count h)));
    rounds_fit = omega (arith, rounds_are, few-rounds least job net drawn);
    room = omega (arith, short);
  }
