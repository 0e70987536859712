-- How the drawing ends: the run refuses, or its network is written up to its links.
use Rattle.std.specs.Prelude.{Result, Ok, Err}
use mathlib.Core.Path.{◌≡◌, refl, sym, ap, ap₂, subst, ◌∙◌}
use mathlib.Core.Bool.{false}
use mathlib.Core.List.{List}
use Prim.Native.Nat.{ℕ, ◌+◌, ◌*◌, ◌≤◌}
use lib.ListN.{length}
use Rattle.graph.proofs.Below.{length-table}
use Rattle.rules.specs.Answers.{number}
use Rattle.rules.specs.Job.{Bytes, width, checked}
use Rattle.rules.specs.Lent.{Lent, area_short}
use Rattle.rules.specs.Result.{block}
use Rattle.rules.specs.Call.{found, verdict}
use Rattle.types.specs.State.{nodes_in}
use Rattle.purge.specs.declared.state.Held.{Held}
use Rattle.purge.specs.Network.{links_in, network_in}
use Rattle.result.specs.FrontWritten.{FrontWritten}
use Rattle.result.specs.declared.Front.{Front}
use Rattle.result.proofs.Parts.{block_size}
use Rattle.rules.specs.declared.Refusal.{Refusal}
use Rattle.network.specs.declared.draw.Sketch.{Sketch}
use Rattle.run.specs.Ran.{Ran}
use Rattle.run.proofs.Once.{ran-ok, ran-err}
use Rattle.network.specs.Drawn.{Sketched}
use Rattle.network.proofs.draw.Verdicts.{ran-refused, ran-found, wrote_nothing, wrote-network}
use Rattle.network.proofs.draw.Writable.{short}

-- The types and the links of the network in memory.
module _ (m : ℕ) (states : Bytes) (area : List ℕ) (held : Held) where
  types-told : held.state.types ≡ length (network_in m states area held).types
  unfolding network_in nodes_in
  types-told = sym (length-table _ _)

  links-told : links_in held.state.types area ≡ (network_in m states area held).links
  unfolding network_in
  links-told = refl

  -- So many bytes are used by its block.
  used_is : {out out' : Bytes} {f : Front} → FrontWritten m states area held out out' f → f.at + 6 * f.links ≡ length (block m (network_in m states area held))
  used_is w = ap₂ (λ a l. a + 6 * l) w.at_is (w.links_are ∙ ap length links-told) ∙ sym (block_size m (network_in m states area held))

module _ {job states : Bytes} {area : List ℕ} {n cells : ℕ} (pass : number (checked job) ≡ 0) where
  -- The run refuses.
  pub sketch_refused : {e : Refusal} {r : Result Sketch Refusal} (result : Bytes) → Ran job n cells states area (Err e) → r ≡ Err e → (lent : Lent) →
      area_short lent ≡ false → Sketched lent job result r result area
  sketch_refused result ran told lent areas = wrote_nothing lent job result area (ran-refused lent job areas pass (ran-err ran)) told

  -- The run leaves a network, which is written up to its links.
  module _ {result result' : Bytes} {held : Held} {f : Front} {m : ℕ} (ran : Ran job n cells states area (Ok held)) (wide : m ≡ width job)
      (w : FrontWritten m states area held result result' f) where
    wrote : FrontWritten (width job) states area held result result' f
    wrote = subst (λ k. FrontWritten k states area held result result' f) wide w

    pub used-short : f.at + 6 * f.links ≤ 57680
    used-short = rw (used_is (width job) states area held wrote) (short pass ran)

    pub sketch_network : (lent : Lent) → area_short lent ≡ false →
        Sketched lent job result (Ok (record { used = f.at + 6 * f.links; types = held.state.types; links = f.links; at = f.at })) result' area
    sketch_network lent areas =
        let net = network_in (width job) states area held in
        let told = ran-ok ran in
        let is : verdict lent job ≡ found net = ran-found lent job areas pass told.passed_is told.end told.settled_in ∙ ap found (sym told.network_is) in
        let links = links-told (width job) states area held in
        wrote-network lent job net is (used_is (width job) states area held wrote) wrote.is wrote.at_is
        (types-told (width job) states area held) links (wrote.links_are ∙ ap length links)
