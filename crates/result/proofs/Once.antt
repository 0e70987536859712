-- The contract of `write_front` leaves no choice.
use mathlib.Core.Path.{◌≡◌, sym, ◌∙◌}
use mathlib.Core.List.{List}
use Prim.Native.Nat.{ℕ}
use Rattle.rules.specs.Job.{Bytes}
use Rattle.purge.specs.declared.state.Held.{Held}
use Rattle.result.specs.FrontWritten.{FrontWritten}
use Rattle.result.specs.declared.Front.{Front}

-- Two that write one network from memory over the same bytes leave the same, and hand back the same.
pub written_one : {m : ℕ} {states : Bytes} {area : List ℕ} {held : Held} {out a b : Bytes} {r s : Front} →
    FrontWritten m states area held out a r → FrontWritten m states area held out b s → (a ≡ b) × (r ≡ s)
written_one p q = (p.is ∙ sym q.is, λ i. record { links = (p.links_are ∙ sym q.links_are) i; at = (p.at_is ∙ sym q.at_is) i })
