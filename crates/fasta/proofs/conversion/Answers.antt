-- Laws of what a text is answered.
use mathlib.Core.Path.{◌≡◌, refl, sym, ◌∙◌}
use mathlib.Core.Bool.{Bool, true, false, true≢false}
use Rattle.std.proofs.Common.{Err}
use Rattle.fasta.specs.Answers.{Conversion, refuses}
use Rattle.fasta.specs.declared.conversion.Fault.{Fault}
use Rattle.fasta.specs.declared.conversion.Fault.TheVariants.{Short, Before, Byte, Wide, Many, Empty, Uneven}
use Rattle.rules.specs.Answers.{when◌refuse◌else◌}

-- Every fault refuses: its number is not 0.
pub fault-refuses : (fault : Fault) → refuses (Err fault) ≡ true
fault-refuses Short = refl
fault-refuses (Before place) = refl
fault-refuses (Byte place) = refl
fault-refuses (Wide place) = refl
fault-refuses (Many place) = refl
fault-refuses (Empty place) = refl
fault-refuses (Uneven place) = refl

-- Where no refusal is given the test did not refuse, nor does what is tried next.
pub not_no_size : (t : Bool) (a next : Conversion) → refuses (when t refuse a else next) ≡ false → (t ≡ true → refuses a ≡ true) →
    (t ≡ false) × (refuses next ≡ false)
not_no_size true a next e h = absurd (true≢false (sym (h refl) ∙ e))
not_no_size false a next e h = (refl, e)
