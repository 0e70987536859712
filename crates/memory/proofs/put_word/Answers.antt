-- `memory::put_word` meets its contract: the two stores are the number's two bytes, and the high one is less than 256.
use mathlib.Core.Path.{◌≡◌, ap, ◌∙◌}
use mathlib.Core.List.{[], ◌∷◌}
use Prim.Native.Nat.{ℕ, ◌/◌, ◌%◌}
use native.Mathlib.Numerals.{add-one}
use native.Mathlib.Omega.{arith}
use lib.ListN.{set}
use lib.Seq.{sets-eq}
use Rattle.rules.specs.Result.{words}
use Rattle.memory.specs.Placed.{placed}
use Rattle.memory.proofs.put_word.Goals as goal

pub returns : goal.returns
unfolding placed words
returns c =
    let a = c.args in
    let b = a.b.now in
    let high : a.x / 256 % 256 ≡ a.x / 256 = omega arith in
    rw (c.to_le_bytes.ensures, high) (ap (λ (k : ℕ). set (set b a.i (a.x % 256)) k (a.x / 256)) (add-one a.i)
    ∙ sets-eq (a.x % 256 ∷ a.x / 256 ∷ []) b a.i (omega arith))
