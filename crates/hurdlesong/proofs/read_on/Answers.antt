-- What was read before is copied to the front, and what is read after it is written behind it.
use Rattle.std.proofs.Common.{◌≡◌, ℕ, ◌+◌, ◌≤◌, List, arith, length, take, drop, ap, ◌∙◌, le_refl}
use Rattle.std.proofs.lemmas.Slice.{take-put_mid_below}
use Rattle.std.proofs.Math.Seq.{take-append_seam}
use Rattle.memory.specs.Placed.{placed}
use Rattle.hurdlesong.proofs.read_on.Goals as goal

front_placed : (b xs : List ℕ) → take (length xs) (placed b 0 xs) ≡ xs
unfolding placed
front_placed b xs = take-append_seam xs (drop (0 + length xs) b)

pub returns-clause-kept : goal.returns-clause-kept
returns-clause-kept g c =
    let within : length c.args.front.now ≤ length c.copy.new.b = omega arith in
    take-put_mid_below _ _ _ _ _ (le_refl _) within ∙ ap (take (length c.args.front.now)) c.copy.ensures ∙ front_placed _ _
