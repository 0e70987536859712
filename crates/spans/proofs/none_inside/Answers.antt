-- `spans::none_inside` meets its contract: the first n numbers are filled with 0, and the others are as they were.
use mathlib.Core.Path.{◌≡◌, ◌∙◌}
use mathlib.Core.List.{List, ◌++◌}
use Prim.Native.Nat.{ℕ, ◌-◌, ◌≤◌, ◌<◌}
use native.Mathlib.Omega.{arith}
use lib.ListN.{length, get_or, drop, replicate, get_or-replicate, length-replicate, length-append, length-take, get_or-append}
use Rattle.std.proofs.lemmas.List.{drop-replicate, get_or-append_right}
use Rattle.spans.proofs.none_inside.Goals as goal

filled : (n m t : ℕ) (xs : List ℕ) → n ≤ t → m ≡ n → xs ≡ replicate m 0 →
    (length (xs ++ drop n (replicate t 65535)) ≡ t)
    × ((u : ℕ) → u < n → get_or (xs ++ drop n (replicate t 65535)) u 0 ≡ 0)
    × ((u : ℕ) → n ≤ u → u < t → get_or (xs ++ drop n (replicate t 65535)) u 0 ≡ 65535)
filled n m t xs h same e =
    rw (e, same, drop-replicate {X = ℕ} n t 65535) (
      simp (length-append, length-replicate) (omega arith),
      λ u l. get_or-append (replicate {A = ℕ} n 0) _ 0 u (omega (arith, length-replicate {A = ℕ} n 0)) ∙ get_or-replicate n u 0 0 l,
      λ u l b. get_or-append_right (replicate {A = ℕ} n 0) _ n u 0 (length-replicate {A = ℕ} n 0) l ∙ get_or-replicate (t - n) (u - n) 65535 0 (omega arith),
    )

pub returns : goal.returns
returns c =
    filled c.args.n _ 128 _ c.requires (length-take c.args.n (replicate 128 65535) ∙ omega arith) (c.fill.ensures.after (λ y h. h))
