-- `mismatches::in_use` meets its contract: where no row passes the test, none holds a state there.
use Rattle.std.proofs.Common.{◌≡◌, ◌≢◌, refl, rules, tests, arith, ℕ, ◌+◌, ◌*◌, get_or}
use Rattle.std.proofs.lemmas.Bool.{MatchBool-at_false}
use Rattle.std.proofs.lemmas.Iterator.{cases_from_any, YieldsList-from_range}
use Rattle.std.proofs.lemmas.List.FromFn.{get_or-range_with_len, length-range_with_len}
use Rattle.triplets.proofs.mismatches.in_use.Goals as goal

pub returns : goal.returns
returns c = λ e i h.
    let n = c.args.made in
    let state = λ (k : ℕ). get_or c.args.states.now (64 * k + c.args.c) 0 in
    let cases = cases_from_any _ _ _ (λ k. state k ≢ 0) (λ k. state k ≡ 0) c.any.ensures.ran (YieldsList-from_range 0 n n refl (omega arith))
    (λ k q w. search (rules, tests)) (λ k q w. search (rules, tests)) in
    let itself : 0 + i ≡ i = omega arith in
    rw (get_or-range_with_len 0 n i 0 h, itself) at (MatchBool-at_false _ _ e cases i 0 (omega arith) (rw (length-range_with_len 0 n) h))
