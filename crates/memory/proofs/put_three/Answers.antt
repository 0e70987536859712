-- `memory::put_three` meets its contract: three numbers, each behind the one before.
use native.Mathlib.Omega.{arith}
use Rattle.memory.proofs.Three.{three-written}
use Rattle.memory.proofs.put_three.Goals as goal

pub returns : goal.returns
returns c =
    let third = c in
    let second = third in
    let one = second in
    let a = one.args in
    three-written a.out.now a.at a.x a.y a.z (omega arith) one.put_word.ensures second.put_word-2.ensures
    third.put_word-3.ensures
