-- `ordered::next_link` meets its contract: as many links stand before the pair i, j as before the pair that follows the last link, so i, j is the next.
use mathlib.Core.Path.{◌≡◌, refl, sym, ◌∙◌}
use Prim.Native.Nat.{◌<◌}
use native.Mathlib.Omega.{arith}
use Rattle.result.specs.Lines.{links_before}
use Rattle.result.proofs.ordered.Lines.{behind, line-end, line-follows, link-at}
use Rattle.result.proofs.ordered.next_link.Goals as goal

pub overflow_add-last : goal.overflow_add-last
overflow_add-last c = let s = c in omega (arith, (let has = s.requires.2 in behind _ _ _ has.place has.within has.is).inside, s.requires.1)

pub next_in_line-j-requires : goal.next_in_line-j-requires
next_in_line-j-requires c =
    let s = c in
    (s.requires.0, s.requires.1, omega (arith, (let has = s.requires.2 in behind _ _ _ has.place has.within has.is).rising), omega (arith, (let has = s.requires.2 in behind _ _ _ has.place has.within has.is).inside))

pub loop-j-init : goal.loop-j-init
loop-j-init c =
    let s = c in
    let r = c.next_in_line-j.ensures in
    (omega (arith, (let has = s.requires.2 in behind _ _ _ has.place has.within has.is).rising, (let has = s.requires.2 in behind _ _ _ has.place has.within has.is).inside), record { within = r.within; behind = refl; linked = r.linked })

pub overflow_add-i : goal.overflow_add-i
overflow_add-i c = omega (arith, (let l = c in let s = (l) in line-follows s.args.area.now s.args.t l.loop-j.i l.loop-j.invariant.0 (omega (arith, (let l = c in let e : l.loop-j.j ≡ (l).args.t = omega arith in rw e at l.loop-j.invariant.1.behind), l.next_in_line-j.ensures.behind, (let has = s.requires.2 in behind _ _ _ has.place has.within has.is).place, s.requires.2.within))))

pub overflow_add-i-in-loop-j : goal.overflow_add-i-in-loop-j
overflow_add-i-in-loop-j c = omega (arith, (let l = c in let s = (l) in line-follows s.args.area.now s.args.t l.loop-j.i l.loop-j.invariant.0 (omega (arith, (let l = c in let e : l.loop-j.j ≡ (l).args.t = omega arith in rw e at l.loop-j.invariant.1.behind), l.next_in_line-j.ensures.behind, (let has = s.requires.2 in behind _ _ _ has.place has.within has.is).place, s.requires.2.within))))

pub next_in_line-j-requires-in-loop-j : goal.next_in_line-j-requires-in-loop-j
next_in_line-j-requires-in-loop-j c = let s = (c) in (s.requires.0, s.requires.1, omega arith, omega (arith, (let l = c in let s = (l) in line-follows s.args.area.now s.args.t l.loop-j.i l.loop-j.invariant.0 (omega (arith, (let l = c in let e : l.loop-j.j ≡ (l).args.t = omega arith in rw e at l.loop-j.invariant.1.behind), l.next_in_line-j.ensures.behind, (let has = s.requires.2 in behind _ _ _ has.place has.within has.is).place, s.requires.2.within)))))

pub loop-j-smaller : goal.loop-j-smaller
loop-j-smaller c = omega (arith, (let l = c in let s = (l) in line-follows s.args.area.now s.args.t l.loop-j.i l.loop-j.invariant.0 (omega (arith, (let l = c in let e : l.loop-j.j ≡ (l).args.t = omega arith in rw e at l.loop-j.invariant.1.behind), l.next_in_line-j.ensures.behind, (let has = s.requires.2 in behind _ _ _ has.place has.within has.is).place, s.requires.2.within))))

pub loop-j-preserved : goal.loop-j-preserved
loop-j-preserved c =
    let l = c in
    let a = (l).args in
    ((let l = c in let s = (l) in line-follows s.args.area.now s.args.t l.loop-j.i l.loop-j.invariant.0 (omega (arith, (let l = c in let e : l.loop-j.j ≡ (l).args.t = omega arith in rw e at l.loop-j.invariant.1.behind), l.next_in_line-j.ensures.behind, (let has = s.requires.2 in behind _ _ _ has.place has.within has.is).place, s.requires.2.within))), rw (line-end a.area.now a.t l.loop-j.i, (let l = c in let e : l.loop-j.j ≡ (l).args.t = omega arith in rw e at l.loop-j.invariant.1.behind)) at c.next_in_line-j-in-loop-j.ensures)

pub returns : goal.returns
returns c =
    let l = c in
    let a = (l).args in
    let inside : l.loop-j.j < a.t = omega arith in
    let at = sym (link-at a.area.now a.t l.loop-j.i l.loop-j.j l.loop-j.invariant.0 inside (l.loop-j.invariant.1.linked inside)) in
    record {
      is = λ k h e.
          let p : links_before a.area.now a.t l.loop-j.i l.loop-j.j ≡ k =
          l.loop-j.invariant.1.behind ∙ l.next_in_line-j.ensures.behind ∙ sym (behind _ _ a.last k h e).place in
          rw p at at;
    }
