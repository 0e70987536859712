-- A job whose types are purged passes the checks, so its header and its weights are in bounds, and so is what it holds: its types, or none
-- where there are too many.
use Rattle.std.proofs.Common.{◌≡◌, ◌≤◌, arith}
use Rattle.std.specs.Prelude.{List, ℕ, Result, Ok, Err}
use Rattle.std.specs.Result.{result_unwrap_or}
use Rattle.rules.proofs.Job.{passed_is}
use Rattle.rules.specs.Job.{Bytes, checked, epsilon}
use Rattle.rules.specs.Answers.{number}
use Rattle.rules.specs.declared.Refusal.{Refusal}
use Rattle.purge.specs.State.{epsilon_of}
use Rattle.purge.specs.declared.state.Held.{Held}
use Rattle.run.specs.Begun.{Begun}
use Rattle.run.proofs.start.Beginning.{begun-small}
use Rattle.test_parts.proofs.purges.purged.Goals as goal

abbrev Small : Held → Type 0
Small held = (held.state.types ≤ held.state.made) × (held.state.made ≤ 128) × (epsilon_of held.state.phase ≤ 65535)

small : {job states : Bytes} {lent cells : ℕ} {area : List ℕ} {held : Held} (none : Held) (r : Result Held Refusal) → Begun job lent cells states area r →
    epsilon job ≤ 65535 → none.state.types ≡ 0 → none.state.made ≡ 0 → epsilon_of none.state.phase ≡ 0 → held ≡ result_unwrap_or r none → Small held
small none (Ok begun) b fits types made phase is = rw is (begun-small b fits)
small none (Err refusal) b fits types made phase is = rw is (omega arith, omega arith, omega arith)

pub header_of-header-requires : goal.header_of-header-requires
header_of-header-requires c = let ok : number (checked c.args.job.now) ≡ 0 = cc in (passed_is _ ok).head

pub purge-left-requires : goal.purge-left-requires
purge-left-requires c =
    let head = c.header_of-header.ensures in
    let begun = c.begin-begun.ensures in
    let none = c.nothing_held.ensures in
    let (few, made, epsilon) = small _ _ begun (omega (arith, head.epsilon_is, head.epsilon_fits)) none.types none.made none.epsilon c.unwrap_or.ensures in
    (few, made, epsilon, omega (arith, begun.states_size), omega (arith, begun.area_size))

pub show_types-requires : goal.show_types-requires
show_types-requires c =
    let ok : number (checked c.args.job.now) ≡ 0 = cc in
    let head = c.header_of-header.ensures in
    let left = c.purge-left.ensures in
    let begun = c.begin-begun.ensures in
    let none = c.nothing_held.ensures in
    let (few, made, epsilon) = small _ _ begun (omega (arith, head.epsilon_is, head.epsilon_fits)) none.types none.made none.epsilon c.unwrap_or.ensures in (
      omega (arith, left.states_size, begun.states_size),
      omega (arith, head.width_is, (passed_is _ ok).width-within.at_most),
      omega (arith, left.made_stays, made),
    )

pub show_links-requires : goal.show_links-requires
show_links-requires c =
    let head = c.header_of-header.ensures in
    let left = c.purge-left.ensures in
    let begun = c.begin-begun.ensures in
    let none = c.nothing_held.ensures in
    let (few, made, epsilon) = small _ _ begun (omega (arith, head.epsilon_is, head.epsilon_fits)) none.types none.made none.epsilon c.unwrap_or.ensures in (
      omega (arith, left.area_size, begun.area_size),
      omega (arith, left.no_more, few, made),
    )
