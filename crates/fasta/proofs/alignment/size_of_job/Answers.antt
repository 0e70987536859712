-- `alignment::size_of_job` meets its contract: the lengths that were counted tell what else is refused.
use mathlib.Core.Path.{◌≡◌}
use native.Mathlib.Omega.{arith}
use Rattle.std.proofs.Common.{rules, Err, le_refl}
use Rattle.fasta.proofs.alignment.Sizes.{fault-measured, rows_are, rows-within, length_at, none-measured, first-found, first-none, empty-measured, uneven_measured, even-measured, refused_as, sized_as}
use Rattle.fasta.proofs.alignment.size_of_job.Goals as goal

pub returns-in_err-rows : goal.returns-in_err-rows
returns-in_err-rows c =
    let e : c.from_residual.result ≡ Err c.in_err-rows.field-0.0 = search rules in
    rw e (refused_as _ (fault-measured _ c.in_err-rows.ensures))

pub returns-then-rows-eq0 : goal.returns-then-rows-eq0
returns-then-rows-eq0 c = refused_as _ (none-measured _ c.in_ok-rows.ensures c.if-rows-eq0.true)

pub returns-in-Some : goal.returns-in-Some
returns-in-Some c =
    let read = c.in_ok-rows.ensures in
    let (first, here) = first-found _ _ _ (rows-within _ read) c.in-Some.ensures in
    refused_as _ (empty-measured _ read c.if-rows-eq0.false _ first here)

pub returns-in-Some-first_outside : goal.returns-in-Some-first_outside
returns-in-Some-first_outside c =
    let read = c.in_ok-rows.ensures in
    let none = first-none _ _ _ (rows-within _ read) c.in_default.ensures in
    let (first, here) = first-found _ _ _ (rows-within _ read) c.in-Some-first_outside.ensures in
    refused_as _ (uneven_measured _ read c.if-rows-eq0.false _ none (le_refl _) _ first here)

pub returns : goal.returns
returns c =
    let read = c.in_ok-rows.ensures in
    let none = first-none _ _ _ (rows-within _ read) c.in_default.ensures in
    let alike = first-none _ _ _ (rows-within _ read) c.in_default-first_outside.ensures in
    sized_as _ (even-measured _ read c.if-rows-eq0.false _ none (le_refl _) _ alike (le_refl _)) (rows_are _ read) (length_at _ read 0 (omega arith))
