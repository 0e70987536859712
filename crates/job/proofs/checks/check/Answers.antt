-- `checks::check` meets its contract: HEAD, ROWS and WIDTH are tried in their order.
use mathlib.Core.Path.{sym, ◌∙◌}
use borrow.Author.Tests.{lt-ltb, le-ltb}
use Rattle.rules.specs.Job.{checked}
use Rattle.rules.proofs.Job.{within}
use Rattle.job.proofs.checks.check.Goals as goal

pub returns-then-job-lt-JOB_HEAD : goal.returns-then-job-lt-JOB_HEAD
unfolding checked
returns-then-job-lt-JOB_HEAD c = rw (lt-ltb _ _ c.if-job-lt-JOB_HEAD.true)

pub returns-then-outside : goal.returns-then-outside
unfolding checked
returns-then-outside c =
    let w = c in
    rw (le-ltb _ _ w.if-job-lt-JOB_HEAD.false, ← w.word_at-n.ensures.is, ← c.outside.ensures, c.if-outside.true)

pub returns-then-outside-2 : goal.returns-then-outside-2
unfolding checked
returns-then-outside-2 c =
    let w2 = c in
    let w = w2 in
    rw (
      le-ltb _ _ w.if-job-lt-JOB_HEAD.false,
      ← w.word_at-n.ensures.is,
      ← w2.outside.ensures,
      w2.if-outside.false,
      ← w2.word_at-m.ensures.is,
      ← c.outside-2.ensures,
      c.if-outside-2.true,
    )

pub check_layout-requires : goal.check_layout-requires
check_layout-requires c =
    let w2 = c in
    let w = w2 in
    let n = within 1 256 _ (sym w2.outside.ensures ∙ w2.if-outside.false) in
    let m = within 1 64 _ (sym c.outside-2.ensures ∙ c.if-outside-2.false) in
    record {
      head = w.if-job-lt-JOB_HEAD.false;
      rows_are = w.word_at-n.ensures.is;
      some_rows = n.at_least;
      few_rows = n.at_most;
      width_is = w2.word_at-m.ensures.is;
      some_width = m.at_least;
      small_width = m.at_most;
    }

pub returns : goal.returns
returns c = c.check_layout.ensures
