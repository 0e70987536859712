-- `checks::check_layout` meets its contract: it tries what is left behind WIDTH.
use native.Mathlib.Omega.{arith}
use borrow.Author.Tests.{ne_eqb}
use Rattle.job.proofs.contents.Stages.{agree, differ, sized, few-states}
use Rattle.job.proofs.checks.check_layout.Goals as goal

pub returns-then-word_at-ne-JOB_HEAD : goal.returns-then-word_at-ne-JOB_HEAD
returns-then-word_at-ne-JOB_HEAD c =
    let w = c in
    rw (sized w.requires, differ w.word_at.ensures.is c.if-word_at-ne-JOB_HEAD.true)

pub returns-then-word_at-m : goal.returns-then-word_at-m
returns-then-word_at-m c =
    let w2 = c in
    let w = w2 in
    rw (
      sized w.requires,
      agree w.word_at.ensures.is w2.if-word_at-ne-JOB_HEAD.false,
      differ w2.word_at-2.ensures.is c.if-word_at-m.true,
    )

pub overflow_mul-whole-2 : goal.overflow_mul-whole-2
overflow_mul-whole-2 c = omega (arith, few-states c.requires)

pub overflow_add-whole-2 : goal.overflow_add-whole-2
overflow_add-whole-2 c = omega (arith, few-states c.requires)

pub returns-then-word_at-whole : goal.returns-then-word_at-whole
returns-then-word_at-whole c =
    let w3 = c in
    let w2 = w3 in
    let w = w2 in
    rw (
      sized w.requires,
      agree w.word_at.ensures.is w2.if-word_at-ne-JOB_HEAD.false,
      agree w2.word_at-2.ensures.is w3.if-word_at-m.false,
      differ w3.word_at-3.ensures.is c.if-word_at-whole.true,
    )

pub returns-then-job-whole : goal.returns-then-job-whole
returns-then-job-whole c =
    let w3 = c in
    let w2 = w3 in
    let w = w2 in
    rw (
      sized w.requires,
      agree w.word_at.ensures.is w2.if-word_at-ne-JOB_HEAD.false,
      agree w2.word_at-2.ensures.is w3.if-word_at-m.false,
      agree w3.word_at-3.ensures.is c.if-word_at-whole.false,
      ne_eqb _ _ c.if-job-whole.true,
    )

pub returns : goal.returns
returns c = c.check_contents.ensures
