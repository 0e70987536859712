-- `lookup::place_in` meets its contract: the tests are those of the lookup, in its order.
use Rattle.std.proofs.Common.{arith}
use Rattle.lookup.proofs.matching.Match.{matched-is}
use Rattle.lookup.proofs.Rows.{past, sampled_out, sampled-row, inferred_out, inferred-row}
use Rattle.lookup.proofs.place_in.Goals as goal

pub word_at-m-requires : goal.word_at-m-requires
word_at-m-requires c = let p = matched-is c.args.job.now c.args.block.now c.requires in omega arith

pub returns-then-t-number : goal.returns-then-t-number
returns-then-t-number c = past _ _ _ c.requires (omega arith)

pub word_at-requires : goal.word_at-requires
word_at-requires c = let p = matched-is c.args.job.now c.args.block.now c.requires in omega arith

pub returns-then-word_at-place : goal.returns-then-word_at-place
returns-then-word_at-place c = sampled_out _ _ _ c.requires (omega arith) (omega arith) (omega arith)

pub returns-then-number-s : goal.returns-then-number-s
returns-then-number-s c = sampled-row _ _ _ c.requires (omega arith) (omega arith) c.word_at-m.ensures.is c.word_at-place.ensures.is (omega arith)

pub returns-then-t-s : goal.returns-then-t-s
returns-then-t-s c = inferred_out _ _ _ c.requires (omega arith) (omega arith) (omega arith)

pub returns : goal.returns
returns c = inferred-row _ _ _ c.requires (omega arith) (omega arith) c.word_at-m.ensures.is c.word_at-t.ensures.is c.word_at-place.ensures.is (omega arith)
