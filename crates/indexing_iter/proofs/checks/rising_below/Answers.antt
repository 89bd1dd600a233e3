-- Whether the starts rise: the last start and those left give the answer that all of them give. Assumes nothing.
use borrow.Author.Tests.{lt-ltb, le-ltb}
use Rattle.indexing_iter.proofs.CheckLaws.{rising-step, rising-last}
use Rattle.indexing_iter.proofs.checks.rising_below.Goals as goal

pub returns-then-start-last : goal.returns-then-start-last
returns-then-start-last c =
    rw (rising-step c.args.n c.loop-start.last _ c.loop-start.start-index c.loop-start-test.true, le-ltb _ _ c.if-start-last.true) at c.loop-start.invariant

pub loop-start-preserved : goal.loop-start-preserved
loop-start-preserved c =
    rw (rising-step c.args.n c.loop-start.last _ c.loop-start.start-index c.loop-start-test.true, lt-ltb _ _ c.if-start-last.false) at c.loop-start.invariant

pub returns : goal.returns
returns c = rw (rising-last c.args.n c.loop-start.last _ c.loop-start.start-index c.loop-start-test.false) at c.loop-start.invariant
