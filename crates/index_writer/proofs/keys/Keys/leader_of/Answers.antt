-- The places from i on give the leader of clause j. Assumes nothing.
use Rattle.index_writer.proofs.ColumnLaws.{leader-start, leader-step, leader-none}
use Rattle.index_writer.proofs.keys.Keys.leader_of.Goals as goal

pub loop-i-init : goal.loop-i-init
loop-i-init c = leader-start _ _ _

pub returns-then-same_at : goal.returns-then-same_at
returns-then-same_at c = let l = c.loop-i in
    rw (leader-step _ _ _ _ c.loop-i-test.true, ← c.same_at.ensures, c.if-same_at.true) at l.invariant

pub loop-i-preserved : goal.loop-i-preserved
loop-i-preserved c = let l = c.loop-i in
    rw (leader-step _ _ _ _ c.loop-i-test.true, ← c.same_at.ensures, c.if-same_at.false) at l.invariant

pub returns : goal.returns
returns c = rw (leader-none _ _ _ _ c.loop-i-test.false) at c.loop-i.invariant
