-- A clause that leads joins its bucket, another one none. Assumes nothing.
use mathlib.Core.Path.{sym, ◌∙◌}
use Rattle.index_writer.specs.Chains.{bucket_at}
use Rattle.index_writer.proofs.LeaderLaws.{leads-once, leader-passed}
use Rattle.index_writer.proofs.columns.next_leader.Goals as goal

pub chained_leader-leader-requires-clause-bucket_value : goal.chained_leader-leader-requires-clause-bucket_value
unfolding bucket_at
chained_leader-leader-requires-clause-bucket_value c = c.bucket_of-bucket.ensures

pub returns-then-leader-j-clause-chained_2 : goal.returns-then-leader-j-clause-chained_2
unfolding bucket_at
returns-then-leader-j-clause-chained_2 c =
    c.push.ensures.chained _ c.requires.chained
    (leads-once _ _ _ _ c.bucket_of-bucket.ensures.0 (sym c.chained_leader-leader.ensures ∙ c.if-leader-j.true))

pub returns-else-leader-j-clause-chained_2 : goal.returns-else-leader-j-clause-chained_2
returns-else-leader-j-clause-chained_2 c =
    leader-passed _ _ _ _ _ c.requires.chained (λ e. c.if-leader-j.false (c.chained_leader-leader.ensures ∙ e))
