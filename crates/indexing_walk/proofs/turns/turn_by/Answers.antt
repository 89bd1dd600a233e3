use Rattle.indexing_walk.proofs.FollowLaws.{put_front}
use borrow.Author.Rules.{rules}
use Rattle.indexing_walk.proofs.turns.turn_by.Goals as goal

pub returns-in-External-clause-listed_by : goal.returns-in-External-clause-listed_by
returns-in-External-clause-listed_by c = rw c.in-External.is (put_front c.args.list.now c.in-External.o (search rules))
