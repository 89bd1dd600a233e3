use mathlib.Core.Path.{◌∙◌, sym}
use lib.ListN.{take}
use Rattle.records.specs.Records.{records_of}
use Rattle.indexing_walk.proofs.FollowLaws.{followed-in, followed-out}
use borrow.Author.Rules.{rules}
use Rattle.indexing_walk.proofs.turns.follow.Goals as goal

pub returns-then-is_internal : goal.returns-then-is_internal
returns-then-is_internal c = let a = c.args in
    followed-in (take a.stored.now.count (records_of a.stored.now.index.now)) a.p a.l a.word c.distance-d.result c.to_line.result
    (search rules) (sym c.is_internal.ensures ∙ c.if-is_internal.true) c.distance-d.ensures c.to_line.ensures.0

pub returns : goal.returns
returns c = let a = c.args in
    followed-out (take a.stored.now.count (records_of a.stored.now.index.now)) a.p a.l a.word (search rules) (sym c.is_internal.ensures ∙ c.if-is_internal.false)
