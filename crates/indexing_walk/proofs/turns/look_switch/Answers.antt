use lib.ListN.{take}
use Rattle.records.specs.Records.{records_of}
use Rattle.indexing_walk.proofs.FollowLaws.{looked, chosen}
use Rattle.indexing_walk.proofs.turns.look_switch.Goals as goal

pub returns-in-Only : goal.returns-in-Only
returns-in-Only c = let a = c.args in
    let rs = take a.w.count (records_of a.index.now) in
    let e = c.stored-stored.ensures in
    looked rs (records_of a.index.now) a.w.at a.w.line c.skip_items-end.result a.q
    c.choose_entry.result _ (rw (e.0, e.1) at c.skip_items-end.ensures.0) c.choose_entry.ensures
    (chosen rs a.w.at a.w.line c.in-Only.word c.choose_entry.result c.follow.result c.in-Only.is (rw (e.0, e.1) at c.follow.ensures))
