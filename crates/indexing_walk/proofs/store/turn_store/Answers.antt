use Rattle.indexing_walk.proofs.StandLaws.{demand-in, ready-in}
use Rattle.indexing_walk.proofs.LineLaws.{place_in}
use Rattle.indexing_walk.proofs.ExpandLaws.{read_count}
use Rattle.indexing_walk.proofs.store.turn_store.Goals as goal

pub stored-stored-requires : goal.stored-stored-requires
stored-stored-requires c = (place_in (ready-in c.args.program.now c.requires.stands)).1

-- both lists have room for the offsets of the line
pub slice_bounds-store_line-end : goal.slice_bounds-store_line-end
slice_bounds-store_line-end c =
    let due = demand-in c.args.program.now c.requires.stands c.requires.table in
    let e = c.stored-stored.ensures in
    let q = c.first_offset-q in
    let m = c.count_offsets-m in
    (read_count due q.result m.result (rw (e.0, e.1) at q.ensures.0) (rw (e.0, e.1) at m.ensures.0)).2
