-- `expansion::expand_dead` compares the size with the capacity, and then writes the dead table into the gap that it opens. Assumes nothing.
use mathlib.Core.Path.{◌≡◌, refl}
use mathlib.Core.List.{List, []}
use Prim.Native.Nat.{◌+◌, ◌-◌, ◌≤◌}
use native.Mathlib.Omega.{arith}
use lib.ListN.{length}
use Rattle.records.specs.declared.Rec.{Rec}
use Rattle.records.proofs.MoveLaws.{splice-steps}
use Rattle.records.proofs.Grown.{wrote_none}
use Rattle.index_writer.specs.Written.{dead_by}
use Rattle.indexing_builder.proofs.ExpansionLaws.{answer-stored, dead-some}
use Rattle.indexing_builder.proofs.expansion.expand_dead.Goals.{After-dead_room-more}
use Rattle.indexing_builder.proofs.expansion.expand_dead.Goals as goal

-- its room
room : (c : After-dead_room-more) → let a = c.args in let dead : List Rec = dead_by a.whole.now a.t.arg in
    (c.dead_room-more.result ≡ length dead) × (1 ≤ length dead)
room c =
    let a = c.args in
    (c.dead_room-more.ensures.by_index a.whole.now.offs.now, dead-some a.whole.now.opens.leaders.now a.whole.now.opens.opens.now a.whole.now.offs.now a.t.arg)

pub overflow_sub-more : goal.overflow_sub-more
overflow_sub-more c = omega (arith, room (goal.at.overflow_sub-more c).After-dead_room-more)

pub returns : goal.returns
returns c =
    let a = c.args in
    let r = room (goal.at.returns c).After-dead_room-more in
    let k = c.dead_room-more.result - 1 in
    let o = c.open_gap in
    let w = c.put_dead in
    record {
      answer = answer-stored a.t.capacity _ (omega (arith, r)) (omega arith) c.if-t-total.false;
      leaves =
          splice-steps a.index.now o.new.index w.new.index w.new.index a.t.at a.t.count k (dead_by a.whole.now a.t.arg) []
          (omega (arith, c)) (omega (arith, c, c.if-t-total)) (omega (arith, r)) o.ensures w.ensures.1 (wrote_none w.new.index (a.t.count + k) [] refl);
    }
