-- `write_index` compares the size with the capacity, and then writes line 0 and its switch. Assumes nothing.
use mathlib.Core.Path.{◌≡◌, refl}
use mathlib.Core.List.{List}
use Prim.Native.Nat.{◌+◌, ◌-◌, ◌≤◌}
use native.Mathlib.Omega.{arith}
use lib.ListN.{length}
use Rattle.records.specs.declared.Rec.{Rec}
use Rattle.index_writer.specs.Written.{switch_in, seed_by, new_lines_by}
use Rattle.indexing.specs.Builder.{capacity_of}
use Rattle.indexing_builder.proofs.BuilderLaws.{answer-refused, answer-done, seed-some, built-steps}
use Rattle.indexing_builder.proofs.write_index.Goals.{After-index_room-room}
use Rattle.indexing_builder.proofs.write_index.Goals as goal

-- the rooms of line 0, of its switch and of the new lines
rooms : (c : After-index_room-room) → let a = c.args in
    let r = c.index_room-room.result in
    let seeds : List Rec = seed_by a.whole.now a.columns.now.lines.rooms.switched in
    let switch : List Rec = switch_in a.columns.now 1 in
    let lines : List Rec = new_lines_by a.columns.now.lines 1 in
    (r.line ≡ length seeds) × (r.more + 1 ≡ length switch) × (r.count ≡ length seeds + length switch + length lines - 1) × (2 ≤ length seeds)
rooms c =
    let w = c.args.whole.now in
    let k = c.args.columns.now in
    let u = c.index_room-room.ensures k.bits.now w.tables.offs.now w.tags.now in
    let v = c.index_room-room.ensures k.bits.now k.lines.offs.now k.lines.tags.now in (
      u.line_is,
      v.more-is,
      omega (arith, u.line_is, v.line_is, v.count-is),
      seed-some w.tables.opens.leaders.now w.tables.opens.opens.now w.tables.offs.now w.tags.now k.lines.rooms.switched.settings k.lines.rooms.switched.arg,
    )

pub returns-then-capacity-room : goal.returns-then-capacity-room
returns-then-capacity-room c =
    let q = c.capacity-capacity.ensures.value in
    record {
      answer = answer-refused (capacity_of c.args.index.now) _ c.args.columns.now.lines.rooms.switched.settings.skip (omega (arith, q, rooms (goal.at.returns-then-capacity-room c).After-index_room-room, c.if-capacity-room));
      leaves = refl;
    }

pub put_seed-requires : goal.put_seed-requires
put_seed-requires c =
    omega (arith, c.capacity-capacity, rooms (goal.at.put_seed-requires c).After-index_room-room, c.if-capacity-room)

pub write_switch-requires : goal.write_switch-requires
write_switch-requires c =
    let r = rooms (goal.at.write_switch-requires c).After-index_room-room in
    record {
      placed = omega (arith, c, c.args.columns.now.lines.rooms.switched.arg_bound, r, c.put_seed.ensures.wrote.count, c.capacity-capacity, c.if-capacity-room);
      line_len = omega (arith, r);
      lines_bound = omega (arith, r, c.if-capacity-room);
    }

pub returns : goal.returns
returns c =
    let a = c.args in
    let s = a.columns.now.lines.rooms.switched in
    let r = rooms (goal.at.returns c).After-index_room-room in
    let n = c.index_room-room.result.line in
    let v = c.put_seed in
    let w = c.write_switch in
    let q = c.capacity-capacity.ensures.value in
    record {
      answer = answer-done (capacity_of a.index.now) _ s.settings.skip (omega (arith, r)) c.variable_offset.ensures (omega (arith, q, c.if-capacity-room));
      leaves = built-steps a.index.now v.new.index w.new.index n (seed_by a.whole.now s) (switch_in a.columns.now 1) (new_lines_by a.columns.now.lines 1) r.0 v.ensures.wrote w.ensures;
    }
