-- `expansion::expand_switch` compares the size with the capacity, and then writes. Assumes nothing.
use mathlib.Core.Path.{◌≡◌, refl, ap}
use mathlib.Core.List.{List}
use Prim.Native.Nat.{ℕ, ◌+◌, ◌-◌, ◌≤◌}
use native.Mathlib.Omega.{arith}
use lib.ListN.{length}
use Rattle.records.specs.declared.Rec.{Rec}
use Rattle.index_writer.specs.Written.{switch_in, new_lines_by}
use Rattle.index_writer.proofs.IndexLaws.{switch-some}
use Rattle.indexing_builder.proofs.ExpansionLaws.{answer-none, answer-stored}
use Rattle.indexing_builder.proofs.expansion.expand_switch.Goals.{After-new_lines_room, After-switch_room-k}
use Rattle.indexing_builder.proofs.expansion.expand_switch.Goals as goal

-- the rooms of the switch and of the new lines
switch-room : (c : After-switch_room-k) → let a = c.args in
    let switch : List Rec = switch_in a.columns.now (a.t.lines - a.t.line) in
    (c.switch_room-k.result ≡ length switch) × (1 ≤ length switch)
switch-room c =
    let a = c.args in
    let l = a.columns.now.lines in
    let h = l.rooms.buckets.heads in
    let arg = l.rooms.switched.arg in
    let d = a.t.lines - a.t.line in (
      c.switch_room-k.ensures.by_index a.columns.now.bits.now l.offs.now arg d,
      switch-some h.leaders.now h.heads.now a.columns.now.bits.now l.offs.now h.dynamic arg d,
    )

lines-room : (c : After-new_lines_room) → c.new_lines_room.result ≡ length (new_lines_by c.args.columns.now.lines c.args.t.lines)
lines-room c = let l = c.args.columns.now.lines in c.new_lines_room.ensures.by_index l.offs.now l.tags.now c.args.t.lines

pub overflow_sub-k : goal.overflow_sub-k
overflow_sub-k c = omega (arith, switch-room (goal.at.overflow_sub-k c).After-switch_room-k)

pub returns-then-t-count : goal.returns-then-t-count
returns-then-t-count c =
    let g = goal.at.returns-then-t-count c in
    record {
      answer = answer-none c.args.t.capacity _ _ (omega (arith, switch-room g.After-switch_room-k, lines-room g.After-new_lines_room, c.if-t-count));
      leaves = refl;
    }

pub write_switch-requires : goal.write_switch-requires
write_switch-requires c =
    let g = goal.at.write_switch-requires c in
    let s = switch-room g.After-switch_room-k in
    record {
      placed = c.requires.placed;
      line_len = omega (arith, s);
      lines_bound = omega (arith, s, lines-room g.After-new_lines_room, c.if-t-count);
    }

pub returns : goal.returns
returns c =
    let t = c.args.t in
    let g = goal.at.returns c in
    let n = c.count_new_lines-made in
    record {
      answer =
          answer-stored t.capacity _
          (omega (arith, switch-room g.After-switch_room-k, lines-room g.After-new_lines_room)) (ap (λ (x : ℕ). t.lines + x) n.ensures.value) c.if-t-count.false;
      leaves = c.write_switch.ensures;
    }
