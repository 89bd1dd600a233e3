-- `lines::put_group` writes the lines of a group: turn i writes that of clause i, if it opens one, and its number counts the lines before it.
-- Assumes nothing.
use mathlib.Core.Path.{◌≡◌, refl, sym, ap, ◌∙◌}
use Prim.Native.Nat.{ℕ, ◌+◌}
use native.Mathlib.Omega.{arith}
use mathlib.Core.Bool.{Bool, true}
use Rattle.std.specs.Int.{from_bool}
use Rattle.indexing.specs.Columns.{opens_line, lines_to, line_at, group_lines}
use Rattle.indexing_iter.specs.Groups.{group_number}
use Rattle.index_writer.proofs.BucketLaws.{lines_start, lines_step, lines-le}
use Rattle.index_writer.proofs.Gather.{gather-start, gather-room, gather-more, gather-end}
use Rattle.index_writer.proofs.LineLaws.{line_in, line-yes, line-no}
use Rattle.index_writer.proofs.Left.{puts_none}
use Rattle.index_writer.specs.Written.{new_line_by}
use Rattle.index_writer.proofs.lines.put_group.Goals.{After-opens_line, then-opens_line, else-opens_line}
use Rattle.index_writer.proofs.lines.put_group.Goals as goal

-- whether clause i opens a line, by the settings
opens : (c : After-opens_line)
    → let l = c.args.lines.now in
    c.opens_line.result ≡ opens_line l.rooms.buckets.heads.leaders.now l.rooms.buckets.heads.heads.now l.rooms.switched.settings.dynamic (group_number c.args.g) c.loop-i.i
opens c = rw (c.args.lines.now.rooms.dynamic_is, c.from.ensures) at c.opens_line.ensures

-- what turn i writes if it does
line : (c : After-opens_line) → c.opens_line.result ≡ true
    → let l = c.args.lines.now in
    new_line_by l c.loop-i.number c.loop-i.i
    ≡ line_in l.rooms.buckets.heads.leaders.now l.rooms.buckets.heads.heads.now l.rooms.opens.now l.offs.now l.tags.now l.rooms.switched.settings l.rooms.switched.arg (group_number c.args.g) c.args.first c.loop-i.i
line c e = let l = c.args.lines.now in
    sym (line-yes l.rooms.buckets.heads.leaders.now l.rooms.buckets.heads.heads.now l.rooms.opens.now l.offs.now l.tags.now l.rooms.switched.settings l.rooms.switched.arg (group_number c.args.g) c.loop-i.number c.loop-i.i (sym (opens c) ∙ e))
    ∙ ap (λ (x : ℕ). line_at l.rooms.buckets.heads.leaders.now l.rooms.buckets.heads.heads.now l.rooms.opens.now l.offs.now l.tags.now l.rooms.switched.settings l.rooms.switched.arg (group_number c.args.g) x c.loop-i.i) c.loop-i.invariant.0

-- the lines that the first i + 1 clauses open
lines : (c : After-opens_line)
    → let l = c.args.lines.now in
    lines_to l.rooms.buckets.heads.leaders.now l.rooms.buckets.heads.heads.now l.rooms.switched.settings.dynamic (group_number c.args.g) (c.loop-i.i + 1)
    ≡ lines_to l.rooms.buckets.heads.leaders.now l.rooms.buckets.heads.heads.now l.rooms.switched.settings.dynamic (group_number c.args.g) c.loop-i.i + from_bool c.opens_line.result
lines c = let l = c.args.lines.now in
    lines_step l.rooms.buckets.heads.leaders.now l.rooms.buckets.heads.heads.now l.rooms.switched.settings.dynamic (group_number c.args.g) c.loop-i.i
    ∙ ap (λ (b : Bool). lines_to l.rooms.buckets.heads.leaders.now l.rooms.buckets.heads.heads.now l.rooms.switched.settings.dynamic (group_number c.args.g) c.loop-i.i + from_bool b) (sym (opens c))

pub loop-i-init : goal.loop-i-init
unfolding group_lines
loop-i-init c =
    let a = c.args in (
      lines_start a.lines.now.rooms.buckets.heads.leaders.now a.lines.now.rooms.buckets.heads.heads.now a.lines.now.rooms.switched.settings.dynamic (group_number a.g) a.first,
      lines-le a.lines.now.rooms.buckets.heads.leaders.now a.lines.now.rooms.buckets.heads.heads.now a.lines.now.rooms.switched.settings.dynamic (group_number a.g) 0,
      gather-start _ _ a.index.now a.p c.requires.first_in_bounds,
    )

pub put_new_line-q-requires : goal.put_new_line-q-requires
put_new_line-q-requires c =
    gather-room _ c.loop-i.invariant.2 c.loop-i-test.true (line (goal.at.put_new_line-q-requires c).After-opens_line c.if-opens_line.true)

pub loop-i-preserved : goal.loop-i-preserved
loop-i-preserved c =
    let l = c.args.lines.now in
    let s = (goal.at.loop-i-preserved c).After-opens_line in
    let le = lines-le l.rooms.buckets.heads.leaders.now l.rooms.buckets.heads.heads.now l.rooms.switched.settings.dynamic (group_number c.args.g) (c.loop-i.i + 1) in
    elim c.if-opens_line.branch [
      | then-opens_line w ↦
          let one : from_bool c.opens_line.result ≡ 1 = ap from_bool w.if-opens_line.true in
          let p = w.put_new_line-q in (
            omega (arith, w.number-is, lines s, one),
            le,
            rw (w.index-is, w.q-is) (gather-more p.new.index p.result _ c.loop-i.invariant.2 c.loop-i-test.true (line s w.if-opens_line.true) p.auto.index p.ensures),
          )
      | else-opens_line w ↦
          let none : from_bool c.opens_line.result ≡ 0 = ap from_bool w.if-opens_line.false in
          let e = line-no l.rooms.buckets.heads.leaders.now l.rooms.buckets.heads.heads.now l.rooms.opens.now l.offs.now l.tags.now l.rooms.switched.settings l.rooms.switched.arg (group_number c.args.g) _ c.loop-i.i (sym (opens s) ∙ w.if-opens_line.false) in (
            omega (arith, w.number-is, lines s, none),
            le,
            rw (w.index-is, w.q-is) (gather-more c.loop-i.index c.loop-i.q _ c.loop-i.invariant.2 c.loop-i-test.true (sym e) refl (puts_none c.loop-i.index c.loop-i.q refl)),
          )
    ]

pub returns : goal.returns
unfolding group_lines
returns c = gather-end c.loop-i.invariant.2 c.loop-i-test.false
