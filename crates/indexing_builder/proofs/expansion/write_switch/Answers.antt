-- `expansion::write_switch` opens the gap, writes the switch into it and the new lines behind all. Assumes nothing.
use mathlib.Core.Path.{◌≡◌, ap}
use mathlib.Core.List.{List}
use Prim.Native.Nat.{ℕ, ◌+◌, ◌-◌}
use native.Mathlib.Omega.{arith}
use lib.ListN.{length}
use Rattle.records.specs.declared.Rec.{Rec}
use Rattle.records.proofs.MoveLaws.{splice-steps}
use Rattle.index_writer.specs.Written.{switch_in, new_lines_by}
use Rattle.indexing_builder.proofs.expansion.write_switch.Goals.{Start}
use Rattle.indexing_builder.proofs.expansion.write_switch.Goals as goal

-- the switch, d the distance of its first line: 1 for a fresh one, and grown it is the lines before less the own line
module _ (s : Start) where
  abbrev switch : ℕ → List Rec
  switch d = switch_in s.args.columns.now d

  grown-first : 1 + (s.args.t.lines - s.args.t.line - 1) ≡ s.args.t.lines - s.args.t.line
  grown-first = omega (arith, s.requires.placed.own)

pub returns : goal.returns
returns c =
    let s = (goal.at.returns c).Start in
    let a = c.args in
    let o = c.open_gap in
    let w = c.put_switch in
    let v = c.put_new_lines in
    rw (← grown-first s)
    (splice-steps a.index.now o.new.index w.new.index v.new.index a.t.at a.t.count a.k
    (switch s (1 + (a.t.lines - a.t.line - 1)))
    (new_lines_by a.columns.now.lines a.t.lines)
    (omega (arith, c)) (omega (arith, c)) (omega (arith, c, ap (λ (d : ℕ). length (switch s d)) (grown-first s))) o.ensures w.ensures.1 v.ensures.1)
