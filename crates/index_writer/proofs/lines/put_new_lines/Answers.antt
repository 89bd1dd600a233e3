-- `lines::put_new_lines` writes the lines of the list, the structures and the literals, each group numbered on from the one before. Assumes nothing.
use mathlib.Core.Path.{ap}
use mathlib.Core.List.{List, ◌++◌}
use Prim.Native.Nat.{ℕ, ◌+◌}
use Rattle.records.specs.declared.Rec.{Rec}
use Rattle.index_writer.proofs.Left.{Left, left-start, left-room, left-run, left-all}
use Rattle.index_writer.proofs.LineLaws.{new-parts}
use Rattle.index_writer.specs.declared.clauses.NewLines.{NewLines}
use Rattle.index_writer.specs.Written.{group_lines_by, list_line_by, new_lines_by}
use Rattle.indexing_iter.specs.declared.group.Group.TheVariants.{Literals, Structures}
use Rattle.index_writer.proofs.lines.put_new_lines.Goals.{After-count_lines, After-put_group-q, After-put_list_line-q}
use Rattle.index_writer.proofs.lines.put_new_lines.Goals as goal

-- what is left of the new lines, which are written from place p of b₀ on: rest, from place q of b on
abbrev LeftOf : NewLines → ℕ → List ℕ → ℕ → ℕ → List Rec → List ℕ → Type 0
LeftOf l number b₀ p q rest b = Left b₀ p (new_lines_by l number) q rest b

-- the lines behind those of the list, which are x, where those of the structures are y
abbrev behind : NewLines → ℕ → ℕ → ℕ → List Rec
behind l number x y = group_lines_by l Structures (number + x) ++ group_lines_by l Literals (number + x + y)

-- all is left to write: the lines of the three groups
begin : (c : After-count_lines)
    → let a = c.args in
    LeftOf a.lines.now a.number a.index.now a.p a.p
    (list_line_by a.lines.now a.number ++ behind a.lines.now a.number c.list_lines.result c.count_lines.result) a.index.now
begin c =
    let n : ℕ = c.args.number in
    left-start _ _ _ _
    (new-parts _ _ _ _ _ _ _ _ _ _
    (ap (λ (z : ℕ). n + z) (rw c.args.lines.now.rooms.dynamic_is at c.list_lines.ensures.value))
    (ap (λ (z : ℕ). n + c.list_lines.result + z) (rw (c.args.lines.now.rooms.dynamic_is, c.from.ensures) at c.count_lines.ensures.value)))
    c.requires.number_in_bounds

-- the list's line is written
after-lists : (c : After-put_list_line-q)
    → let a = c.args in
    let rest = behind a.lines.now a.number c.list_lines.result c.count_lines.result in
    LeftOf a.lines.now a.number a.index.now a.p a.p (list_line_by a.lines.now a.number ++ rest) a.index.now
    → LeftOf a.lines.now a.number a.index.now a.p c.put_list_line-q.result rest c.put_list_line-q.new.index
after-lists c L = let w = c.put_list_line-q in left-run w.new.index w.result _ _ L w.ensures.0 w.auto.index w.ensures.1

-- and those of the structures
after-structures : (c : After-put_group-q)
    → let a = c.args in
    let x = c.list_lines.result in
    let y = c.count_lines.result in
    LeftOf a.lines.now a.number a.index.now a.p c.put_list_line-q.result (behind a.lines.now a.number x y) c.put_list_line-q.new.index
    → LeftOf a.lines.now a.number a.index.now a.p c.put_group-q.result (group_lines_by a.lines.now Literals (a.number + x + y)) c.put_group-q.new.index
after-structures c L = let w = c.put_group-q in left-run w.new.index w.result _ _ L w.ensures.0 w.auto.index w.ensures.1

pub put_list_line-q-requires-clause-number_in_bounds : goal.put_list_line-q-requires-clause-number_in_bounds
put_list_line-q-requires-clause-number_in_bounds c = left-room _ _ (begin (goal.at.put_list_line-q-requires-clause-number_in_bounds c).After-count_lines)

pub put_group-q-requires-clause-first_in_bounds : goal.put_group-q-requires-clause-first_in_bounds
put_group-q-requires-clause-first_in_bounds c =
    let g = goal.at.put_group-q-requires-clause-first_in_bounds c in left-room _ _ (after-lists g.After-put_list_line-q (begin g.After-count_lines))

pub put_group-requires-clause-first_in_bounds : goal.put_group-requires-clause-first_in_bounds
put_group-requires-clause-first_in_bounds c =
    let g = goal.at.put_group-requires-clause-first_in_bounds c in
    (after-structures g.After-put_group-q (after-lists g.After-put_list_line-q (begin g.After-count_lines))).room

pub returns : goal.returns
returns c =
    let g = goal.at.returns c in
    let w = c.put_group in
    left-all w.new.index w.result _ (after-structures g.After-put_group-q (after-lists g.After-put_list_line-q (begin g.After-count_lines)))
    w.ensures.0 w.auto.index w.ensures.1
