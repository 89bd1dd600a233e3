-- `buckets::put_switch` writes the switch and its entries, by literals, list, structures. Assumes nothing.
use mathlib.Core.List.{List, ◌∷◌, ◌++◌}
use Prim.Native.Nat.{ℕ, ◌+◌}
use native.Mathlib.Omega.{arith}
use Rattle.records.specs.declared.Rec.{Rec}
use Rattle.records.specs.Records.{rec_of}
use Rattle.records.proofs.Laws.{length-records_of}
use Rattle.index_writer.proofs.Left.{Left, left-start, left-place, left-room, left_one, left-run, left-all}
use Rattle.index_writer.proofs.BucketLaws.{switch-parts}
use Rattle.index_writer.specs.declared.clauses.Entries.{Entries}
use Rattle.index_writer.specs.Written.{entries_by, list_entries_by, switch_by}
use Rattle.indexing_iter.specs.declared.group.Group.TheVariants.{Literals, Structures}
use Rattle.index_writer.proofs.buckets.put_switch.Goals.{After-table, After-put, After-put_entries-q, After-put_list_entries-q}
use Rattle.index_writer.proofs.buckets.put_switch.Goals as goal

-- what is left of the switch on arg, which is written from place p of b₀ on: rest, from place q of b on
abbrev LeftOf : Entries → ℕ → ℕ → List ℕ → ℕ → ℕ → List Rec → List ℕ → Type 0
LeftOf e arg by b₀ p q rest b = Left b₀ p (switch_by e arg (1 + by)) q rest b

-- the entries behind the literals', where the lists have x lines; and all, where the structures have y
abbrev behind : Entries → ℕ → ℕ → List Rec
behind e by x = list_entries_by e (1 + by) ++ entries_by e Structures (1 + x + by)

abbrev all : Entries → ℕ → ℕ → ℕ → List Rec
all e by x y = entries_by e Literals (1 + x + y + by) ++ behind e by x

-- all is left to write: the switch, and the entries of the three groups
begin : (c : After-table)
    → let a = c.args in
    LeftOf a.entries.now a.arg a.by a.index.now a.p a.p
    (rec_of 2 0 a.arg 0 0 ∷ all a.entries.now a.by c.list_lines-d3.result c.count_lines.result) a.index.now
begin c =
    left-start _ _ _ _
    (switch-parts _ _ _ _ _ _ (1 + c.args.by) _ _ (omega (arith, c.list_lines-d3.ensures.value)) (omega (arith, rw c.from.ensures at c.count_lines.ensures.value)))
    c.requires.by_in_bounds

-- the switch is written: the entries are left
after-switch : (c : After-put)
    → let a = c.args in
    let rest = all a.entries.now a.by c.list_lines-d3.result c.count_lines.result in
    LeftOf a.entries.now a.arg a.by a.index.now a.p a.p (rec_of 2 0 a.arg 0 0 ∷ rest) a.index.now
    → LeftOf a.entries.now a.arg a.by a.index.now a.p (a.p + 1) rest c.put.new.index
after-switch c L = left_one c.put.new.index _ _ L c.put.auto.index (rw c.table.ensures at c.put.ensures)

-- the literals are written too
after-literals : (c : After-put_entries-q)
    → let a = c.args in
    let x = c.list_lines-d3.result in
    LeftOf a.entries.now a.arg a.by a.index.now a.p (a.p + 1) (all a.entries.now a.by x c.count_lines.result) c.put.new.index
    → LeftOf a.entries.now a.arg a.by a.index.now a.p c.put_entries-q.result (behind a.entries.now a.by x) c.put_entries-q.new.index
after-literals c L = let w = c.put_entries-q in left-run w.new.index w.result _ _ L w.ensures.0 w.auto.index w.ensures.1

-- and the list's
after-lists : (c : After-put_list_entries-q)
    → let a = c.args in
    let x = c.list_lines-d3.result in
    LeftOf a.entries.now a.arg a.by a.index.now a.p c.put_entries-q.result (behind a.entries.now a.by x) c.put_entries-q.new.index
    → LeftOf a.entries.now a.arg a.by a.index.now a.p c.put_list_entries-q.result (entries_by a.entries.now Structures (1 + x + a.by)) c.put_list_entries-q.new.index
after-lists c L = let w = c.put_list_entries-q in left-run w.new.index w.result _ _ L w.ensures.0 w.auto.index w.ensures.1

pub put-requires : goal.put-requires
put-requires c = left-place _ _ (begin (goal.at.put-requires c).After-table)

pub overflow_add-p : goal.overflow_add-p
overflow_add-p c = omega (arith, left-place _ _ (begin (goal.at.overflow_add-p c).After-table), length-records_of c.args.index.now)

pub put_entries-q-requires-clause-by_in_bounds : goal.put_entries-q-requires-clause-by_in_bounds
put_entries-q-requires-clause-by_in_bounds c =
    let g = goal.at.put_entries-q-requires-clause-by_in_bounds c in left-room _ _ (after-switch g.After-put (begin g.After-table))

pub put_list_entries-q-requires-clause-by_in_bounds : goal.put_list_entries-q-requires-clause-by_in_bounds
put_list_entries-q-requires-clause-by_in_bounds c =
    let g = goal.at.put_list_entries-q-requires-clause-by_in_bounds c in
    left-room _ _ (after-literals g.After-put_entries-q (after-switch g.After-put (begin g.After-table)))

pub put_entries-requires-clause-by_in_bounds : goal.put_entries-requires-clause-by_in_bounds
put_entries-requires-clause-by_in_bounds c =
    let g = goal.at.put_entries-requires-clause-by_in_bounds c in
    (after-lists g.After-put_list_entries-q (after-literals g.After-put_entries-q (after-switch g.After-put (begin g.After-table)))).room

pub returns : goal.returns
returns c =
    let g = goal.at.returns c in
    let w = c.put_entries in
    left-all w.new.index w.result _ (after-lists g.After-put_list_entries-q (after-literals g.After-put_entries-q (after-switch g.After-put (begin g.After-table))))
    w.ensures.0 w.auto.index w.ensures.1
