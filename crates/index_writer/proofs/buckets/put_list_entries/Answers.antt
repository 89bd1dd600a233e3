-- `buckets::put_list_entries` writes the entries of the list group. Assumes nothing.
use mathlib.Core.Path.{◌≡◌, sym, ap, ◌∙◌}
use mathlib.Core.List.{◌∷◌, []}
use Prim.Native.Nat.{ℕ, ◌+◌, ◌/◌, ◌%◌, ◌<◌}
use native.Mathlib.Omega.{arith}
use lib.ListN.{length}
use Rattle.records.specs.Records.{rec_of, records_of}
use Rattle.records.proofs.Laws.{length-records_of}
use Rattle.index_writer.proofs.Left.{one-room, room_as, puts_one, puts-as}
use Rattle.index_writer.proofs.BucketLaws.{list-empty, list_full}
use Rattle.index_writer.specs.Written.{entries_by, list_entries_by}
use Rattle.indexing_iter.specs.declared.group.Group.TheVariants.{List as Lists}
use Rattle.index_writer.proofs.buckets.put_list_entries.Goals.{Else-empty_list, Then-empty_list}
use Rattle.index_writer.proofs.buckets.put_list_entries.Goals as goal

-- no clause has a list: one entry is to be written, and there is room for it
none : (t : Then-empty_list) → let a = t.args in list_entries_by a.entries.now (a.d + a.by) ≡ rec_of 5 5 0 (2147483648 + (a.d + a.by)) 0 ∷ []
none t = let a = t.args in list-empty a.entries.now.buckets.heads.leaders.now a.entries.now.buckets.heads.heads.now a.entries.now.bits.now a.entries.now.offs.now a.entries.now.buckets.heads.dynamic (a.d + a.by) (sym t.empty_list.ensures ∙ t.if-empty_list.true)

room : (t : Then-empty_list) → let a = t.args in a.p < length (records_of a.index.now)
room t = one-room (none t) t.requires.by_in_bounds

-- else they are those of the group
some : (t : Else-empty_list)
    → let a = t.args in
    list_entries_by a.entries.now (a.d + a.by) ≡ entries_by a.entries.now Lists (a.d + a.by)
some t = let a = t.args in list_full a.entries.now.buckets.heads.leaders.now a.entries.now.buckets.heads.heads.now a.entries.now.bits.now a.entries.now.offs.now a.entries.now.buckets.heads.dynamic (a.d + a.by) (sym t.empty_list.ensures ∙ t.if-empty_list.false)

pub put-requires : goal.put-requires
put-requires c = room (goal.at.put-requires c).Then-empty_list

pub overflow_add-result : goal.overflow_add-result
overflow_add-result c = omega (arith, room (goal.at.overflow_add-result c).Then-empty_list, length-records_of c.args.index.now)

pub returns-then-empty_list : goal.returns-then-empty_list
returns-then-empty_list c =
    let a = c.args in
    let w = c.put in
    let e = c.entry.ensures ∙ ap (λ (h : ℕ). rec_of 5 (h / 65536 % 256) (h % 65536) c.line_pointer-word.result 0) c.head_of-head.ensures.0 in
    puts_one a.index.now w.new.index a.p (none (goal.at.returns-then-empty_list c).Then-empty_list) (e ∙ ap (λ (x : ℕ). rec_of 5 5 0 x 0) c.line_pointer-word.ensures) c.requires.by_in_bounds w.ensures

pub put_entries-requires-clause-by_in_bounds : goal.put_entries-requires-clause-by_in_bounds
put_entries-requires-clause-by_in_bounds c = room_as c.args.p (some (goal.at.put_entries-requires-clause-by_in_bounds c).Else-empty_list) c.requires.by_in_bounds

pub returns : goal.returns
returns c =
    let a = c.args in
    let w = c.put_entries in
    puts-as a.index.now w.new.index a.p w.result (some (goal.at.returns c).Else-empty_list) w.ensures
