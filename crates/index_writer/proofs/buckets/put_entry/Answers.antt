-- `buckets::put_entry` writes the entry of a bucket, or nothing. Assumes nothing.
use mathlib.Core.Path.{◌≡◌, sym, ap, ◌∙◌}
use mathlib.Core.List.{◌∷◌, []}
use Prim.Native.Nat.{ℕ, ◌+◌, ◌/◌, ◌%◌, ◌<◌}
use native.Mathlib.Omega.{arith}
use lib.ListN.{length, get_or}
use Rattle.records.specs.declared.Rec.{Rec}
use Rattle.records.specs.Records.{rec_of, records_of}
use Rattle.records.proofs.Laws.{length-records_of}
use Rattle.indexing.specs.Columns.{entry_of}
use Rattle.indexing_iter.specs.Groups.{group_number}
use Rattle.index_writer.proofs.Left.{one-room, puts_one, puts_none}
use Rattle.index_writer.proofs.BucketLaws.{entry-yes, entry-no, pointer_is}
use Rattle.index_writer.specs.Written.{entry_by}
use Rattle.index_writer.proofs.buckets.put_entry.Goals.{Then-opens_bucket}
use Rattle.index_writer.proofs.buckets.put_entry.Goals as goal

-- clause i opens a bucket, so its entry is to be written, and there is room for it
opened : (t : Then-opens_bucket)
    → let a = t.args in
    entry_by a.entries.now a.g (a.d + a.by) a.i
    ≡ entry_of a.entries.now.buckets.heads.leaders.now a.entries.now.buckets.heads.heads.now a.entries.now.bits.now a.entries.now.offs.now a.entries.now.buckets.heads.dynamic (a.d + a.by) a.i ∷ []
opened t = let a = t.args in
    entry-yes a.entries.now.buckets.heads.leaders.now a.entries.now.buckets.heads.heads.now a.entries.now.bits.now a.entries.now.offs.now a.entries.now.buckets.heads.dynamic (group_number a.g) (a.d + a.by) a.i (sym (rw t.from.ensures at t.opens_bucket.ensures) ∙ t.if-opens_bucket.true)

room : (t : Then-opens_bucket) → let a = t.args in a.q < length (records_of a.index.now)
room t = one-room (opened t) t.requires.i_in_bounds

pub put-requires : goal.put-requires
put-requires c = room (goal.at.put-requires c).Then-opens_bucket

pub overflow_add-result : goal.overflow_add-result
overflow_add-result c = omega (arith, room (goal.at.overflow_add-result c).Then-opens_bucket, length-records_of c.args.index.now)

pub returns-then-opens_bucket : goal.returns-then-opens_bucket
returns-then-opens_bucket c =
    let a = c.args in
    let p = c.put in
    let head : ℕ = get_or a.entries.now.buckets.heads.heads.now a.i 0 in
    let e : ℕ → Rec = λ w. rec_of 5 (head / 65536 % 256) (head % 65536) w (get_or a.entries.now.bits.now a.i 0) in
    let w = c.pointer_to-word.ensures ∙ pointer_is a.entries.now.buckets.heads.leaders.now a.entries.now.buckets.heads.heads.now a.entries.now.bits.now a.entries.now.offs.now a.entries.now.buckets.heads.dynamic (a.d + a.by) a.i in
    puts_one a.index.now p.new.index a.q (opened (goal.at.returns-then-opens_bucket c).Then-opens_bucket) (c.entry-entry.ensures ∙ ap e w) c.requires.i_in_bounds p.ensures

pub returns : goal.returns
returns c = let a = c.args in
    puts_none a.index.now a.q
    (entry-no a.entries.now.buckets.heads.leaders.now a.entries.now.buckets.heads.heads.now a.entries.now.bits.now a.entries.now.offs.now a.entries.now.buckets.heads.dynamic (group_number a.g) (a.d + a.by) a.i (sym (rw c.from.ensures at c.opens_bucket.ensures) ∙ c.if-opens_bucket.false))
