-- `choices::put_choice` writes one offset or none. Assumes nothing.
use mathlib.Core.Path.{◌≡◌, sym, ap, ◌∙◌}
use mathlib.Core.List.{◌∷◌, []}
use Prim.Native.Nat.{ℕ, ◌<◌}
use native.Mathlib.Omega.{arith}
use lib.ListN.{length, get_or}
use Rattle.records.specs.Records.{rec_of, records_of}
use Rattle.records.proofs.Laws.{length-records_of}
use Rattle.indexing.specs.Columns.{tag_at}
use Rattle.index_writer.proofs.Left.{one-room, puts_one, puts_none}
use Rattle.index_writer.proofs.LineLaws.{choice-yes, choice-no}
use Rattle.index_writer.specs.Written.{choice_by}
use Rattle.index_writer.proofs.choices.put_choice.Goals.{Then-in_bucket}
use Rattle.index_writer.proofs.choices.put_choice.Goals as goal

-- clause j is in the bucket, so its offset is to be written, and there is room for it
member : (t : Then-in_bucket)
    → let a = t.args in
    choice_by a.choices.now a.settings a.n a.i a.k a.j
    ≡ rec_of 6 (tag_at a.settings.dynamic a.settings.non_counted (get_or a.choices.now.tags.now a.j 0) a.n a.k) 0 (get_or a.choices.now.offs.now a.j 0) 0 ∷ []
member t = let a = t.args in
    choice-yes a.choices.now.leaders.now a.choices.now.offs.now a.choices.now.tags.now a.settings.dynamic a.settings.non_counted a.i a.n a.k a.j (sym t.in_bucket.ensures ∙ t.if-in_bucket.true)

room : (t : Then-in_bucket) → let a = t.args in a.q < length (records_of a.index.now)
room t = one-room (member t) t.requires.j_in_bounds

pub put-requires : goal.put-requires
put-requires c = room (goal.at.put-requires c).Then-in_bucket

pub overflow_add-result : goal.overflow_add-result
overflow_add-result c = omega (arith, room (goal.at.overflow_add-result c).Then-in_bucket, length-records_of c.args.index.now)

pub returns-then-in_bucket : goal.returns-then-in_bucket
returns-then-in_bucket c =
    let a = c.args in
    let w = c.put in
    let r = c.choice.ensures ∙ ap (λ (t : ℕ). rec_of 6 t 0 (get_or a.choices.now.offs.now a.j 0) 0) c.tag_at-tag.ensures in
    puts_one a.index.now w.new.index a.q (member (goal.at.returns-then-in_bucket c).Then-in_bucket) r c.requires.j_in_bounds w.ensures

pub returns : goal.returns
returns c = let a = c.args in
    puts_none a.index.now a.q (choice-no a.choices.now.leaders.now a.choices.now.offs.now a.choices.now.tags.now a.settings.dynamic a.settings.non_counted a.i a.n a.k a.j (sym c.in_bucket.ensures ∙ c.if-in_bucket.false))
