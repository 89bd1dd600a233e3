-- Each field begins before the place that it was given. Assumes nothing.
use lib.ListN.{drop}
use Rattle.listing.proofs.TextLaws.{line-fields}
use Rattle.listing.proofs.put_line.Goals as goal

pub returns-clause-text_after : goal.returns-clause-text_after
returns-clause-text_after c = let a = c.args in
    let f1 = c.put_field-long_at in
    let f2 = c.put_field-word_at in
    let f3 = c.put_field-half_at in
    let f4 = c.put_field-sub_at in
    let f5 = c.put_field in
    line-fields a.r _ _ _ _ _ (drop a.end a.text.now) f1.ensures.text_after (rw c.from.ensures at f2.ensures.text_after)
    (rw c.from-2.ensures at f3.ensures.text_after) (rw c.from-3.ensures at f4.ensures.text_after) (rw c.from-4.ensures at f5.ensures.text_after)
