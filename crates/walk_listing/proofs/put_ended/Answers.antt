-- The parts of the line, each before the one put last. Assumes nothing.
use mathlib.Core.Path.{◌∙◌, ap}
use Prim.Native.Nat.{◌≤◌}
use native.Mathlib.Omega.{arith}
use mathlib.Core.List.{[]}
use lib.ListN.{length, drop_of_length-le}
use Rattle.listing.specs.Text.{decimal}
use Rattle.walk_listing.proofs.TextLaws.{ended-parts}
use Rattle.walk_listing.proofs.put_ended.Goals as goal

pub returns-clause-text_after : goal.returns-clause-text_after
returns-clause-text_after c =
    let n = c.put_number-records_at.ensures in
    let m = c.put_word-mark_at.ensures in
    let t = c.put_field-tables_at.ensures in
    let k = c.put_field-count_at.ensures in
    let l = c.put_field-line_at.ensures in
    let w = c.put_word.ensures in
    let g : length c.args.text.now ≤ 106 = omega (arith, c) in
    ended-parts c.args.e _ _ _ _ _ _ [] (n.text_after ∙ ap (decimal c.args.e.records) (drop_of_length-le c.args.text.now g)) (rw c.mark_word.ensures.value at m.text_after) (rw c.from.ensures at t.text_after)
    k.text_after (rw c.from-2.ensures at l.text_after) (rw c.case_word.ensures.value at w.text_after)
