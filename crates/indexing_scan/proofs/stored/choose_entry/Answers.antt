-- The choice in a switch: the entries of the group are counted, and one is found. Assumes nothing.
use borrow.Author.Rules.{rules}
use native.Mathlib.Omega.{arith}
use mathlib.Core.Path.{◌≡◌, ap, ◌∙◌}
use Rattle.std.proofs.Common.{tests}
use Rattle.records.specs.Records.{records_of}
use Rattle.indexing_iter.specs.Groups.{group_code}
use Rattle.indexing_scan.specs.Places.{in_group, has_key, up_to, choose_rec}
use Rattle.indexing_scan.proofs.ChooseLaws.{ends-none, ends-only, only-within, ends-lacking, ends-equal}
use Rattle.indexing_scan.proofs.stored.choose_entry.Goals.{After-find_record-place, After-find_record-place-2}
use Rattle.indexing_scan.proofs.stored.choose_entry.Goals as goal

-- the place of the first entry of the group, and of the first with an equal key
of-group : (c : After-find_record-place) → c.find_record-place.result ≡ up_to (in_group (group_code c.group_of-g.result)) (records_of c.part-entries.result.now)
of-group c = c.find_record-place.ensures.first (in_group (group_code c.group_of-g.result)) (λ r b e. search (rules, tests))

of-key : (c : After-find_record-place-2) → c.find_record-place-2.result ≡ up_to (has_key c.args.q) (records_of c.part-entries.result.now)
of-key c = c.find_record-place-2.ensures.first (has_key c.args.q) (λ r b e. search (rules, tests))

pub returns-then-count-eq0 : goal.returns-then-count-eq0
returns-then-count-eq0 c =
    let p = c.part-entries in
    let g = c.group_of-g in
    let n = c.count_group-count in
    ends-none c.args.q (records_of p.result.now) (group_code g.result) n.result g.ensures n.ensures c.if-count-eq0.true ∙ ap (choose_rec c.args.q) p.ensures

pub get-requires : goal.get-requires
get-requires c =
    let g = c.group_of-g in
    let n = c.count_group-count in
    let f = of-group (goal.at.get-requires c).After-find_record-place in
    only-within c.args.q (records_of c.part-entries.result.now) (group_code g.result) n.result g.ensures n.ensures c.if-count-eq1.true c.find_record-place.result f

pub returns-then-count-eq1 : goal.returns-then-count-eq1
returns-then-count-eq1 c =
    let p = c.part-entries in
    let g = c.group_of-g in
    let n = c.count_group-count in
    let f = of-group (goal.at.returns-then-count-eq1 c).After-find_record-place in
    ends-only c.args.q (records_of p.result.now) (group_code g.result) n.result g.ensures n.ensures c.if-count-eq1.true c.find_record-place.result f c.get.result c.get.ensures
    ∙ ap (choose_rec c.args.q) p.ensures

pub returns-then-capacity-place : goal.returns-then-capacity-place
returns-then-capacity-place c =
    let p = c.part-entries in
    let g = c.group_of-g in
    let n = c.count_group-count in
    let f = of-key (goal.at.returns-then-capacity-place c).After-find_record-place-2 in
    ends-lacking c.args.q (records_of p.result.now) (group_code g.result) n.result g.ensures n.ensures c.if-count-eq0.false c.if-count-eq1.false c.find_record-place-2.result f (omega arith)
    ∙ ap (choose_rec c.args.q) p.ensures

pub returns : goal.returns
returns c =
    let p = c.part-entries in
    let g = c.group_of-g in
    let n = c.count_group-count in
    let f = of-key (goal.at.returns c).After-find_record-place-2 in
    ends-equal c.args.q (records_of p.result.now) (group_code g.result) n.result g.ensures n.ensures c.if-count-eq0.false c.if-count-eq1.false c.find_record-place-2.result f
    (omega arith) c.get-2.result c.get-2.ensures
    ∙ ap (choose_rec c.args.q) p.ensures
