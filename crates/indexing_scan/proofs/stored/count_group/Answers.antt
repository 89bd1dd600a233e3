use mathlib.Core.Path.{◌∙◌}
use Prim.Native.Nat.{ℕ}
use native.Mathlib.Omega.{arith}
use lib.ListN.{get_or}
use borrow.Author.Rules.{rules}
use Rattle.std.proofs.Common.{tests}
use Rattle.std.proofs.lemmas.Iterator.{YieldsList-from_range}
use Rattle.std.proofs.lemmas.Iterator.Consumers.{YieldsList-from_filter, count_from_yields_List}
use Rattle.records.specs.Records.{records_of, zero_rec}
use Rattle.indexing_iter.specs.Groups.{group_code}
use Rattle.indexing_scan.specs.Places.{in_group}
use Rattle.indexing_scan.proofs.Ranges.{count-records}
use Rattle.indexing_scan.proofs.stored.count_group.Goals as goal

pub returns : goal.returns
returns c = let rs = records_of c.args.entries.now in
    let t = in_group (group_code c.args.g) in
    count_from_yields_List _ c.count.result c.count.ensures.ran
    (YieldsList-from_filter _ (λ (i : ℕ). t (get_or rs i zero_rec)) (YieldsList-from_range 0 c.capacity.result c.capacity.result c.filter.ensures.source (omega arith)) c.filter.ensures.closure
    (λ x b q k. search (rules, tests)))
    ∙ rw c.capacity.ensures (count-records t rs)
