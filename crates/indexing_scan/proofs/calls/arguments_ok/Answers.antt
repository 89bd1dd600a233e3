use mathlib.Core.Path.{refl, ◌∙◌}
use Prim.Native.Nat.{ℕ}
use native.Mathlib.Omega.{arith}
use lib.ListN.{get_or}
use borrow.Author.Rules.{rules}
use Rattle.std.proofs.Common.{tests}
use Rattle.std.proofs.lemmas.Iterator.{YieldsList-from_range}
use Rattle.std.proofs.lemmas.Iterator.Search.{all_from_yields_List}
use Rattle.records.specs.Records.{records_of, zero_rec}
use Rattle.indexing_scan.specs.Calls.{argument_ok}
use Rattle.indexing_scan.proofs.Ranges.{all-records}
use Rattle.indexing_scan.proofs.calls.arguments_ok.Goals as goal

pub returns : goal.returns
returns c = let rs = records_of c.args.call.now in
    all_from_yields_List (λ (i : ℕ). argument_ok (get_or rs i zero_rec)) _ _ c.all.result c.all.ensures.ran (YieldsList-from_range 0 c.capacity.result c.capacity.result refl (omega arith))
    (λ x b q k. search (rules, tests))
    ∙ rw c.capacity.ensures (all-records argument_ok rs)
