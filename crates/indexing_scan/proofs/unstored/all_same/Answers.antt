use Prim.Native.Nat.{ℕ}
use borrow.Author.Rules.{rules}
use Rattle.std.proofs.Common.{tests}
use Rattle.std.proofs.lemmas.Iterator.{YieldsList-from_slice}
use Rattle.std.proofs.lemmas.Iterator.Adapters.{serves_from_places}
use Rattle.std.proofs.lemmas.Iterator.Search.{all_from_yields_List}
use Rattle.indexing_iter.specs.Clauses.{known}
use Rattle.indexing_iter.specs.Keys.{same}
use Rattle.indexing_iter.specs.Readings.{keys_by}
use Rattle.indexing_scan.specs.Unstored.{all_same}
use Rattle.indexing_scan.proofs.HeldLaws.{known_in}
use Rattle.indexing_scan.proofs.unstored.all_same.Goals as goal

pub all-requires-clause-callable : goal.all-requires-clause-callable
all-requires-clause-callable c = let l = c.args.clauses.now in
    serves_from_places (YieldsList-from_slice l c.iter.ensures.rest) (λ x q r. search (rules, tests))
    (λ x k h e. let m = known_in (known c.args.program.now.starts.now) l x.now k c.requires h e in search rules)

pub returns : goal.returns
unfolding all_same
returns c =
    let a = c.args in
    let K = keys_by a.program.now in
    all_from_yields_List (λ (o : ℕ). same (K o a.a) a.k) _ _ c.all.result c.all.ensures.ran (YieldsList-from_slice a.clauses.now c.iter.ensures.rest)
    (λ x b q k. search (rules, tests))
