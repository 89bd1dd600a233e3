use Prim.Native.Nat.{ℕ}
use borrow.Author.Rules.{rules}
use Rattle.std.proofs.Common.{tests}
use Rattle.std.proofs.lemmas.Iterator.{YieldsList-from_slice}
use Rattle.std.proofs.lemmas.Iterator.Adapters.{serves_from_places}
use Rattle.std.proofs.lemmas.Iterator.Search.{any_from_yields_List}
use Rattle.indexing_iter.specs.Clauses.{known}
use Rattle.indexing_iter.specs.Keys.{is_open}
use Rattle.indexing_iter.specs.Readings.{keys_by}
use Rattle.indexing_scan.specs.Unstored.{any_open}
use Rattle.indexing_scan.proofs.HeldLaws.{known_in}
use Rattle.indexing_scan.proofs.unstored.any_open.Goals as goal

pub any-requires-clause-callable : goal.any-requires-clause-callable
any-requires-clause-callable c = let l = c.args.clauses.now in
    serves_from_places (YieldsList-from_slice l c.iter.ensures.rest) (λ x q r. search (rules, tests))
    (λ x k h e. let m = known_in (known c.args.program.now.starts.now) l x.now k c.requires h e in search rules)

pub returns : goal.returns
unfolding any_open
returns c =
    let a = c.args in
    let K = keys_by a.program.now in
    any_from_yields_List (λ (o : ℕ). is_open (K o a.a)) _ _ c.any.result c.any.ensures.ran (YieldsList-from_slice a.clauses.now c.iter.ensures.rest)
    (λ x b q k. search (rules, tests))
