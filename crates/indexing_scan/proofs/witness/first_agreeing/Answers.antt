-- The first of the clauses' offsets at which the clause agrees. Assumes nothing.
use mathlib.Core.Path.{sym, ◌∙◌}
use Prim.Native.Nat.{suc}
use native.Mathlib.Numerals.{add-one}
use borrow.Author.Rules.{rules}
use Rattle.std.proofs.Common.{tests}
use Rattle.std.proofs.lemmas.Iterator.{YieldsList-from_slice, YieldsList-from_map}
use Rattle.std.proofs.lemmas.Iterator.Adapters.{serves_from_places, option_map_id}
use Rattle.std.proofs.lemmas.Iterator.Search.{find_from_yields_List}
use Rattle.indexing_iter.specs.Classes.{class_of}
use Rattle.indexing_iter.specs.Clauses.{offsets_of}
use Rattle.indexing_scan.specs.Agree.{agree}
use Rattle.indexing_scan.specs.Calls.{agreeing}
use Rattle.indexing_scan.specs.Readings.{predicate_of, asked_by}
use Rattle.indexing_scan.proofs.WitnessLaws.{start-at, offset-at, find-first}
use Rattle.indexing_scan.proofs.witness.first_agreeing.Goals as goal

pub find-requires-clause-can : goal.find-requires-clause-can
find-requires-clause-can c = let p = c.args.query.now.program in (
  search rules,
  serves_from_places (YieldsList-from_slice p.starts.now (rw c.map.ensures.source c.iter.ensures.rest)) (λ x q r. search (rules, tests))
      (λ x k h e. let o = start-at class_of p.settings.arity p.code.now p.starts.now p.checked k x.now h e in search (rules, o)),
)

pub find-requires-clause-callable : goal.find-requires-clause-callable
find-requires-clause-callable c = let p = c.args.query.now.program in
    serves_from_places
    (YieldsList-from_map _ suc (YieldsList-from_slice p.starts.now (rw c.map.ensures.source c.iter.ensures.rest)) c.map.ensures.closure (λ x r q k. search (rules, tests, add-one x.now)))
    (λ x q r. search (rules, tests))
    (λ x k h e. let o = offset-at class_of p.settings.arity p.code.now p.starts.now p.checked k x h e in search (rules, o))

pub returns : goal.returns
unfolding agreeing
returns c = let p = c.args.query.now.program in
    let t = agree (predicate_of p) (asked_by c.args.query.now) in
    sym (option_map_id c.find.result)
    ∙ find_from_yields_List t _ _ c.find.result c.find.ensures.ran
    (YieldsList-from_map _ suc (YieldsList-from_slice p.starts.now (rw c.map.ensures.source c.iter.ensures.rest)) c.map.ensures.closure (λ x r q k. search (rules, tests, add-one x.now)))
    (λ x b q k. search (rules, tests))
    ∙ find-first t (offsets_of p.starts.now)
