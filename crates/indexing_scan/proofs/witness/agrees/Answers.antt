use mathlib.Core.Path.{◌∙◌}
use Prim.Native.Nat.{ℕ}
use borrow.Author.Rules.{rules}
use Rattle.std.proofs.Common.{tests}
use Rattle.std.proofs.lemmas.Iterator.Adapters.{serves_from_places}
use Rattle.std.proofs.lemmas.Iterator.Search.{all_from_yields_List}
use Rattle.indexing_scan.specs.Agree.{agree_at}
use Rattle.indexing_scan.specs.Readings.{predicate_of, asked_by}
use Rattle.indexing_scan.proofs.CallLaws.{call-records}
use Rattle.indexing_scan.proofs.Ranges.{one-to, in-one-to}
use Rattle.indexing_scan.proofs.WitnessLaws.{all-agree}
use Rattle.indexing_scan.proofs.witness.agrees.Goals as goal

pub all-requires-clause-callable : goal.all-requires-clause-callable
all-requires-clause-callable c =
    let n = call-records c.args.query.now.program.settings.arity c.args.query.now.call.now c.args.query.now.checked in
    let r = c.new.ensures in
    serves_from_places (one-to _ r.start r.end r.exhausted) (λ x q r. search (rules, tests))
    (λ x k h e. let b = in-one-to _ k x h e in search (rules, n, b))

pub returns : goal.returns
returns c =
    let a = c.args in
    let P = predicate_of a.query.now.program in
    let Q = asked_by a.query.now in
    let r = c.new.ensures in
    all_from_yields_List (λ (b : ℕ). agree_at (Q b) (P.key_of a.offset b)) _ _ c.all.result c.all.ensures.ran (one-to c.args.query.now.program.settings.arity r.start r.end r.exhausted)
    (λ x b q k. search (rules, tests))
    ∙ all-agree P Q a.offset a.query.now.program.settings.arity 1
