use mathlib.Core.Path.{sym, ◌∙◌}
use native.Mathlib.Omega.{arith}
use Rattle.std.proofs.lemmas.Bool.{both_ways}
use Rattle.indexing_iter.specs.Classes.{class_of}
use Rattle.indexing_iter.proofs.CheckLaws.{code-arity}
use Rattle.indexing_scan.specs.Unstored.{move_of}
use Rattle.indexing_scan.specs.Readings.{predicate_of}
use Rattle.indexing_scan.proofs.UnstoredLaws.{Unmasked, move-masked, move-none, move-over, move-dead, move-unbound, move-switch}
use borrow.Author.Rules.{rules}
use Rattle.indexing_scan.proofs.unstored.narrow.Goals.{After-any_open-open, else-open-via-then-open+else-not-program, else-open-via-else-open}
use Rattle.indexing_scan.proofs.unstored.narrow.Goals as goal

-- behind the first two tests: the argument is not masked, and whether a clause is open is known
unmasked : (c : After-any_open-open)
    → let a = c.args in
    Unmasked (predicate_of a.program.now) a.a a.clauses.now c.any_open-open.result
unmasked c = record { is = sym c.masked.ensures ∙ c.if-masked.false; opens = c.any_open-open.ensures }

pub masked-requires : goal.masked-requires
masked-requires c = let a = c.args in
    (search rules, omega (arith, code-arity class_of a.program.now.settings.arity a.program.now.code.now a.program.now.starts.now a.program.now.checked))

pub returns-then-masked-clause-clauses_after : goal.returns-then-masked-clause-clauses_after
returns-then-masked-clause-clauses_after c = let a = c.args in
    move-masked (predicate_of a.program.now) a.a a.q a.clauses.now (sym c.masked.ensures ∙ c.if-masked.true)

pub returns-then-not-program-clause-clauses_after : goal.returns-then-not-program-clause-clauses_after
returns-then-not-program-clause-clauses_after c =
    move-none (unmasked (goal.at.returns-then-not-program-clause-clauses_after c).After-any_open-open) c.args.q c.if-open.true c.if-not-program.true

pub returns-then-is_open-clause-clauses_after : goal.returns-then-is_open-clause-clauses_after
returns-then-is_open-clause-clauses_after c =
    let a = c.args in
    let u = c.is_open in
    let m = unmasked (goal.at.returns-then-is_open-clause-clauses_after c).After-any_open-open in
    elim c.else-open.branch [
      | else-open-via-then-open+else-not-program w ↦ move-over m a.q u.result u.ensures w.if-open.true w.if-not-program.false c.if-is_open.true
      | else-open-via-else-open w ↦ move-unbound m a.q u.result u.ensures w.if-open.false c.if-is_open.true
    ]

pub returns-then-open-2-clause-clauses_after : goal.returns-then-open-2-clause-clauses_after
returns-then-open-2-clause-clauses_after c =
    let a = c.args in
    let u = c.is_open in
    let m = unmasked (goal.at.returns-then-open-2-clause-clauses_after c).After-any_open-open in
    elim c.else-open.branch [
      | else-open-via-then-open+else-not-program w ↦ move-dead m a.q u.result u.ensures w.if-open.true w.if-not-program.false c.if-is_open.false
      | else-open-via-else-open w ↦ absurd (both_ways _ w.if-open.false c.if-open-2.true)
    ]

pub returns-clause-clauses_after : goal.returns-clause-clauses_after
returns-clause-clauses_after c = let u = c.is_open in
    let f = c.follow_new in
    move-switch (unmasked (goal.at.returns-clause-clauses_after c).After-any_open-open) c.args.q u.result u.ensures (move_of f.result f.new.clauses) c.if-open-2.false c.if-is_open.false
    f.ensures.clauses_after
