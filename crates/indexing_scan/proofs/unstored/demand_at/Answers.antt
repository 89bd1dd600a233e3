use Rattle.indexing_scan.specs.Unstored.{move_of}
use Rattle.indexing_scan.specs.Readings.{predicate_of}
use Rattle.indexing_scan.proofs.UnstoredLaws.{demand-dead, demand-switch}
use Rattle.indexing_scan.proofs.unstored.demand_at.Goals as goal

pub returns-then-any_open-clause-clauses_after : goal.returns-then-any_open-clause-clauses_after
returns-then-any_open-clause-clauses_after c = let a = c.args in
    let o = c.any_open in
    demand-dead (predicate_of a.program.now) a.a a.q a.clauses.now o.result o.ensures c.if-any_open.true

pub returns-clause-clauses_after : goal.returns-clause-clauses_after
returns-clause-clauses_after c = let a = c.args in
    let o = c.any_open in
    let f = c.follow_new in
    demand-switch (predicate_of a.program.now) a.a a.q a.clauses.now o.result o.ensures (move_of f.result f.new.clauses) c.if-any_open.false f.ensures.clauses_after
