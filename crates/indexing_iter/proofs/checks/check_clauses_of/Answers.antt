-- 3 to 7: the first refusal is handed on. Assumes nothing.
use mathlib.Core.Path.{refl}
use Rattle.std.proofs.lemmas.Result.{err_from_is_err_and}
use Rattle.indexing_iter.specs.Readings.{class_by}
use Rattle.indexing_iter.proofs.CheckLaws.{clauses-after}
use Rattle.indexing_iter.proofs.checks.check_clauses_of.Goals as goal

pub returns-in_err-clauses : goal.returns-in_err-clauses
returns-in_err-clauses c = let a = c.args in
    let p = err_from_is_err_and c.from_residual.result c.from_residual.ensures.1 in
    rw (p.1, p.2, clauses-after (class_by a.reader.now) a.arity a.reader.now.code.now a.starts.now, ← c.in_err-clauses.ensures.value) refl

pub returns : goal.returns
returns c = let a = c.args in
    let made = c.in_ok-clauses.ensures.made in
    rw (clauses-after (class_by a.reader.now) a.arity a.reader.now.code.now a.starts.now, ← c.in_ok-clauses.ensures.value)
    (rw (made.0, made.1, made.2) at c.check_clauses.ensures)
