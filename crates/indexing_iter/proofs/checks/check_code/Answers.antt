-- 1, and then 3 to 7. Assumes nothing.
use mathlib.Core.Path.{refl}
use Rattle.std.proofs.lemmas.Result.{err_from_is_err_and}
use Rattle.indexing_iter.specs.Checks.{check_code}
use Rattle.indexing_iter.proofs.checks.check_code.Goals as goal

pub returns-in_err-check_arity : goal.returns-in_err-check_arity
unfolding check_code
returns-in_err-check_arity c =
    let p = err_from_is_err_and c.from_residual.result c.from_residual.ensures.1 in
    rw (p.1, p.2, ← c.check_arity.ensures, c.in_err-check_arity.was) refl

pub returns : goal.returns
unfolding check_code
returns c = rw (← c.check_arity.ensures, c.in_ok-check_arity.was, c.classes.ensures) c.check_clauses_of.ensures
