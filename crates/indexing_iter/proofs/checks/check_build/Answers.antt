-- 1 to 8: the first refusal is handed on; where 1 and 2 passed, c is at most 32. Assumes nothing.
use mathlib.Core.Path.{◌≡◌, refl}
use Rattle.std.proofs.lemmas.Result.{err_from_is_err_and}
use Rattle.indexing_iter.specs.declared.refusal.Refusal.TheVariants.{OpenClause}
use Rattle.indexing_iter.specs.Classes.{class_of}
use Rattle.indexing_iter.specs.Checks.{refuse, check_build, check_clauses_of}
use Rattle.indexing_iter.proofs.Table.{class_in}
use Rattle.indexing_iter.proofs.CheckLaws.{clauses-after}
use Rattle.indexing_iter.proofs.checks.check_build.Goals.{After-check_clauses, After-open_somewhere}
use Rattle.indexing_iter.proofs.checks.check_build.Goals as goal

pub returns-in_err-check_arity : goal.returns-in_err-check_arity
unfolding check_build
returns-in_err-check_arity c =
    let p = err_from_is_err_and c.from_residual.result c.from_residual.ensures.1 in
    rw (p.1, p.2, ← c.check_arity.ensures, c.in_err-check_arity.was) refl

pub returns-in_err-check_chosen : goal.returns-in_err-check_chosen
unfolding check_build
returns-in_err-check_chosen c =
    let r = c.from_residual-in_err-check_chosen in
    let p = err_from_is_err_and r.result r.ensures.1 in
    rw (p.1, p.2, ← c.check_arity.ensures, c.in_ok-check_arity.was, ← c.check_chosen.ensures, c.in_err-check_chosen.was) refl

pub returns-in_err-clauses : goal.returns-in_err-clauses
unfolding check_build
returns-in_err-clauses c =
    let a = c.args in
    let r = c.from_residual-in_err-clauses in
    let p = err_from_is_err_and r.result r.ensures.1 in
    rw (
      p.1,
      p.2,
      ← c.check_arity.ensures,
      c.in_ok-check_arity.was,
      ← c.check_chosen.ensures,
      c.in_ok-check_chosen.was,
      c.classes.ensures,
      clauses-after (class_in c.classes.result) a.arity a.code.now a.starts.now,
      ← c.in_err-clauses.ensures.value,
    ) refl

-- 3 and 4 passed, so that 5 to 7 are the answer of 3 to 7
clauses : (c : After-check_clauses) → c.check_clauses.result ≡ check_clauses_of class_of c.args.arity c.args.code.now c.args.starts.now
clauses c = let a = c.args in
    let made = c.in_ok-clauses.ensures.made in
    rw (c.classes.ensures, clauses-after (class_in c.classes.result) a.arity a.code.now a.starts.now, ← c.in_ok-clauses.ensures.value)
    (rw (made.0, made.1, made.2) at c.check_clauses.ensures)

pub returns-in_err-check_clauses : goal.returns-in_err-check_clauses
unfolding check_build
returns-in_err-check_clauses c =
    let r = c.from_residual-in_err-check_clauses in
    let p = err_from_is_err_and r.result r.ensures.1 in
    rw (
      p.1,
      p.2,
      ← c.check_arity.ensures,
      c.in_ok-check_arity.was,
      ← c.check_chosen.ensures,
      c.in_ok-check_chosen.was,
      ← clauses (goal.at.returns-in_err-check_clauses c).After-check_clauses,
      c.in_err-check_clauses.was,
    ) refl

-- 1 to 7 passed, so that 8 decides
last : (c : After-open_somewhere) → c.check_clauses.result ≡ check_clauses_of class_of c.args.arity c.args.code.now c.args.starts.now
    → let a = c.args in
    check_build class_of a.arity a.c a.code.now a.starts.now ≡ refuse c.open_somewhere.result OpenClause
unfolding check_build
last c e =
    let made = c.in_ok-clauses.ensures.made in
    let keyed = rw (made.0, made.1) at c.open_somewhere.ensures in
    rw (
      ← c.check_arity.ensures,
      c.in_ok-check_arity.was,
      ← c.check_chosen.ensures,
      c.in_ok-check_chosen.was,
      ← e,
      c.in_ok-check_clauses.was,
      c.classes.ensures,
      ← keyed,
    ) refl

pub returns-then-open_somewhere : goal.returns-then-open_somewhere
returns-then-open_somewhere c = let at = goal.at.returns-then-open_somewhere c in
    rw (last at.After-open_somewhere (clauses at.After-check_clauses), c.if-open_somewhere.true) refl

pub returns : goal.returns
returns c = let at = goal.at.returns c in
    rw (last at.After-open_somewhere (clauses at.After-check_clauses), c.if-open_somewhere.false) refl
