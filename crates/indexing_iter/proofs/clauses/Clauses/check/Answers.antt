-- 3, and then 4: the first refusal is handed on. Assumes nothing.
use mathlib.Core.Path.{◌≡◌, refl}
use lib.ListN.{length}
use Prim.Native.Nat.{◌/◌}
use Rattle.std.proofs.lemmas.Result.{err_from_is_err_and}
use Rattle.records.proofs.Laws.{length-records_of}
use Rattle.indexing_iter.specs.Checks.{check_starts}
use Rattle.indexing_iter.proofs.clauses.Clauses.check.Goals.{After-check_starts}
use Rattle.indexing_iter.proofs.clauses.Clauses.check.Goals as goal

-- the code's end by its bytes
starts : (c : After-check_starts) → c.check_starts.result ≡ check_starts (length c.args.reader.now.code.now / 16) c.args.starts.now
starts c = rw (c.capacity.ensures, length-records_of c.args.reader.now.code.now) at c.check_starts.ensures

pub returns-in_err-check_starts-clause-value : goal.returns-in_err-check_starts-clause-value
returns-in_err-check_starts-clause-value c =
    let r = c.from_residual-in_err-check_starts in
    let p = err_from_is_err_and r.result r.ensures.1 in
    let s = starts (goal.at.returns-in_err-check_starts-clause-value c).After-check_starts in
    rw (p.1, p.2, ← c.check_size.ensures, c.in_ok-check_size.was, ← s, c.in_err-check_starts.was) refl

pub returns-clause-value : goal.returns-clause-value
returns-clause-value c =
    let s = starts (goal.at.returns-clause-value c).After-check_starts in
    rw (← c.check_size.ensures, c.in_ok-check_size.was, ← s, c.in_ok-check_starts.was) refl
