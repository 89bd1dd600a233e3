-- `index_size` hands a refusal on, and counts where the checks passed. Assumes nothing.
use mathlib.Core.Path.{sym}
use Rattle.std.proofs.lemmas.Result.{err_from_is_err_and}
use Rattle.index_size.proofs.SizeLaws.{refused-by, sized-by}
use Rattle.index_size.proofs.index_size.Goals as goal

pub returns-in_err-build : goal.returns-in_err-build
returns-in_err-build c =
    let a = c.args in
    let p = err_from_is_err_and c.from_residual.result c.from_residual.ensures.1 in
    rw (p.1, p.2) (refused-by a.code.now a.starts.now a.settings a.c _ c.in_err-build.ensures.value)

pub returns : goal.returns
returns c =
    let a = c.args in
    let m = c.in_ok-build.ensures.made in
    sized-by a.code.now a.starts.now a.settings a.c (sym c.in_ok-build.ensures.value) c.size_checked.result (rw (m.0, m.1, m.2, m.3) at c.size_checked.ensures)
