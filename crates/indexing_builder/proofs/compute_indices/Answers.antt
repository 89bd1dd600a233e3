-- `compute_indices` hands a refusal on, and builds where the checks passed. Assumes nothing.
use Rattle.std.proofs.lemmas.Result.{err_from_is_err_and}
use Rattle.indexing_builder.proofs.BuilderLaws.{refused-by}
use Rattle.indexing_builder.proofs.compute_indices.Goals as goal

pub returns-in_err-build : goal.returns-in_err-build
returns-in_err-build c =
    let a = c.args in
    let p = err_from_is_err_and c.from_residual.result c.from_residual.ensures.1 in
    rw (p.1, p.2) (refused-by a.code.now a.starts.now a.settings a.c a.index.now _ c.in_err-build.ensures.value)

pub returns : goal.returns
returns c =
    let m = c.in_ok-build.ensures.made in
    rw (m.0, m.1, m.2, m.3) at c.build_checked.ensures
