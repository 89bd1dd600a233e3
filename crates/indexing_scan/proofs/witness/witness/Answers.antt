use mathlib.Core.Path.{sym}
use Rattle.std.proofs.lemmas.Result.{err_from_is_err_and}
use Rattle.indexing_iter.specs.Classes.{class_of}
use Rattle.indexing_scan.proofs.WitnessLaws.{refused-first, refused-next, found_first}
use Rattle.indexing_scan.proofs.witness.witness.Goals as goal

pub returns-in_err-program : goal.returns-in_err-program
returns-in_err-program c =
    let a = c.args in
    let p = err_from_is_err_and c.from_residual.result c.from_residual.ensures.1 in
    rw (p.1, p.2) (refused-first class_of a.code.now a.starts.now a.settings a.call.now _ (sym c.in_err-program.ensures.value))

pub returns-in_err-check_call : goal.returns-in_err-check_call
returns-in_err-check_call c =
    let a = c.args in
    let r = c.from_residual-in_err-check_call in
    let p = err_from_is_err_and r.result r.ensures.1 in
    rw (p.1, p.2) (refused-next class_of a.code.now a.starts.now a.settings a.call.now (sym c.in_ok-program.ensures.value) _ (sym c.in_err-check_call.ensures))

pub returns : goal.returns
returns c =
    let a = c.args in
    let m = c.in_ok-program.ensures.made in
    let f = rw (m.0, m.1, m.2) at c.first_agreeing.ensures in
    found_first class_of a.code.now a.starts.now a.settings a.call.now (sym c.in_ok-program.ensures.value) c.first_agreeing.result (sym c.in_ok-check_call.ensures) f
