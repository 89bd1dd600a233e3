use mathlib.Core.Path.{◌≡◌, ◌∙◌, sym}
use Rattle.std.proofs.lemmas.Result.{err_from_is_err_and}
use Rattle.indexing_iter.specs.Refusals.{passed}
use Rattle.indexing_iter.specs.Checks.{check_code}
use Rattle.indexing_iter.specs.Classes.{class_of}
use Rattle.indexing_scan.specs.Calls.{check_call, check_out, check_index}
use Rattle.indexing_walk.proofs.CallingLaws.{same-check, same-walk, refused-1, refused-2, refused-3, refused-4, accepted}
use Rattle.indexing_walk.proofs.switch_on_term.Goals.{In_ok-program, In_ok-check_call, In_ok-check_out, In_ok-check_index}
use Rattle.indexing_walk.proofs.switch_on_term.Goals as goal

-- the checks that have passed
code-passed : (c : In_ok-program) → let a = c.args in check_code class_of a.settings.arity a.code.now a.starts.now ≡ passed
code-passed c = sym c.in_ok-program.ensures.value

call-passed : (c : In_ok-check_call) → let a = c.args in check_call a.settings.arity a.call.now ≡ passed
call-passed c = sym c.in_ok-check_call.ensures

out-is : (c : In_ok-check_out) → let a = c.args in check_out a.starts.now a.out.now ≡ passed
out-is c = sym c.in_ok-check_out.ensures

index_is : (c : In_ok-check_index) → let a = c.args in check_index a.settings a.starts.now a.index.now a.count ≡ passed
index_is c = let a = c.args in
    let made = c.in_ok-program.ensures.made in
    sym (same-check _ a.settings _ a.starts.now a.index.now a.count made.2 made.1) ∙ sym c.in_ok-check_index.ensures

pub returns-in_err-program : goal.returns-in_err-program
returns-in_err-program c = let a = c.args in
    let p = err_from_is_err_and c.from_residual.result c.from_residual.ensures.1 in
    rw (p.1, p.2) (refused-1 a.code.now a.starts.now a.settings a.call.now a.index.now a.count a.out.now _ (sym c.in_err-program.ensures.value))

pub returns-in_err-check_call : goal.returns-in_err-check_call
returns-in_err-check_call c = let a = c.args in
    let p = err_from_is_err_and c.from_residual-in_err-check_call.result c.from_residual-in_err-check_call.ensures.1 in
    rw (p.1, p.2) (refused-2 a.code.now a.starts.now a.settings a.call.now a.index.now a.count a.out.now _
    (code-passed (goal.at.returns-in_err-check_call c).In_ok-program) (sym c.in_err-check_call.ensures))

pub returns-in_err-check_out : goal.returns-in_err-check_out
returns-in_err-check_out c = let a = c.args in
    let p = err_from_is_err_and c.from_residual-in_err-check_out.result c.from_residual-in_err-check_out.ensures.1 in
    rw (p.1, p.2) (refused-3 a.code.now a.starts.now a.settings a.call.now a.index.now a.count a.out.now _
    (code-passed (goal.at.returns-in_err-check_out c).In_ok-program) (call-passed (goal.at.returns-in_err-check_out c).In_ok-check_call) (sym c.in_err-check_out.ensures))

pub returns-in_err-check_index : goal.returns-in_err-check_index
returns-in_err-check_index c = let a = c.args in
    let p = err_from_is_err_and c.from_residual-in_err-check_index.result c.from_residual-in_err-check_index.ensures.1 in
    let made = c.in_ok-program.ensures.made in
    rw (p.1, p.2) (refused-4 a.code.now a.starts.now a.settings a.call.now a.index.now a.count a.out.now _
    (code-passed (goal.at.returns-in_err-check_index c).In_ok-program) (call-passed (goal.at.returns-in_err-check_index c).In_ok-check_call)
    (out-is (goal.at.returns-in_err-check_index c).In_ok-check_out)
    (sym (same-check _ a.settings _ a.starts.now a.index.now a.count made.2 made.1) ∙ sym c.in_err-check_index.ensures))

pub returns : goal.returns
returns c = let a = c.args in
    let made = c.in_ok-program.ensures.made in
    accepted a.code.now a.starts.now a.settings a.call.now a.index.now a.count a.out.now c.walk_index.result _ _
    (code-passed (goal.at.returns c).In_ok-program) (call-passed (goal.at.returns c).In_ok-check_call) (out-is (goal.at.returns c).In_ok-check_out) (index_is (goal.at.returns c).In_ok-check_index)
    (c.walk_index.ensures ∙ same-walk _ a.code.now _ a.starts.now _ a.settings a.call.now a.index.now a.count a.out.now made.0 made.1 made.2)
