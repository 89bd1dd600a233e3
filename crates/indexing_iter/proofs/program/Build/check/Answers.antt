-- Where the builder's checks pass, the code's own checks pass too, and the argument is at most 32. Assumes nothing.
use mathlib.Core.Path.{◌≡◌, sym, ◌∙◌}
use native.Mathlib.Omega.{arith}
use borrow.Author.Rules.{rules}
use Rattle.indexing_iter.specs.Refusals.{passed}
use Rattle.indexing_iter.specs.Classes.{class_of}
use Rattle.indexing_iter.specs.Checks.{check_build}
use Rattle.indexing_iter.proofs.CheckLaws.{build-code, build-chosen}
use Rattle.indexing_iter.proofs.KeyLaws.{code_ok}
use Rattle.indexing_iter.proofs.program.Build.check.Goals.{In_ok-check_build}
use Rattle.indexing_iter.proofs.program.Build.check.Goals as goal

accepted : (c : In_ok-check_build) → check_build class_of c.args.settings.arity c.args.c c.args.code.now c.args.starts.now ≡ passed
accepted c = sym c.check_build.ensures ∙ c.in_ok-check_build.was

pub invariant_of-program : goal.invariant_of-program
invariant_of-program c =
    let a = c.args in
    record { bytes = λ i. search rules; checked = build-code class_of a.settings.arity a.code.now a.starts.now a.c (accepted (goal.at.invariant_of-program c).In_ok-check_build) }

pub overflow_cast-result : goal.overflow_cast-result
overflow_cast-result c =
    let a = c.args in
    let p = accepted (goal.at.overflow_cast-result c).In_ok-check_build in
    omega (
      arith,
      (build-chosen class_of a.settings.arity a.code.now a.starts.now a.c p).1,
      (code_ok class_of a.settings.arity a.code.now a.starts.now (build-code class_of a.settings.arity a.code.now a.starts.now a.c p)).arity-to,
    )
