-- The index is given, or built, or the builder refuses; out is cleared. Assumes nothing.
use mathlib.Core.Path.{◌≡◌, ap, ◌∙◌}
use Prim.Native.Nat.{ℕ}
use lib.ListN.{length, replicate}
use Rattle.std.proofs.lemmas.Result.{err_from_is_err_and}
use Rattle.walk_inputs.proofs.RunLaws.{open-given, open-built, open-refused}
use borrow.Author.Rules.{rules}
use Rattle.walk_inputs.proofs.open_cut.Goals as goal

pub returns-in-Some : goal.returns-in-Some
returns-in-Some c =
    let a = c.args.input.now in
    let z : c.fill.new.self ≡ replicate {A = ℕ} (length c.args.out.now) 0 = search rules in
    open-given a.bytes.now a.plan a.plan_value _ (z ∙ ap (λ (n : ℕ). replicate {A = ℕ} n 0) c.requires.out_len.0) _ _ c.in-Some.is c.start_index.ensures

pub returns-in_err-build_index-in-None : goal.returns-in_err-build_index-in-None
returns-in_err-build_index-in-None c =
    let a = c.args.input.now in
    let z : c.fill.new.self ≡ replicate {A = ℕ} (length c.args.out.now) 0 = search rules in
    let p = err_from_is_err_and c.from_residual.result c.from_residual.ensures.1 in
    rw (p.1, p.2) (open-refused a.bytes.now a.plan a.plan_value _ (z ∙ ap (λ (n : ℕ). replicate {A = ℕ} n 0) c.requires.out_len.0) _ _ _ c.in-None.is c.start_index.ensures c.in_err-build_index-in-None.ensures)

pub returns-in_ok-build_index-in-None : goal.returns-in_ok-build_index-in-None
returns-in_ok-build_index-in-None c =
    let a = c.args.input.now in
    let z : c.fill.new.self ≡ replicate {A = ℕ} (length c.args.out.now) 0 = search rules in
    open-built a.bytes.now a.plan a.plan_value _ (z ∙ ap (λ (n : ℕ). replicate {A = ℕ} n 0) c.requires.out_len.0) _ _ _ c.in-None.is c.start_index.ensures c.in_ok-build_index-in-None.ensures
