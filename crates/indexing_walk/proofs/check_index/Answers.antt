use mathlib.Core.Path.{◌≡◌, sym, subst}
use mathlib.Core.Bool.{true}
use Prim.Native.Nat.{ℕ}
use native.Mathlib.Omega.{arith}
use Rattle.indexing_iter.specs.Classes.{class_of}
use Rattle.indexing_iter.specs.Checks.{rising_below}
use Rattle.indexing_iter.proofs.KeyLaws.{code_ok}
use Rattle.indexing_walk.proofs.check_index.Goals as goal

pub well_formed-requires-clause-starts_value : goal.well_formed-requires-clause-starts_value
well_formed-requires-clause-starts_value c =
    let a = c.args.program.now in
    let ok = code_ok class_of a.settings.arity a.code.now a.starts.now a.checked in
    let n = c.capacity-n.ensures in
    (subst (λ (x : ℕ). rising_below x a.starts.now ≡ true) (sym n) ok.rising, omega (arith, n, ok.size))

pub well_formed-requires-clause-arity_bound : goal.well_formed-requires-clause-arity_bound
well_formed-requires-clause-arity_bound c = let a = c.args.program.now in (code_ok class_of a.settings.arity a.code.now a.starts.now a.checked).arity-to
