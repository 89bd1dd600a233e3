-- The bound of a pointer, by its word. Assumes nothing.
use mathlib.Core.Path.{sym, ◌∙◌}
use Prim.Native.Nat.{◌<◌}
use native.Mathlib.Omega.{arith}
use Rattle.well_formed.specs.Pass.{reach_in}
use Rattle.well_formed.proofs.StepLaws.{pointer-int, pointer-ext}
use Rattle.well_formed.proofs.forms.reach_of.Goals as goal

pub returns-then-is_internal : goal.returns-then-is_internal
unfolding reach_in
returns-then-is_internal c =
    let a = c.args in
    let i = c.is_internal.ensures in
    let h : a.word < 4294967296 = omega arith in
    rw (pointer-int a.word (sym i ∙ c.if-is_internal.true) h, ← c.distance.ensures) c.inner_reach.ensures

pub returns-else-is_internal : goal.returns-else-is_internal
unfolding reach_in
returns-else-is_internal c = let a = c.args in
    let i = c.is_internal.ensures in
    rw (pointer-ext a.word (sym i ∙ c.if-is_internal.false)) c.outer_reach.ensures
