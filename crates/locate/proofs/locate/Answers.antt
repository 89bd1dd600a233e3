-- 1 to 4 name no clause; where they passed, the clauses are looked at. Assumes nothing.
use Prim.Native.Nat.{ℕ}
use mathlib.Core.Path.{sym, ap, ◌∙◌}
use Rattle.std.specs.Prelude.{Some}
use Rattle.indexing_iter.specs.declared.Fault.{Fault}
use Rattle.indexing_iter.specs.Classes.{class_of}
use Rattle.indexing_iter.specs.Faults.{fault_of}
use Rattle.indexing_iter.proofs.Table.{class_in}
use Rattle.locate.proofs.LocateLaws.{told-front, told_back}
use Rattle.locate.proofs.locate.Goals as goal

pub returns-in-Err : goal.returns-in-Err
returns-in-Err c = let a = c.args in
    ap (λ (f : Fault). Some f) c.bare.ensures
    ∙ told-front class_of a.arity a.c a.code.now a.starts.now c.in-Err.refusal (sym c.in-Err.ensures.value)

pub returns-in-Ok : goal.returns-in-Ok
returns-in-Ok c = let a = c.args in
    let made = c.in-Ok.ensures.made in
    rw (made.0, made.1, made.2) at c.locate_back.ensures
    ∙ told_back (class_in c.classes.result) a.arity a.c a.code.now a.starts.now (sym c.in-Ok.ensures.value)
    ∙ ap (λ (cls : ℕ → ℕ). fault_of cls a.arity a.c a.code.now a.starts.now) (sym c.classes.ensures)
