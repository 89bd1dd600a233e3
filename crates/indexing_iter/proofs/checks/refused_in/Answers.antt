-- 5 to 7 of a clause: 5 comes before its 6 and 7. Assumes nothing.
use mathlib.Core.Path.{◌≡◌, sym, ◌∙◌}
use Prim.Native.Nat.{◌-◌}
use mathlib.Core.Bool.{Bool, true, false, cond}
use native.Mathlib.Omega.{arith}
use lib.ListN.{length}
use Rattle.std.specs.Prelude.{Some}
use Rattle.records.specs.Records.{records_of}
use Rattle.indexing_iter.specs.declared.refusal.Refusal.TheVariants.{NoBody}
use Rattle.indexing_iter.specs.Checks.{has_body}
use Rattle.indexing_iter.proofs.Table.{class_in}
use Rattle.indexing_iter.proofs.FaultLaws.{with_body, told_of, refused-whole, refused-behind}
use Rattle.indexing_iter.proofs.checks.refused_in.Goals.{After-body_in_last}
use Rattle.indexing_iter.proofs.checks.refused_in.Goals as goal

pub returns-in-Ok-Some : goal.returns-in-Ok-Some
unfolding with_body
returns-in-Ok-Some c =
    let a = c.args in
    let e = rw c.in-Ok-Some.field-0-is at c.in-Ok-Some.ensures in
    rw (← e) at (refused-whole (class_in a.clause.now.table.now) a.arity (records_of a.clause.now.code.now))

pub returns-in-Ok-None : goal.returns-in-Ok-None
unfolding with_body
returns-in-Ok-None c =
    let a = c.args in
    let e = rw c.in-Ok-None.field-0-is at c.in-Ok-None.ensures in
    rw c.no_body.ensures (rw (← e) at (refused-whole (class_in a.clause.now.table.now) a.arity (records_of a.clause.now.code.now)))

-- the place of a 6 or 7 lies within the clause
pub overflow_sub-capacity : goal.overflow_sub-capacity
overflow_sub-capacity c =
    let a = c.args in
    let rs = records_of a.clause.now.code.now in
    omega (arith, c.capacity.ensures, (refused-behind (class_in a.clause.now.table.now) a.arity rs c.in-Err.refusal c.in-Err.at c.in-Err.ensures).0)

pub body_in_last-requires : goal.body_in_last-requires
body_in_last-requires c =
    let a = c.args in
    let rs = records_of a.clause.now.code.now in
    omega (arith, (refused-behind (class_in a.clause.now.table.now) a.arity rs c.in-Err.refusal c.in-Err.at c.in-Err.ensures).0)

-- 6 or 7, where the answer of body_in_last is as found says
whole : (c : After-body_in_last) (found : Bool) → c.body_in_last.result ≡ found
    → let rs = records_of c.args.clause.now.code.now in
    told_of (class_in c.args.clause.now.table.now) c.args.arity rs ≡ cond found (Some (c.in-Err.refusal, c.in-Err.at)) (Some (NoBody, length rs - 1))
unfolding with_body
whole c found e =
    let a = c.args in
    let rs = records_of a.clause.now.code.now in
    let cls = class_in a.clause.now.table.now in
    let behind = refused-behind cls a.arity rs c.in-Err.refusal c.in-Err.at c.in-Err.ensures in
    let place : length rs - (c.capacity.result - c.in-Err.at) ≡ c.in-Err.at = omega (arith, c.capacity.ensures, behind.0) in
    let here : has_body cls rs ≡ found = sym behind.1 ∙ sym (rw place at c.body_in_last.ensures) ∙ e in
    sym (rw (← c.in-Err.ensures, here) at (refused-whole cls a.arity rs))

pub returns-in-Err : goal.returns-in-Err
returns-in-Err c = sym (whole (goal.at.returns-in-Err c).After-body_in_last true c.if-body_in_last.true)

pub returns-in-Err-2 : goal.returns-in-Err-2
returns-in-Err-2 c = rw c.no_body-in-Err-2.ensures (sym (whole (goal.at.returns-in-Err-2 c).After-body_in_last false c.if-body_in_last.false))
