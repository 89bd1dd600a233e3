-- The records read have passed, and what is kept is the state of the reading; a record that fails fails all. Assumes nothing.
use mathlib.Core.Path.{◌≡◌, refl, sym, ◌∙◌}
use Prim.Native.Nat.{◌+◌, ◌-◌, ◌≤◌, ◌<◌}
use native.Mathlib.Omega.{arith}
use lib.ListN.{length, drop, drop_of_length-le}
use lib.Seq.{take-length}
use Rattle.records.specs.Records.{records_of}
use Rattle.indexing.specs.Kinds.{kind_number}
use Rattle.well_formed.specs.Pass.{marked}
use Rattle.well_formed.proofs.PassCode.{Here, met_start, met-within, refused, met-turn, met-end}
use Rattle.well_formed.proofs.StepLaws.{kind-told, step_none, step-some, step-refused}
use Rattle.well_formed.proofs.check_records.Goals.{After-get-r, In-Ok, After-step}
use Rattle.well_formed.proofs.check_records.Goals as goal

-- in a turn: the record in front of those that have passed
here : (c : After-get-r)
    →
    let a = c.args in
    Here a.asked.now.arity a.asked.now.dynamic (marked a.asked.now.marks.now) a.asked.now.total (records_of a.index.now) c.loop-i.i c.get-r.result
    c.loop-i.s c.loop-i.firsts
here c =
    record {
      met = c.loop-i.invariant.4;
      some = c.loop-i-test.true;
      low = c.loop-i.invariant.0;
      is = c.get-r.ensures;
    }

-- the record's kind by its number
kind : (c : In-Ok) → c.get-r.result.kind ≡ kind_number c.in-Ok.kind
kind c = kind-told _ c.in-Ok.kind (sym c.try_from.ensures ∙ c.in-Ok.is)

-- the records behind it
behind : (c : After-step) → records_of c.part-behind.result.now ≡ drop c.loop-i.i (records_of c.args.index.now)
behind c =
    let R = records_of c.args.index.now in
    let next : c.loop-i.i - 1 + 1 ≡ c.loop-i.i = omega (arith, c.loop-i-test.true) in
    rw (c.capacity-n.ensures, next, take-length R) at c.part-behind.ensures

pub loop-i-init : goal.loop-i-init
loop-i-init c =
    let a = c.args in
    let R = records_of a.index.now in
    let n = c.capacity-n.result in
    let low : n ≤ length R = omega (arith, c.capacity-n.ensures) in
    let m = met_start a.asked.now.arity a.asked.now.dynamic (marked a.asked.now.marks.now) a.asked.now.total a.firsts.now (drop n R) _
    (drop_of_length-le R (omega (arith, c.capacity-n.ensures))) c.at_line-s.ensures in
    let b = met-within _ _ _ _ R n _ a.firsts.now low m in
    (low, b.0, b.1, refl, m)

pub returns-in_default : goal.returns-in_default
returns-in_default c =
    let a = c.args in
    let e = step_none a.asked.now.arity a.asked.now.dynamic (marked a.asked.now.marks.now) a.asked.now.total c.get-r.result.kind c.get-r.result c.loop-i.s _
    (sym c.try_from.ensures ∙ c.in_default.is) in
    sym (refused _ _ _ _ (here (goal.at.returns-in_default c).After-get-r) c.get-r.result.kind refl (rw e refl))

pub returns-in_default-step : goal.returns-in_default-step
returns-in_default-step c =
    let at = goal.at.returns-in_default-step c in
    let e = step-refused _ _ (sym c.step.ensures.state ∙ c.in_default-step.is) in
    sym (refused _ _ _ _ (here at.After-get-r) _ (kind at.In-Ok) (rw (behind at.After-step) at e))

pub loop-i-preserved : goal.loop-i-preserved
loop-i-preserved c =
    let a = c.args in
    let at = goal.at.loop-i-preserved c in
    let R = records_of a.index.now in
    let f = c.step.new.firsts in
    let room : c.loop-i.s.lines < length c.loop-i.firsts = omega (arith, c.loop-i-test.true, c.loop-i.invariant.1, c.loop-i.invariant.3, c.requires) in
    let low : c.loop-i.i - 1 ≤ length R = omega (arith, c.loop-i.invariant.0) in
    let x = step-some _ _ _ (sym c.step.ensures.state ∙ c.in-Some.is) in
    let m = met-turn _ _ _ _ (here at.After-get-r) _ (kind at.In-Ok) c.in-Some.next f room (rw (behind at.After-step) at x.0) x.1 (rw c.in-Some.is at c.step.ensures.firsts_after) in
    let b = met-within _ _ _ _ R (c.loop-i.i - 1) c.in-Some.next f low m in
    (low, b.0, b.1, c.step.auto.firsts ∙ c.loop-i.invariant.3, m)

pub returns : goal.returns
returns c =
    let a = c.args in
    c.is_closed.ensures ∙ met-end _ _ _ _ (records_of a.index.now) c.loop-i.i c.loop-i.s c.loop-i.firsts (omega (arith, c.loop-i-test.false)) c.loop-i.invariant.4
