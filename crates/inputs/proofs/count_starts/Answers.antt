-- The records before record i are starts, but for the first, and those left make up the rest. Assumes nothing.
use mathlib.Core.Path.{◌≡◌, sym, ap, ◌∙◌}
use native.Mathlib.Omega.{arith}
use Prim.Native.Nat.{◌≤◌}
use lib.ListN.{length, drop}
use Rattle.inputs.specs.Input.{starts_in}
use Rattle.records.specs.Records.{records_of}
use Rattle.inputs.proofs.StartLaws.{starts_more, starts-stop, starts-end}
use Rattle.records.specs.declared.Rec.{Rec}
use Rattle.inputs.proofs.count_starts.Goals as goal

pub returns-then-get-from : goal.returns-then-get-from
returns-then-get-from c =
    let l = c.loop-i in
    let e = c.get.ensures in
    let z = starts-stop (records_of c.args.input.now) l.i (omega arith) (λ q. c.if-get-from.true (ap (λ (r : Rec). r.kind) e ∙ q ∙ sym c.from.ensures)) in
    omega (arith, z, l.invariant)

pub loop-i-preserved : goal.loop-i-preserved
loop-i-preserved c =
    let l = c.loop-i in
    let e = c.get.ensures in
    let z = starts_more (records_of c.args.input.now) l.i (omega arith) (sym (ap (λ (r : Rec). r.kind) e) ∙ c.if-get-from.false ∙ c.from.ensures) in
    omega (arith, z, l.invariant)

pub returns : goal.returns
returns c =
    let l = c.loop-i in
    let rs = records_of c.args.input.now in
    let z = starts-end rs l.i (omega arith) in
    let none : length rs ≤ 1 → length (starts_in (drop 1 rs)) ≡ 0 = starts-end rs 1 in
    grind (arith, z, none, l.invariant)
