-- The plan, from the records 242 and 243 where they stand. Assumes nothing.
use mathlib.Core.Path.{◌∙◌}
use native.Mathlib.Omega.{arith}
use Rattle.records.specs.Records.{records_of}
use Rattle.records.proofs.Laws.{length-records_of}
use Rattle.inputs.proofs.StartLaws.{behind-most}
use Rattle.walk_inputs.proofs.PlanLaws.{place-most, plan-as, plan-small}
use borrow.Author.Rules.{rules}
use Rattle.walk_inputs.proofs.plan_in.Goals as goal

pub overflow_add-k : goal.overflow_add-k
overflow_add-k c = let s = c.args.input.now in
    omega (arith, c.count_starts-k.ensures, behind-most (records_of s), length-records_of s)

pub overflow_add-k-2 : goal.overflow_add-k-2
overflow_add-k-2 c = let s = c.args.input.now in
    omega (arith, c.count_starts-k.ensures, behind-most (records_of s), length-records_of s)

pub overflow_add-k-3 : goal.overflow_add-k-3
overflow_add-k-3 c = let s = c.args.input.now in
    omega (arith, c.count_starts-k.ensures, behind-most (records_of s), length-records_of s, c.place_of.ensures, place-most c.record_of-r.result)

pub planned-requires : goal.planned-requires
planned-requires c = let s = c.args.input.now in
    (omega (arith, length-records_of s), omega (arith, behind-most (records_of s)))

pub returns : goal.returns
returns c = let s = c.args.input.now in
    let e =
    c.planned.ensures
    ∙ plan-as s _ _ _ _ _ _ c.capacity-n.ensures c.count_starts-k.ensures c.record_of-r.ensures c.bit-handed.ensures c.place_of.ensures c.given_of-g.ensures in
    let z = plan-small s _ e (search rules) in
    record {
      value = e;
      places = z.places;
      calls = (z.calls, z.index);
      room = (z.starts, z.capacity);
    }
