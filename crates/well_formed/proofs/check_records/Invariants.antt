use mathlib.Core.Path.{◌≡◌}
use Prim.Native.Nat.{◌+◌, ◌≤◌}
use lib.ListN.{length, drop}
use Rattle.records.specs.Records.{records_of}
use Rattle.well_formed.specs.Pass.{marked}
use Rattle.well_formed.proofs.PassCode.{Met}
use Rattle.well_formed.proofs.check_records.Given as goal

abbrev pub invariant-loop-i : goal.invariant-loop-i
invariant-loop-i l =
    let R = records_of l.index in
    (l.i ≤ length R) × (l.s.lines + l.i ≤ length R) × (l.s.entries + l.i ≤ length R) × (length l.firsts ≡ length l.initial.firsts)
    × Met l.asked.arity l.asked.dynamic (marked l.asked.marks.now) l.asked.total (drop l.i R) l.s l.firsts
