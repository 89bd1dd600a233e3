-- One of the entries that are left has the key where one of all has it. Assumes nothing.
use Prim.Native.Nat.{◌+◌, ◌≤◌, ◌<◌}
use mathlib.Core.Path.{◌≡◌}
use mathlib.Core.Bool.{◌||◌}
use native.Mathlib.Omega.{arith}
use lib.ListN.{length, drop}
use Rattle.records.specs.Records.{records_of}
use Rattle.well_formed.specs.Pass.{among}
use Rattle.well_formed.proofs.KeyParts.{among-step, among_none}
use Rattle.well_formed.proofs.keys.key_among.Goals.{After-key_at}
use Rattle.well_formed.proofs.keys.key_among.Goals as goal

-- in a turn: whether the record at i has the key, and whether one after it has
turn : (c : After-key_at)
    →
    let a = c.args in
    let rs = records_of a.entries.now in
    (c.key_at.result || among a.r (drop (c.loop-i.i + 1) rs)) ≡ among a.r rs
turn c =
    let a = c.args in
    let rs = records_of a.entries.now in
    let h : c.loop-i.i < length rs = omega (arith, c.loop-i-test.true, c.capacity-i-end.ensures) in
    rw (among-step a.r rs _ h, ← c.key_at.ensures) at c.loop-i.invariant

pub returns-then-key_at : goal.returns-then-key_at
returns-then-key_at c = rw c.if-key_at.true at (turn (goal.at.returns-then-key_at c).After-key_at)

pub loop-i-preserved : goal.loop-i-preserved
loop-i-preserved c = rw c.if-key_at.false at (turn (goal.at.loop-i-preserved c).After-key_at)

pub returns : goal.returns
returns c =
    let rs = records_of c.args.entries.now in
    let h : length rs ≤ c.loop-i.i = omega (arith, c.loop-i-test.false, c.capacity-i-end.ensures) in
    rw (among_none _ rs _ h) at c.loop-i.invariant
