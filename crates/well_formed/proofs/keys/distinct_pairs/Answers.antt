-- The keys that are left are distinct where all are. Assumes nothing.
use Prim.Native.Nat.{◌+◌, ◌≤◌, ◌<◌}
use mathlib.Core.Path.{◌≡◌}
use mathlib.Core.Bool.{not, ◌&&◌}
use native.Mathlib.Omega.{arith}
use lib.ListN.{length, drop}
use Rattle.records.specs.Records.{records_of}
use Rattle.well_formed.specs.Pass.{among, distinct_keys}
use Rattle.well_formed.proofs.KeyParts.{distinct-step, distinct_none}
use Rattle.well_formed.proofs.keys.distinct_pairs.Goals.{After-key_behind}
use Rattle.well_formed.proofs.keys.distinct_pairs.Goals as goal

-- in a turn: whether the key of the record at i stands once more, and whether those after it are distinct
turn : (c : After-key_behind)
    →
    let rs = records_of c.args.entries.now in
    (not c.key_behind.result && distinct_keys (drop (c.loop-i.i + 1) rs)) ≡ distinct_keys rs
turn c =
    let rs = records_of c.args.entries.now in
    let h : c.loop-i.i < length rs = omega (arith, c.loop-i-test.true, c.capacity-i-end.ensures) in
    let k : c.key_behind.result ≡ among c.get-r.result (drop (c.loop-i.i + 1) rs) = c.key_behind.ensures in
    rw (distinct-step _ rs _ h c.get-r.ensures, ← k) at c.loop-i.invariant

pub returns-then-key_behind : goal.returns-then-key_behind
returns-then-key_behind c = rw c.if-key_behind.true at (turn (goal.at.returns-then-key_behind c).After-key_behind)

pub loop-i-preserved : goal.loop-i-preserved
loop-i-preserved c = rw c.if-key_behind.false at (turn (goal.at.loop-i-preserved c).After-key_behind)

pub returns : goal.returns
returns c =
    let rs = records_of c.args.entries.now in
    let h : length rs ≤ c.loop-i.i = omega (arith, c.loop-i-test.false, c.capacity-i-end.ensures) in
    rw (distinct_none rs _ h) at c.loop-i.invariant
