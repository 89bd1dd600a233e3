-- The key at an argument: the records left give the key that the clause gives. Assumes nothing.
use Prim.Native.Nat.{◌+◌, ◌≤◌, ◌<◌}
use mathlib.Core.Path.{◌≡◌}
use native.Mathlib.Omega.{arith}
use borrow.Author.Tests.{eq-eqb, ne_eqb}
use mathlib.Core.Logic.{⊎_elim}
use lib.ListN.{length, drop, drop_of_length-le}
use Rattle.records.specs.Records.{records_of}
use Rattle.indexing_iter.specs.Keys.{key_in, key_step}
use Rattle.indexing_iter.proofs.Parts.{rest-step}
use Rattle.indexing_iter.proofs.Table.{class_in}
use Rattle.indexing_iter.proofs.key_by.Goals.{After-extract_index_arg-a, in-ArgedHead-a+else-reg-j, in_default-a}
use Rattle.indexing_iter.proofs.key_by.Goals as goal

-- in a turn: what the record at i says, and the key of the records after it, give the key
turn : (c : After-extract_index_arg-a)
    → let a = c.args in
    let rs = records_of a.clause.now.code.now in
    let cls = class_in a.clause.now.table.now in
    key_step c.extract_index_arg-a.result a.j (key_in cls (drop (c.loop-i.i + 1) rs) a.j) ≡ key_in cls rs a.j
unfolding key_in
turn c = let rs = records_of c.args.clause.now.code.now in
    let h : c.loop-i.i < length rs = omega arith in
    rw (rest-step rs c.loop-i.i h, ← c.extract_index_arg-a.ensures) at c.loop-i.invariant

pub returns-in_default : goal.returns-in_default
returns-in_default c = rw c.in_default.is at (turn (goal.at.returns-in_default c).After-extract_index_arg-a)

pub returns-then-reg-j : goal.returns-then-reg-j
returns-then-reg-j c = rw (c.in-ArgedHead-a.is, eq-eqb _ _ c.if-reg-j.true) at (turn (goal.at.returns-then-reg-j c).After-extract_index_arg-a)

pub loop-i-preserved : goal.loop-i-preserved
loop-i-preserved c =
    let here = turn (goal.at.loop-i-preserved c).After-extract_index_arg-a in
    elim c.match-a-2.branch [
      | in-ArgedHead-a+else-reg-j w ↦ rw (w.in-ArgedHead-a.is, ne_eqb _ _ w.if-reg-j.false) at here
      | in_default-a w ↦
          ⊎_elim (λ v. absurd (w.in_default-a.not-ArgedHead v.0 v.1 v.2))
          (λ v. ⊎_elim (λ e. rw e at here) (λ e. rw e at here) v)
          c.in-ArgedHead.is
    ]

pub returns : goal.returns
unfolding key_in
returns c = let rs = records_of c.args.clause.now.code.now in
    let h : length rs ≤ c.loop-i.i = omega arith in
    rw (drop_of_length-le rs h) at c.loop-i.invariant
