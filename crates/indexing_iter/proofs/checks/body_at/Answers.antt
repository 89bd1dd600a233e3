-- The first body record: the first of the records left is the first of the clause. Assumes nothing.
use Prim.Native.Nat.{◌+◌, ◌≤◌, ◌<◌}
use mathlib.Core.Path.{◌≡◌, sym, ◌∙◌}
use mathlib.Core.Bool.{cond}
use mathlib.Core.Logic.{⊎_elim}
use native.Mathlib.Omega.{arith}
use lib.ListN.{length, drop}
use Rattle.std.specs.Prelude.{Some}
use Rattle.records.specs.Records.{records_of, zero_rec}
use Rattle.indexing_iter.specs.Checks.{is_body}
use Rattle.indexing_iter.proofs.Table.{class_in}
use Rattle.indexing_iter.proofs.FaultLaws.{first_from, from-step, from-end, says_body, body-found}
use Rattle.indexing_iter.proofs.checks.body_at.Goals.{After-extract_index_arg-a}
use Rattle.indexing_iter.proofs.checks.body_at.Goals as goal

-- in a turn: whether the record at i is a body record, and then those after it
turn : (c : After-extract_index_arg-a)
    →
    let i = c.loop-i.i in
    let rs = records_of c.args.clause.now.code.now in
    let cls = class_in c.args.clause.now.table.now in
    cond (is_body c.extract_index_arg-a.result) (Some i) (first_from (says_body cls) (drop (i + 1) rs) (i + 1)) ≡ first_from (says_body cls) rs 0
turn c =
    let rs = records_of c.args.clause.now.code.now in
    let cls = class_in c.args.clause.now.table.now in
    let h : c.loop-i.i < length rs = omega arith in
    rw (from-step (says_body cls) rs c.loop-i.i zero_rec h, ← c.extract_index_arg-a.ensures) at c.loop-i.invariant

pub returns-in_default : goal.returns-in_default
returns-in_default c =
    rw c.in_default.is at (turn (goal.at.returns-in_default c).After-extract_index_arg-a)
    ∙ body-found (class_in c.args.clause.now.table.now) (records_of c.args.clause.now.code.now)

pub loop-i-preserved : goal.loop-i-preserved
loop-i-preserved c =
    let here = turn (goal.at.loop-i-preserved c).After-extract_index_arg-a in
    ⊎_elim (λ w. rw w.2 at here) (λ w. ⊎_elim (λ e. rw e at here) (λ e. rw e at here) w) c.in-ArgedHead.is

pub returns : goal.returns
returns c =
    let rs = records_of c.args.clause.now.code.now in
    let cls = class_in c.args.clause.now.table.now in
    let h : length rs ≤ c.loop-i.i = omega arith in
    sym (from-end (says_body cls) rs c.loop-i.i h) ∙ c.loop-i.invariant ∙ body-found cls rs
