-- Clearing and then one pass over the records: the records left give the keys of the clause. Assumes nothing.
use Prim.Native.Nat.{◌-◌, ◌+◌}
use mathlib.Core.Path.{◌≡◌, ap, ◌∙◌}
use mathlib.Core.Logic.{⊎_elim}
use native.Mathlib.Omega.{arith}
use lib.ListN.{length, get_or, set, length-set}
use lib.Seq.{slice}
use borrow.Author.Rules.{rules}
use Rattle.records.specs.Records.{records_of, zero_rec}
use Rattle.indexing_iter.specs.Keys.{bits_of}
use Rattle.indexing_iter.specs.Rows.{head_of}
use Rattle.indexing_iter.proofs.Table.{class_in}
use Rattle.indexing_iter.proofs.Parts.{slice-step, slice-done}
use Rattle.indexing_iter.proofs.KeyLaws.{known-within}
use Rattle.indexing_iter.proofs.FillLaws.{collected, FillingStep, filling-start, filling_step, filling-end, filling-as}
use Rattle.indexing_iter.proofs.collect_keys.Goals.{After-extract_index_arg-a, in-ArgedHead-a, in_default-a}
use Rattle.indexing_iter.proofs.collect_keys.Goals as goal

-- in a turn: what the record at i says of the lists
turn : (c : After-extract_index_arg-a)
    →
    let a = c.args in
    FillingStep c.extract_index_arg-a.result (class_in a.reader.now.table.now) a.arity (slice (c.loop-i.i + 1) c.capacity-end.result (records_of a.reader.now.code.now))
    c.loop-i.heads c.loop-i.bits
    (collected head_of (class_in a.reader.now.table.now) a.arity a.reader.now.code.now a.starts.now a.offset c.args.heads.now)
    (collected bits_of (class_in a.reader.now.table.now) a.arity a.reader.now.code.now a.starts.now a.offset c.args.bits.now)
turn c =
    let rs = records_of c.args.reader.now.code.now in
    filling_step (get_or rs c.loop-i.i zero_rec) (slice (c.loop-i.i + 1) c.capacity-end.result rs) c.extract_index_arg-a.result c.loop-i.invariant.2
    (slice-step rs c.loop-i.i c.capacity-end.result c.loop-i-test.true (search rules)) c.extract_index_arg-a.ensures

pub overflow_sub-i : goal.overflow_sub-i
overflow_sub-i c =
    omega (arith, known-within (class_in c.args.reader.now.table.now) c.args.arity c.args.reader.now.code.now c.args.starts.now c.args.offset c.requires.offset_value c.requires.starts_value)

pub loop-i-init : goal.loop-i-init
loop-i-init c =
    let a = c.args in (
      search rules,
      search rules,
      filling-start (class_in a.reader.now.table.now) a.arity a.reader.now.code.now a.starts.now a.offset _ c.requires.offset_value c.requires.starts_value c.capacity-end.ensures
          a.heads.now a.bits.now _ _ (search rules) (search rules) (search rules) (search rules),
    )

pub returns-in_default : goal.returns-in_default
returns-in_default c =
    let w = rw c.in_default.is at (turn (goal.at.returns-in_default c).After-extract_index_arg-a) in
    record { heads_after = w.0; bits_after = w.1 }

pub overflow_sub-at : goal.overflow_sub-at
overflow_sub-at c = let w = rw c.in-ArgedHead-a.is at (turn (goal.at.overflow_sub-at c).After-extract_index_arg-a) in
    omega (arith, w.0)

pub bounds-heads-at : goal.bounds-heads-at
bounds-heads-at c = let w = rw c.in-ArgedHead-a.is at (turn (goal.at.bounds-heads-at c).After-extract_index_arg-a) in
    omega (arith, w.0, w.1, c.loop-i.invariant.2.heads-room)

pub bounds-bits-at : goal.bounds-bits-at
bounds-bits-at c = let w = rw c.in-ArgedHead-a.is at (turn (goal.at.bounds-bits-at c).After-extract_index_arg-a) in
    omega (arith, w.0, w.1, c.loop-i.invariant.2.bits-room)

pub loop-i-preserved : goal.loop-i-preserved
loop-i-preserved c =
    let l = c.loop-i in
    let here = turn (goal.at.loop-i-preserved c).After-extract_index_arg-a in
    elim c.match-a-2.branch [
      | in-ArgedHead-a w ↦
          let n = w.in-ArgedHead-a.reg - 1 in
          let k = rw w.in-ArgedHead-a.is at here in
          let h : c.match-a-2.heads ≡ set l.heads n (head_of w.in-ArgedHead-a.key) = w.heads-is ∙ ap (set l.heads n) w.head_of.ensures.0 in
          let b : c.match-a-2.bits ≡ set l.bits n (bits_of w.in-ArgedHead-a.key) = w.bits-is ∙ ap (set l.bits n) w.bits_of.ensures in (
            ap length h ∙ length-set l.heads n _ ∙ l.invariant.0,
            ap length b ∙ length-set l.bits n _ ∙ l.invariant.1,
            filling-as c.match-a-2.heads c.match-a-2.bits h b k.2,
          )
      | in_default-a w ↦ (
        ap length w.heads-is ∙ l.invariant.0,
        ap length w.bits-is ∙ l.invariant.1,
        filling-as c.match-a-2.heads c.match-a-2.bits w.heads-is w.bits-is
            (⊎_elim (λ v. absurd (w.in_default-a.not-ArgedHead v.0 v.1 v.2))
            (λ v. ⊎_elim (λ e. rw e at here) (λ e. rw e at here) v)
            c.in-ArgedHead.is),
      )
    ]

pub returns : goal.returns
returns c =
    let w = filling-end c.loop-i.invariant.2 (slice-done (records_of c.args.reader.now.code.now) _ _ c.loop-i-test.false) in
    record { heads_after = w.0; bits_after = w.1 }
