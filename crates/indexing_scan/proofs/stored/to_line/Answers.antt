-- The d-th line record: what is left of the way from place i on, with the places passed, is the whole. Assumes nothing.
use mathlib.Core.Path.{ap, sym, ◌∙◌}
use mathlib.Core.Bool.{true, false}
use Prim.Native.Nat.{ℕ, ◌+◌}
use native.Mathlib.Omega.{arith}
use borrow.Author.Tests.{eq-eqb, ne_eqb}
use lib.Seq.{slice}
use Rattle.records.specs.Records.{records_of}
use Rattle.indexing_scan.specs.Places.{through_line, behind_line}
use Rattle.indexing_scan.proofs.Turns.{line-turn, line-zero, line-end}
use Rattle.indexing_scan.proofs.stored.to_line.Goals as goal
use Rattle.indexing_scan.proofs.stored.to_line.Goals.{then-get-from, else-get-from}

pub returns-then-left-eq0 : goal.returns-then-left-eq0
unfolding behind_line
returns-then-left-eq0 c = let s = c.args.stored.now in
    let l = c.loop-i in
    let rs = slice l.i s.count (records_of s.index.now) in
    let u = ap (λ (x : ℕ). through_line x rs) c.if-left-eq0.true ∙ line-zero rs in
    (omega arith, omega arith)

pub loop-i-preserved : goal.loop-i-preserved
loop-i-preserved c =
    let s = c.args.stored.now in
    let l = c.loop-i in
    let r = c.get in
    let u = line-turn (records_of s.index.now) l.i s.count r.result (omega arith) s.within r.ensures l.left in
    let z = c.if-left-eq0.false in
    let f : ℕ → ℕ = λ x. through_line x (slice (l.i + 1) s.count (records_of s.index.now)) in
    let h = c.from.ensures in
    elim c.if-get-from.branch [
      | then-get-from w ↦ let v = u true z (eq-eqb _ _ (w.if-get-from.true ∙ h)) in omega (arith, v, ap f w.left-is)
      | else-get-from w ↦ let v = u false z (ne_eqb _ _ (λ e. w.if-get-from.false (e ∙ sym h))) in omega (arith, v, ap f w.left-is)
    ]

pub returns : goal.returns
unfolding behind_line
returns c = let s = c.args.stored.now in
    let l = c.loop-i in
    let u = line-end l.left (records_of s.index.now) l.i s.count (omega arith) in
    (omega arith, omega arith)
