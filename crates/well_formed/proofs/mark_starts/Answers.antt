-- The offsets of the starts met so far are marked. Assumes nothing.
use mathlib.Core.Path.{refl, ◌∙◌}
use Prim.Native.Nat.{◌+◌, ◌-◌, ◌<◌}
use native.Mathlib.Omega.{arith}
use lib.ListN.{length, get_or, length-set}
use Rattle.well_formed.proofs.Marking.{marks-none, marks-more, start-below}
use Rattle.well_formed.proofs.mark_starts.Goals.{In-loop-start}
use Rattle.well_formed.proofs.mark_starts.Goals as goal

-- a start lies below the code's end, and its offset within the marks
within : (c : In-loop-start)
    → get_or c.args.starts.now c.loop-start.start-index 0 + 1 < length c.loop-start.marks
within c =
    let a = c.args in
    omega (arith, c.loop-start.invariant.0, start-below (length a.marks.now - 1) a.starts.now c.loop-start.start-index c.requires.starts_value c.loop-start-test.true)

pub loop-start-init : goal.loop-start-init
loop-start-init c = (refl, marks-none c.args.marks.now c.requires.cleared)

pub bounds-marks-start : goal.bounds-marks-start
bounds-marks-start c = within (goal.at.bounds-marks-start c).In-loop-start

pub loop-start-preserved : goal.loop-start-preserved
loop-start-preserved c =
    let a = c.args in
    let i = c.loop-start.start-index in (
      length-set c.loop-start.marks (get_or a.starts.now i 0 + 1) 1 ∙ c.loop-start.invariant.0,
      marks-more c.loop-start.marks a.starts.now i c.loop-start-test.true (within (goal.at.loop-start-preserved c).In-loop-start) c.loop-start.invariant.1,
    )
