-- The record at the place, or one of zeros. Assumes nothing.
use mathlib.Core.Path.{◌≡◌, refl, sym, ◌∙◌}
use Rattle.records.specs.Records.{records_of, zero_rec}
use Rattle.walk_inputs.proofs.PlanLaws.{record-found, record-missing}
use Rattle.walk_inputs.proofs.record_of.Goals as goal

pub returns-then-r-from : goal.returns-then-r-from
returns-then-r-from c = let s = c.args in
    record-found (records_of s.input.now) _ s.at _ c.capacity-n.ensures c.record_in-r.ensures _ (c.if-r-from.true ∙ c.from.ensures)

pub returns : goal.returns
returns c =
    let s = c.args in
    let e = c.default.ensures in
    let z : c.default.result ≡ zero_rec = rw (e.0, e.1.0, e.1.1.0, e.1.1.1.0, e.1.1.1.1) refl in
    z ∙ record-missing (records_of s.input.now) _ s.at _ c.capacity-n.ensures c.record_in-r.ensures _ (λ e. c.if-r-from.false (e ∙ sym c.from.ensures))
