-- What the entries of the bucket answer: one with the key, or none behind the place has it. Assumes nothing.
use mathlib.Core.Path.{sym}
use Prim.Native.Nat.{suc, ◌+◌, ◌-◌}
use borrow.Author.Rules.{rules}
use lib.ListN.{length, get_or}
use Rattle.records.specs.Records.{records_of, zero_rec}
use Rattle.indexing.specs.Chains.{Tells}
use Rattle.well_formed.specs.Pass.{same_fields}
use Rattle.well_formed.specs.Chains.{in_bucket}
use Rattle.well_formed.proofs.ChainLaws.{behind-found, behind-nowhere}
use Rattle.well_formed.proofs.keys.key_chained.Goals as goal

pub returns-in-Found : goal.returns-in-Found
returns-in-Found g c =
    let R = records_of c.args.entries.now in
    let r = get_or R c.args.at zero_rec in
    let x : Tells (in_bucket g.row.BUCKETS R (length R)) c.args.bucket (length R - (c.args.at + 1)) (λ i. same_fields r (get_or R (length R - suc i) zero_rec)) c.find.result
    = c.find.ensures _ _ _ c.requires.chained (λ i b l e. search rules) in
    let y = rw c.in-Found.is at x in
    sym (behind-found R r c.args.at c.requires.at_in_bounds.0 _ y.0 y.2)

pub returns-in-Nowhere : goal.returns-in-Nowhere
returns-in-Nowhere g c =
    let R = records_of c.args.entries.now in
    let r = get_or R c.args.at zero_rec in
    let x : Tells (in_bucket g.row.BUCKETS R (length R)) c.args.bucket (length R - (c.args.at + 1)) (λ i. same_fields r (get_or R (length R - suc i) zero_rec)) c.find.result
    = c.find.ensures _ _ _ c.requires.chained (λ i b l e. search rules) in
    sym (behind-nowhere R r c.args.at c.requires.at_in_bounds.0 _ _ c.requires.bucket_value.0 (rw c.in-Nowhere.is at x))
