-- The clause that is first open, and its first body record. Assumes nothing.
use Prim.Native.Nat.{◌<◌}
use mathlib.Core.Path.{◌≡◌, refl, ◌∙◌}
use native.Mathlib.Omega.{arith}
use borrow.Author.Rules.{rules}
use lib.ListN.{length}
use Rattle.records.specs.Records.{records_of}
use Rattle.indexing_iter.specs.Clauses.{clauses_of}
use Rattle.indexing_iter.specs.Faults.{body_at}
use Rattle.indexing_iter.specs.Places.{body_found}
use Rattle.indexing_iter.proofs.Table.{class_in}
use Rattle.indexing_iter.proofs.FaultLaws.{open-known, body-or-end, body-within, length-clauses}
use Rattle.locate.proofs.first_open.Goals.{In_ok-k, After-unwrap_or-at}
use Rattle.locate.proofs.first_open.Goals as goal

-- there is such a clause, whatever argument it is open at
within : (c : In_ok-k) → c.in_ok-k.k < length c.args.c.now.starts.now
within c =
    let s = c.args.c.now in
    let rs = records_of s.reader.code.now in
    let here = open-known (class_in s.reader.table.now) _ (clauses_of rs s.starts.now) c.in_ok-k.k c.in_ok-k.ensures in
    omega (arith, here.2, length-clauses rs s.starts.now)

pub clause-clause-requires : goal.clause-clause-requires
clause-clause-requires c = within (goal.at.clause-clause-requires c).In_ok-k

pub bounds-c-k : goal.bounds-c-k
bounds-c-k c = within (goal.at.bounds-c-k c).In_ok-k

pub offset_bounds-c-k : goal.offset_bounds-c-k
offset_bounds-c-k c = let h : c.in_ok-k.k < length c.args.c.now.starts.now = within (goal.at.offset_bounds-c-k c).In_ok-k in search rules

-- its place is that of the clause's first body record
place : (c : After-unwrap_or-at) → let one = c.clause-clause.result in
    c.unwrap_or-at.result ≡ body_at (class_in one.table.now) (records_of one.code.now)
place c =
    let one = c.clause-clause.result in
    let rs = records_of one.code.now in
    let cls = class_in one.table.now in
    let found : c.body_at.result ≡ body_found cls rs = c.body_at.ensures in
    c.unwrap_or-at.ensures ∙ rw (found, c.capacity.ensures) (body-or-end cls rs)

pub overflow_add-at : goal.overflow_add-at
overflow_add-at c =
    let one = c.clause-clause in
    let at = (goal.at.overflow_add-at c).After-unwrap_or-at in
    omega (arith, one.ensures.places_in_range, place at, body-within (class_in one.result.table.now) (records_of one.result.code.now))

pub returns : goal.returns
returns c =
    let s = c.args.c.now in
    let cs = clauses_of (records_of s.reader.code.now) s.starts.now in
    let one = c.clause-clause in
    let here = open-known (class_in s.reader.table.now) c.args.j cs c.in_ok-k.k c.in_ok-k.ensures in
    let at = rw (one.ensures.classes, one.ensures.records) at (place (goal.at.returns c).After-unwrap_or-at) in
    rw (here.0, here.1, at) refl
