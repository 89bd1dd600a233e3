use mathlib.Core.Path.{◌≡◌, refl, ap}
use mathlib.Core.List.{[], ◌++◌}
use Prim.Native.Nat.{◌+◌, ◌-◌, ◌≤◌}
use native.Mathlib.Omega.{arith}
use lib.ListN.{length, take, drop}
use lib.Seq.{length-take-le, take-append-le}
use Rattle.records.specs.Records.{records_of}
use Rattle.indexing_iter.specs.Classes.{class_of}
use Rattle.indexing.specs.Build.{program_of}
use Rattle.indexing_scan.specs.Calls.{call_of}
use Rattle.indexing_scan.specs.Walk.{unstored}
use Rattle.indexing_scan.specs.declared.unstored.Finished.{Finished}
use Rattle.indexing_walk.proofs.StandLaws.{demand-in, ready-in}
use Rattle.indexing_walk.proofs.LineLaws.{LineRead, place_in, room, line_read, arity-32}
use Rattle.indexing_walk.proofs.ReadyLaws.{small, table-range, to-pass}
use Rattle.indexing_walk.proofs.TurnLaws.{demand-table}
use Rattle.indexing_walk.proofs.NarrowLaws.{Narrows, front-of, narrows, path-few}
use borrow.Author.Rules.{rules}
use Rattle.indexing_walk.proofs.turns.turn_unstored.Goals.{After-demand_at, After-finish-f, After-read_line-m, In-Bucket, Start}
use Rattle.indexing_walk.proofs.turns.turn_unstored.Goals as goal

one-more : (s : Start) → (s.args.w.tables ≤ 64) × (1 ≤ 64)
one-more s = ((small (ready-in s.args.query.now.program s.requires.stands)).0, omega arith)

-- the offsets of its line are read
read : (c : After-read_line-m)
    → let a = c.args in LineRead a.query.now.program.starts.now a.index.now a.w (take c.read_line-m.result c.read_line-m.new.list)
read c =
    let a = c.args in
    let due = demand-in c.args.query.now.program c.requires.stands c.requires.table in
    let r = c.read_line-m in
    line_read due.ready r.result r.new.list c.args.list.now r.ensures.0 r.ensures.1

-- and narrowed at the table's argument
narrowed : (c : After-demand_at)
    → let a = c.args in
    Narrows a.query.now.program.code.now a.query.now.program.starts.now a.query.now.program.settings a.query.now.call.now a.index.now a.w a.a c.demand_at.new.clauses c.demand_at.result
narrowed c =
    let a = c.args in
    let due = demand-in c.args.query.now.program c.requires.stands c.requires.table in
    let r = c.read_line-m in
    let d = c.demand_at in
    narrows due c.args.query.now.call.now c.args.q c.requires.q_value.0 c.requires.q_value.1 c.requires.off
    d.new.clauses (take r.result r.new.list) d.result (line_read due.ready r.result r.new.list c.args.list.now r.ensures.0 r.ensures.1) d.ensures.clauses_after d.ensures.held

pub read_line-m-requires-clause-at_le_count : goal.read_line-m-requires-clause-at_le_count
read_line-m-requires-clause-at_le_count c = place_in (ready-in c.args.query.now.program c.requires.stands)

-- the list has room for them
in_list : (c : After-read_line-m) → (c.read_line-m.result ≤ 1024) × (c.read_line-m.result ≤ length c.read_line-m.new.list)
in_list c =
    let a = c.args in
    let due = demand-in c.args.query.now.program c.requires.stands c.requires.table in
    let len : length c.read_line-m.new.list ≡ length a.list.now = search rules in
    let n : c.read_line-m.result ≤ 1024 = omega (arith, c.read_line-m.ensures.0, room due.ready 1024 refl) in
    (n, omega (arith, n, len))

pub read_line-m-requires-clause-at_in_bounds : goal.read_line-m-requires-clause-at_in_bounds
read_line-m-requires-clause-at_in_bounds c = room (demand-in c.args.query.now.program c.requires.stands c.requires.table).ready (length c.args.list.now) (omega arith)

pub slice_bounds-demand_at-end : goal.slice_bounds-demand_at-end
slice_bounds-demand_at-end c = (in_list (goal.at.slice_bounds-demand_at-end c).After-read_line-m).0

pub demand_at-requires-clause-clauses_value : goal.demand_at-requires-clause-clauses_value
demand_at-requires-clause-clauses_value c = (read (goal.at.demand_at-requires-clause-clauses_value c).After-read_line-m).known-all

-- the bucket's clauses are at the front of the line's, and these of the list
bucket : (c : In-Bucket)
    → let d = c.demand_at in
    (c.in-Bucket.k ≤ length d.new.clauses) × (take c.in-Bucket.k (d.new.clauses ++ drop c.read_line-m.result c.read_line-m.new.list) ≡ take c.in-Bucket.k d.new.clauses)
bucket c =
    let d = c.demand_at in
    let len : length d.new.clauses ≡ length (take c.read_line-m.result c.read_line-m.new.list) = search rules in
    let within : c.in-Bucket.k ≤ length (take c.read_line-m.result c.read_line-m.new.list) = rw c.in-Bucket.is at d.ensures.held.within in
    let h : c.in-Bucket.k ≤ length d.new.clauses = omega (arith, within, len) in
    (h, take-append-le c.in-Bucket.k d.new.clauses _ h)

-- the answer from a bucket looks at few tables
few-tables : (c : After-finish-f) → c.finish-f.result.tables ≤ 32
few-tables c =
    let a = c.args in
    let ready = ready-in c.args.query.now.program c.requires.stands in
    let few = path-few (program_of class_of a.query.now.program.settings (records_of a.query.now.program.code.now) a.query.now.program.starts.now) (call_of a.query.now.call.now) (a.query.now.program.settings.arity + 1 - (a.a + 1)) (a.a + 1) []
    (unstored (take c.in-Bucket.k (c.demand_at.new.clauses ++ drop c.read_line-m.result c.read_line-m.new.list))) in
    omega (arith, few, ap (λ (y : Finished). y.tables) c.finish-f.ensures.result_value, arity-32 ready)

pub overflow_add-f : goal.overflow_add-f
overflow_add-f c = omega (arith, few-tables (goal.at.overflow_add-f c).After-finish-f)

pub end_with-requires-in-Bucket : goal.end_with-requires-in-Bucket
end_with-requires-in-Bucket c = ((one-more (goal.at.end_with-requires-in-Bucket c).Start).0, omega (arith, few-tables (goal.at.end_with-requires-in-Bucket c).After-finish-f))

pub pass_table-requires : goal.pass_table-requires
pass_table-requires c = to-pass (demand-table (demand-in c.args.query.now.program c.requires.stands c.requires.table))

pub end_with-requires : goal.end_with-requires
end_with-requires c = one-more (goal.at.end_with-requires c).Start

pub end_with-requires-in-Single : goal.end_with-requires-in-Single
end_with-requires-in-Single c = one-more (goal.at.end_with-requires-in-Single c).Start

pub overflow_add-a : goal.overflow_add-a
overflow_add-a c = record { fits = omega (arith, (table-range (demand-table (demand-in c.args.query.now.program c.requires.stands c.requires.table))).2) }

pub finish-f-requires-clause-le_a : goal.finish-f-requires-clause-le_a
finish-f-requires-clause-le_a c = (omega arith, omega (arith, (table-range (demand-table (demand-in c.args.query.now.program c.requires.stands c.requires.table))).1))

pub returns-in-Passed : goal.returns-in-Passed
returns-in-Passed c = let go = rw c.in-Passed.is at (narrowed (goal.at.returns-in-Passed c).After-demand_at) in
    go _ c.pass_table.result refl c.pass_table.ensures

pub returns-in-Failed : goal.returns-in-Failed
returns-in-Failed c = let go = rw c.in-Failed.is at (narrowed (goal.at.returns-in-Failed c).After-demand_at) in
    go _ c.end_with.result c.end_with.ensures

pub returns-in-Single : goal.returns-in-Single
returns-in-Single c = let go = rw c.in-Single.is at (narrowed (goal.at.returns-in-Single c).After-demand_at) in
    go _ c.end_with-in-Single.result c.end_with-in-Single.ensures

pub returns-in-Bucket : goal.returns-in-Bucket
returns-in-Bucket c = let go = rw c.in-Bucket.is at (narrowed (goal.at.returns-in-Bucket c).After-demand_at) in
    let f = c.finish-f in
    let k = bucket (goal.at.returns-in-Bucket c).In-Bucket in
    let old : length (take c.in-Bucket.k c.demand_at.new.clauses) ≡ c.in-Bucket.k = length-take-le c.in-Bucket.k c.demand_at.new.clauses k.0 in
    let len : length f.new.clauses ≡ length (take c.in-Bucket.k (c.demand_at.new.clauses ++ drop c.read_line-m.result c.read_line-m.new.list)) = search rules in
    go _ k.1 _ f.result c.end_with-in-Bucket.result f.ensures.result_value
    (front-of f.result.count f.new.clauses _ _ (omega (arith, len, f.ensures.count_le_len)) f.ensures.clauses_after)
    (omega (arith, f.ensures.count_le_len, ap length k.1, old)) c.end_with-in-Bucket.ensures
