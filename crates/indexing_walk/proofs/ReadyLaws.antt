-- A walk at a table, as the code comes to it: the kind and the argument read, and numbers that fit.
-- Assumes nothing.
use mathlib.Core.List.{List}
use Prim.Native.Nat.{ℕ, ◌≤◌, ◌<◌}
use native.Mathlib.Omega.{arith}
use lib.ListN.{length}
use Rattle.records.specs.Records.{records_of}
use Rattle.indexing_iter.specs.declared.Settings.{Settings}
use Rattle.indexing.proofs.Size.{lines-size}
use Rattle.indexing.proofs.Stored.{capacity-small}
use Rattle.indexing_walk.specs.declared.Walking.{Walking}
use Rattle.indexing_walk.proofs.StandLaws.{Ready, here, within, size_is, arg-range, at_count}
use Rattle.indexing_walk.proofs.TurnLaws.{AtTable, some-table}
use Rattle.indexing_walk.proofs.LineLaws.{arity-32}

-- numbers that fit
pub small : {code starts : List ℕ} {S : Settings} {b : List ℕ} {w : Walking} → Ready code starts S b w
    → (w.tables ≤ 64) × (w.line ≤ 65535) × (w.lines ≤ 65535) × (w.line < w.lines)
small {b = b} {w = w} ready =
    let a = arity-32 ready in
    let l = lines-size (here ready) in
    let st = ready.stands in
    let n : length (here ready) ≤ 65535 = omega (arith, l, size_is ready, st.fits, capacity-small b) in
    (omega (arith, a, st.first, st.last), omega (arith, n, st.place.line), omega (arith, n, st.lines_are), omega (arith, st.lines_are, st.place.line))

module _ {code starts : List ℕ} {S : Settings} {b : List ℕ} {w : Walking} {a : ℕ} (t : AtTable code starts S b w a) where
  pub table-range : (1 ≤ a) × (a ≤ S.arity) × (a ≤ 32) × (w.at < w.count)
  table-range =
      let st = t.ready.stands in
      let x = some-table t.ready st.tables st.place t.table in
      let r = arg-range t.ready x.table x.later x.is in
      let n = arity-32 t.ready in (
        omega (arith, r.0, st.first, x.arg, t.half),
        omega (arith, r.1, x.arg, t.half),
        omega (arith, r.1, x.arg, t.half, n),
        at_count t.ready x.table x.later x.is,
      )

  -- what is asked for the way to the next table
  pub to-pass : (w.at < w.count) × (w.count ≤ length (records_of b)) × (w.tables ≤ 64) × (a ≤ 64)
  to-pass = (table-range.3, within t.ready, (small t.ready).0, omega (arith, table-range.2))
