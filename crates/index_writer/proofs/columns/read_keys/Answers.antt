-- The keys and rows of the first i clauses stand. Assumes nothing.
use mathlib.Core.Path.{sym, ◌∙◌}
use Prim.Native.Nat.{◌+◌, ◌-◌, ◌*◌}
use native.Mathlib.Omega.{arith}
use Rattle.records.proofs.Filled.{fill_start, fill_more}
use Rattle.indexing_iter.specs.Readings.{keys_by}
use Rattle.indexing.proofs.BridgeColumns.{length-heads, length-bits, get_or-heads, get_d_bits}
use Rattle.index_writer.proofs.ColumnLaws.{fill-whole, column-room, column-in, column-done, rows_start, row-wide, row_room, rows_more, rows_end}
use Rattle.index_writer.proofs.columns.read_keys.Goals as goal

pub loop-i-init : goal.loop-i-init
loop-i-init c =
    let a = c.args in
    let t = a.line.now in
    let K = keys_by t.program in
    let h = length-heads K t.offs.now t.arg in
    let b = length-bits K t.offs.now t.arg in
    let n = c.requires in
    (h, b, fill_start _ a.heads.now (column-room h n.0), fill_start _ a.bits.now (column-room b n.1), rows_start K t.program.settings.arity t.offs.now a.opens.now)

pub loop-i-preserved : goal.loop-i-preserved
loop-i-preserved c = let l = c.loop-i in
    let t = c.loop-i-test.true in
    let s = c.args.line.now in
    let K = keys_by s.program in
    let k = c.read_row-k in (
      l.invariant.0,
      l.invariant.1,
      fill_more _ 0 l.invariant.2 (column-in l.invariant.0 t) (get_or-heads K s.offs.now s.arg l.i t ∙ sym k.ensures.head_value),
      fill_more _ 0 l.invariant.3 (column-in l.invariant.1 t) (get_d_bits K s.offs.now s.arg l.i t ∙ sym k.ensures.bits_value),
      rows_more (32 * l.i + 32 - 32 * l.i) k.new.opens l.invariant.4 (row_room t c.requires.2) (row-wide l.i) k.ensures.opens_after,
    )

pub returns : goal.returns
returns c = let l = c.loop-i in
    let n = c.requires in
    let t = c.loop-i-test.false in record {
      heads_after = fill-whole l.invariant.2 (n.0 ∙ sym l.invariant.0) (column-done l.invariant.0 t);
      bits_after = fill-whole l.invariant.3 (n.1 ∙ sym l.invariant.1) (column-done l.invariant.1 t);
      opens_after = rows_end _ l.invariant.4 n.2 (omega (arith, t, l.invariant.2.within, l.invariant.0));
    }
