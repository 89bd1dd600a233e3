-- What the arrays of a line's columns are filled with. For contracts of inner functions. Assumes nothing.
use Rattle.std.specs.Prelude.{ℕ, ◌≡◌, List}
use Rattle.indexing_iter.specs.declared.program.Program.{Program}
use Rattle.indexing_iter.specs.Readings.{keys_by}
use Rattle.indexing.specs.Expanding.{ColumnsOf}
use Rattle.index_writer.specs.declared.clauses.Clauses.{Clauses}
use Rattle.index_writer.specs.declared.clauses.Columns.{Columns}

-- the clauses offs with these tags in the buckets of their keys at argument a (c), and as one bucket (w)
pub record Filled (p : Program) (offs tags : List ℕ) (a : ℕ) (w : Clauses) (c : Columns) : Type 0 where
  pub keyed : ColumnsOf (keys_by p) p.settings.arity offs a c.lines.rooms.buckets.heads.leaders.now c.lines.rooms.buckets.heads.heads.now
      c.lines.rooms.buckets.sizes.now w.tables.opens.leaders.now c.bits.now c.lines.rooms.opens.now
  pub whole-opens : w.tables.opens.opens.now ≡ c.lines.rooms.opens.now
  pub whole-offs : w.tables.offs.now ≡ offs
  pub whole-tags : w.tags.now ≡ tags
  pub own-offs : c.lines.offs.now ≡ offs
  pub own-tags : c.lines.tags.now ≡ tags
  pub settings : c.lines.rooms.switched.settings ≡ p.settings
  pub arg : c.lines.rooms.switched.arg ≡ a
