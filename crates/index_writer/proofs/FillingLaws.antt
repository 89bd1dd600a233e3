-- The index that the columns of a first line give. Assumes nothing.
use mathlib.Core.Path.{◌≡◌, refl}
use mathlib.Core.List.{List}
use Prim.Native.Nat.{ℕ}
use lib.ListN.{length, replicate}
use Rattle.indexing_iter.specs.declared.program.Program.{Program}
use Rattle.indexing_iter.specs.Clauses.{offsets_of}
use Rattle.indexing.specs.Columns.{seed_recs}
use Rattle.index_writer.specs.declared.clauses.Clauses.{Clauses}
use Rattle.index_writer.specs.declared.clauses.Columns.{Columns}
use Rattle.index_writer.specs.Filling.{Filled}
use Rattle.index_writer.specs.Written.{switch_in, new_lines_by}
use Rattle.index_writer.proofs.IndexLaws.{seeds_of, switch_of, lines_of, seeds-are, switch-is, lines_are}

-- line 0, its switch and the new lines of an index are those of the code, by the columns of its first line
module _ {p : Program} {c : ℕ} {w : Clauses} {C : Columns} (F : Filled p (offsets_of p.starts.now) (replicate (length p.starts.now) 7) c w C) where
  pub first-seeds : {os tags : List ℕ} → os ≡ offsets_of p.starts.now → tags ≡ replicate (length p.starts.now) 7
      → seed_recs w.tables.opens.leaders.now w.tables.opens.opens.now os tags C.lines.rooms.switched.settings C.lines.rooms.switched.arg
      ≡ seeds_of p.code.now p.starts.now p.settings c
  first-seeds o t = rw (F.whole-opens, F.settings, F.arg, o, t) (seeds-are p.code.now p.starts.now p.settings c refl refl F.keyed)

  pub first-switch : switch_in C 1 ≡ switch_of p.code.now p.starts.now p.settings c
  first-switch = rw (C.lines.rooms.dynamic_is, F.settings, F.arg, F.own-offs) (switch-is p.code.now p.starts.now p.settings c {tags = replicate (length p.starts.now) 7} refl refl F.keyed)

  pub first-lines : new_lines_by C.lines 1 ≡ lines_of p.code.now p.starts.now p.settings c
  first-lines = rw (F.settings, F.arg, F.own-offs, F.own-tags) (lines_are p.code.now p.starts.now p.settings c refl refl F.keyed)
