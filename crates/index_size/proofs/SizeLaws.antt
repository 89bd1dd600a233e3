-- The count by the columns that the code fills, or a refusal, is the size call's answer (indexing/specs/Builder).
-- Assumes nothing.
use mathlib.Core.Path.{◌≡◌, refl, ◌∙◌}
use mathlib.Core.List.{List}
use Prim.Native.Nat.{ℕ}
use lib.ListN.{length, replicate}
use Rattle.indexing_iter.specs.declared.Settings.{Settings}
use Rattle.indexing_iter.specs.declared.program.Program.{Program}
use Rattle.indexing_iter.specs.declared.refusal.Refusal.{Refusal}
use Rattle.indexing_iter.specs.Refusals.{passed}
use Rattle.std.specs.Prelude.{Ok, Err}
use Rattle.indexing_iter.specs.Classes.{class_of}
use Rattle.indexing_iter.specs.Clauses.{offsets_of}
use Rattle.indexing_iter.specs.Checks.{check_build}
use Rattle.indexing.specs.Lines.{size}
use Rattle.indexing.specs.Builder.{index_of, size_call}
use Rattle.index_writer.specs.declared.clauses.Clauses.{Clauses}
use Rattle.index_writer.specs.declared.clauses.Columns.{Columns}
use Rattle.index_writer.specs.declared.rooms.IndexRoom.{IndexRoom}
use Rattle.index_writer.specs.Filling.{Filled}
use Rattle.index_writer.specs.Written.{IndexRoomOf}
use Rattle.index_writer.proofs.FillingLaws.{first-seeds, first-switch, first-lines}
use Rattle.index_writer.proofs.IndexLaws.{size_is}
use Rattle.index_size.specs.Answer.{sized_of}

module _ (code starts : List ℕ) (S : Settings) (c : ℕ) where
  -- a refusal of the checks
  pub refused-by : (e : Refusal) → Err e ≡ check_build class_of S.arity c code starts → sized_of (Err e) ≡ size_call class_of code starts S c
  unfolding size_call
  refused-by e f = rw (← f) refl

  -- where the checks passed
  pub sized-by : check_build class_of S.arity c code starts ≡ passed → (n : ℕ) → n ≡ size (index_of class_of code starts S c)
      → sized_of (Ok n) ≡ size_call class_of code starts S c
  unfolding size_call
  sized-by accepted n e = rw (accepted, e)

-- the count by the columns of the first line
pub counted-by : {p : Program} {c : ℕ} {w : Clauses} {C : Columns} → check_build class_of p.settings.arity c p.code.now p.starts.now ≡ passed
    → Filled p (offsets_of p.starts.now) (replicate (length p.starts.now) 7) c w C → (r : IndexRoom)
    → IndexRoomOf w.tables.opens C.lines.rooms C.bits.now C.lines.offs.now C.lines.tags.now r
    → r.count ≡ size (index_of class_of p.code.now p.starts.now p.settings c)
unfolding index_of
counted-by {p} {c} accepted F r h =
    (rw (first-seeds F F.own-offs F.own-tags, first-switch F, first-lines F) at h.count-is) ∙ size_is p.code.now p.starts.now p.settings c accepted
