use mathlib.Core.Path.{◌≡◌}
use lib.ListN.{length}
use Rattle.indexing.specs.Columns.{size_of}
use Rattle.index_writer.proofs.Gather.{Gathered}
use Rattle.index_writer.proofs.LineLaws.{choice_of}
use Rattle.index_writer.proofs.choices.put_choices.Given as goal

abbrev pub invariant-loop-j : goal.invariant-loop-j
invariant-loop-j l = (l.n ≡ size_of l.choices.leaders.now l.i) × Gathered (choice_of l.choices.leaders.now l.choices.offs.now l.choices.tags.now l.settings.dynamic l.settings.non_counted l.i) (length l.choices.leaders.now) l.initial.index l.p l.j l.q l.index
