-- What making a program answers, without the program.
-- Assumes nothing.
use Rattle.std.specs.Prelude.{Result, Ok, Err}
use Rattle.indexing_iter.specs.declared.refusal.Refusal.{Refusal}
use Rattle.indexing_iter.specs.Refusals.{Checked, passed}

abbrev pub checked_of : {A : Type 0} → Result A Refusal → Checked
checked_of (Ok x) = passed
checked_of (Err e) = Err e
