-- The numbers of refusals (document 01, "What each call gives back"), and what a check answers.
-- Assumes nothing.
use Rattle.std.specs.Prelude.{ℕ, Result, Ok, Err}
use Rattle.indexing_iter.specs.declared.refusal.Refusal.{Refusal}
use Rattle.indexing_iter.specs.declared.refusal.Refusal.TheVariants.{Arity, ChosenArgument, CodeSize, Starts, NoBody, KeyRecord, Register, OpenClause, NoRoom, Call, Out, Index}

abbrev pub refusal_number : Refusal → ℕ
refusal_number Arity = 1
refusal_number ChosenArgument = 2
refusal_number CodeSize = 3
refusal_number Starts = 4
refusal_number NoBody = 5
refusal_number KeyRecord = 6
refusal_number Register = 7
refusal_number OpenClause = 8
refusal_number NoRoom = 9
refusal_number Call = 10
refusal_number Out = 11
refusal_number Index = 12

-- a check's answer: passed, or why it refuses
abbrev pub Checked : Type 0
Checked = Result Unit Refusal

abbrev pub passed : Checked
passed = Ok tt

-- the number of a check's answer, 0 where it passed
abbrev pub number_of : Checked → ℕ
number_of (Ok u) = 0
number_of (Err e) = refusal_number e
