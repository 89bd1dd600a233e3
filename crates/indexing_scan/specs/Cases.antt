-- How a walk can end, as section 5 names it (document 01).
-- Assumes nothing.
use Rattle.indexing_scan.specs.declared.case.Case.{Case as Ending}
use Rattle.indexing_scan.specs.declared.case.Case.TheVariants.{Fail, External, Sequence, Variadic}
use Rattle.indexing_scan.specs.Walk.{Case, fail, external, sequence, variadic}

abbrev pub case_of : Ending → Case
case_of Fail = fail
case_of External = external
case_of Sequence = sequence
case_of Variadic = variadic

-- and back
abbrev pub ending_of : Case → Ending
ending_of fail = Fail
ending_of external = External
ending_of sequence = Sequence
ending_of variadic = Variadic
