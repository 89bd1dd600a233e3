-- `records::capacity` meets its contract: sixteen bytes to a record. Assumes nothing.
use mathlib.Core.Path.{sym}
use Rattle.records.proofs.Laws.{length-records_of}
use Rattle.records.proofs.capacity.Goals as goal

pub returns : goal.returns
returns c = sym (length-records_of _)
