-- What contracts say again and again of code: the class function of a reader, the clauses of code with starts, and the keys of a program's clauses.
-- Assumes nothing.
use Rattle.std.specs.Prelude.{ℕ, List, get_or}
use Rattle.records.specs.declared.Rec.{Rec}
use Rattle.records.specs.Records.{records_of}
use Rattle.indexing_iter.specs.declared.OptArgIndexKey.{OptArgIndexKey}
use Rattle.indexing_iter.specs.declared.reader.Reader.{Reader}
use Rattle.indexing_iter.specs.declared.clauses.Clauses.{Clauses}
use Rattle.indexing_iter.specs.declared.program.Program.{Program}
use Rattle.indexing_iter.specs.Classes.{class_of}
use Rattle.indexing_iter.specs.Clauses.{clauses_of, key_of}

-- the class of an opcode by a reader's table
abbrev pub class_by : Reader → ℕ → ℕ
class_by reader op = get_or reader.table.now op 0

-- the records of each clause
abbrev pub clauses_by : Clauses → List (List Rec)
clauses_by clauses = clauses_of (records_of clauses.reader.code.now) clauses.starts.now

-- the key at an argument of the clause at an offset
abbrev pub keys_by : Program → ℕ → ℕ → OptArgIndexKey
keys_by program = key_of class_of (records_of program.code.now) program.starts.now
