-- The input of the programs (document 01, "Worked show"): 240 settings, 241 for each start, then code.
-- Assumes nothing.
use Rattle.std.specs.Prelude.{ℕ, ◌+◌, ◌*◌, Bool, true, false, cond, List, [], ◌∷◌, eqb, ltb, length, get_or, take, drop}
use Rattle.records.specs.declared.Rec.{Rec}
use Rattle.records.specs.Records.{records_of, zero_rec}
use Rattle.indexing_iter.specs.declared.Settings.{Settings}
use Rattle.indexing_iter.specs.Classes.{class_of}
use Rattle.indexing_iter.specs.Flags.{flag_in, settings_by_flags}
use Rattle.indexing.specs.Builder.{Built, build_call}

-- the bit of sub whose value is k (1, 2, 4 or 8) is set
abbrev pub bit : ℕ → ℕ → Bool
bit sub k = flag_in sub k

-- sub bits 0 to 3 dynamic, extensible, non-counted, skip; half arity, word mask; no settings first counts as arity 0
abbrev pub settings_from : Bool → Rec → Settings
settings_from true r = settings_by_flags r.half r.word r.sub
settings_from false r = record { arity = 0; mask = 0; dynamic = false; extensible = false; non_counted = false; skip = false }

unfoldable pub settings_of : List ℕ → Settings
settings_of input = let r = get_or (records_of input) 0 zero_rec in settings_from (eqb r.kind 240) r

-- long c
unfoldable pub chosen_of : List ℕ → ℕ
chosen_of input = (get_or (records_of input) 0 zero_rec).long

-- kind 241 for each start (word); the first opcode of the code is not 241
unfoldable pub starts_in : List Rec → List ℕ
starts_in [] = []
starts_in (r ∷ rs) = let rest = starts_in rs in cond (eqb r.kind 241) (r.word ∷ rest) []

-- up to 4,096 records in all; longer input counts as 3: it has no starts, and its code is one byte
abbrev pub longer : List ℕ → Bool
longer input = ltb 65536 (length input)

unfoldable pub starts_of : List ℕ → List ℕ
starts_of input = cond (longer input) [] (starts_in (drop 1 (records_of input)))

-- what follows settings and starts, part records included
unfoldable pub code_of : List ℕ → List ℕ
code_of input = cond (longer input) (take 1 input) (drop (16 * (1 + length (starts_of input))) input)

-- the outcome of the program lines with an index buffer
unfoldable pub lines_call : List ℕ → List ℕ → Built
lines_call input buffer = build_call class_of (code_of input) (starts_of input) (settings_of input) (chosen_of input) buffer
