-- The text of a walk's answer: `walk CASE LINE COUNT TABLES MARK RECORDS`, then each offset after a blank. Bytes are ASCII. Assumes nothing.
use Rattle.std.specs.Prelude.{ℕ, Bool, cond, List, [], ◌∷◌, ◌++◌}
use Rattle.listing.specs.Text.{decimal}
use Rattle.indexing_scan.specs.declared.case.Case.{Case}
use Rattle.indexing_scan.specs.declared.case.Case.TheVariants.{Fail, External, Sequence, Variadic}
use Rattle.indexing_walk.specs.declared.Ended.{Ended}

-- `walk fail `, `walk external `, `walk sequence `, `walk variadic `
abbrev pub case_word : Case → List ℕ
case_word Fail = 119 ∷ 97 ∷ 108 ∷ 107 ∷ 32 ∷ 102 ∷ 97 ∷ 105 ∷ 108 ∷ 32 ∷ []
case_word External = 119 ∷ 97 ∷ 108 ∷ 107 ∷ 32 ∷ 101 ∷ 120 ∷ 116 ∷ 101 ∷ 114 ∷ 110 ∷ 97 ∷ 108 ∷ 32 ∷ []
case_word Sequence = 119 ∷ 97 ∷ 108 ∷ 107 ∷ 32 ∷ 115 ∷ 101 ∷ 113 ∷ 117 ∷ 101 ∷ 110 ∷ 99 ∷ 101 ∷ 32 ∷ []
case_word Variadic = 119 ∷ 97 ∷ 108 ∷ 107 ∷ 32 ∷ 118 ∷ 97 ∷ 114 ∷ 105 ∷ 97 ∷ 100 ∷ 105 ∷ 99 ∷ 32 ∷ []

-- `stored `, `unstored `
abbrev pub mark_word : Bool → List ℕ
mark_word whole =
    cond whole (115 ∷ 116 ∷ 111 ∷ 114 ∷ 101 ∷ 100 ∷ 32 ∷ []) (117 ∷ 110 ∷ 115 ∷ 116 ∷ 111 ∷ 114 ∷ 101 ∷ 100 ∷ 32 ∷ [])

-- an answer without its offsets, before a text
unfoldable pub ended_text : Ended → List ℕ → List ℕ
ended_text e text =
    case_word e.case ++ decimal e.line (32 ∷ decimal e.count (32 ∷ decimal e.tables (32 ∷ (mark_word e.whole ++ decimal e.records text))))

-- offsets, each after a blank, before a text
unfoldable pub offsets_text : List ℕ → List ℕ → List ℕ
offsets_text [] text = text
offsets_text (o ∷ os) text = 32 ∷ decimal o (offsets_text os text)
