-- Refusals 1 to 8 (document 01, "What each call gives back"): the first number that applies.
-- Assumes nothing.
use Rattle.std.specs.Prelude.{ℕ, ◌%◌, ◌/◌, Bool, true, false, cond, not, ◌&&◌, ◌||◌, List, [], ◌∷◌, eqb, leb, ltb, length, Ok, Err}
use Rattle.records.specs.declared.Rec.{Rec}
use Rattle.records.specs.Records.{records_of}
use Rattle.indexing_iter.specs.declared.InstructionArg.{InstructionArg}
use Rattle.indexing_iter.specs.declared.InstructionArg.TheVariants.{ArgedHead, ArglessHead, NonHead, Prologue}
use Rattle.indexing_iter.specs.declared.refusal.Refusal.{Refusal}
use Rattle.indexing_iter.specs.declared.refusal.Refusal.TheVariants.{Arity, ChosenArgument, CodeSize, Starts, NoBody, KeyRecord, Register, OpenClause}
use Rattle.indexing_iter.specs.Refusals.{Checked, passed}
use Rattle.indexing_iter.specs.Classes.{is_keyed, is_shallow_temp, instruction_arg}
use Rattle.indexing_iter.specs.Keys.{key_in, is_open}
use Rattle.indexing_iter.specs.Clauses.{clauses_of}

-- the first check's refusal, or else the next one's answer
abbrev pub otherwise : Checked → Checked → Checked
otherwise (Ok u) next = next
otherwise (Err e) next = Err e

-- refused where the condition is met
abbrev pub refuse : Bool → Refusal → Checked
refuse met e = cond met (Err e) passed

-- 1: arity outside 1..32
abbrev pub check_arity : ℕ → Checked
check_arity arity = refuse (not (leb 1 arity && leb arity 32)) Arity

-- 2: c is 0 or above arity
abbrev pub check_chosen : ℕ → ℕ → Checked
check_chosen arity c = refuse (eqb c 0 || ltb arity c) ChosenArgument

-- 3: code not whole records or over 32,768
abbrev pub check_size : List ℕ → Checked
check_size code = refuse (not (eqb (length code % 16) 0) || ltb 32768 (length code / 16)) CodeSize

-- strictly rising, and all below n
unfoldable pub rising_below : ℕ → List ℕ → Bool
rising_below n [] = true
rising_below n (s ∷ []) = ltb s n
rising_below n (s ∷ (t ∷ ts)) = let rest = rising_below n (t ∷ ts) in ltb s t && rest

-- 4: starts: none, over 1,024, not strictly rising, or at or past the code's end
abbrev pub check_starts : ℕ → List ℕ → Checked
check_starts n starts = refuse (not (leb 1 (length starts) && (leb (length starts) 1024 && rising_below n starts))) Starts

abbrev pub is_body : InstructionArg → Bool
is_body NonHead = true
is_body Prologue = false
is_body ArglessHead = false
is_body (ArgedHead reg key) = false

-- whether some record is a body record; 5 applies where none is
unfoldable pub has_body : (ℕ → ℕ) → List Rec → Bool
has_body cls [] = false
has_body cls (r ∷ rs) = let rest = has_body cls rs in is_body (instruction_arg cls r) || rest

-- 6: of a GetStructure the arity is 1 to 255, of a GetConstant the literal's sort 1 to 3
abbrev pub key_fields_ok : ℕ → Rec → Bool
key_fields_ok class r = cond (eqb class 3) (leb 1 r.half && leb r.half 255) (cond (eqb class 5) (leb 1 r.half && leb r.half 3) true)

-- 6: a keyed record with sub bits 2 to 7 set, or with bits 0 and 1 clear and a wrong sort or arity
unfoldable pub record_bad : ℕ → Rec → Bool
record_bad class r = is_keyed class && (not (eqb (r.sub / 4) 0) || (is_shallow_temp r && not (key_fields_ok class r)))

-- 7: register 0, above arity, or not above that of an earlier key of the clause, which last is (0: none)
abbrev pub register_bad : ℕ → ℕ → ℕ → Bool
register_bad arity last reg = eqb reg 0 || (ltb arity reg || leb reg last)

-- 7 at one record, and then the records after it, whose answer is rest at the last register; nothing is read past a body record
abbrev pub register_step : InstructionArg → ℕ → ℕ → (ℕ → Checked) → Checked
register_step NonHead arity last rest = passed
register_step Prologue arity last rest = rest last
register_step ArglessHead arity last rest = rest last
register_step (ArgedHead reg key) arity last rest = cond (register_bad arity last reg) (Err Register) (rest reg)

-- 6 and 7, record by record through the first body record, within a record 6 before 7
unfoldable pub check_records : (ℕ → ℕ) → ℕ → List Rec → ℕ → Checked
check_records cls arity [] last = passed
check_records cls arity (r ∷ rs) last =
    cond (record_bad (cls r.kind) r) (Err KeyRecord) (register_step (instruction_arg cls r) arity last (check_records cls arity rs))

-- 5 to 7 of one clause, its 5 first
unfoldable pub check_clause : (ℕ → ℕ) → ℕ → List Rec → Checked
check_clause cls arity rs = cond (has_body cls rs) (check_records cls arity rs 0) (Err NoBody)

-- 5 to 7, clause by clause
unfoldable pub check_clauses : (ℕ → ℕ) → ℕ → List (List Rec) → Checked
check_clauses cls arity [] = passed
check_clauses cls arity (c ∷ cs) = let rest = check_clauses cls arity cs in otherwise (check_clause cls arity c) rest

-- 8: a clause with no key at c
unfoldable pub open_somewhere : (ℕ → ℕ) → ℕ → List (List Rec) → Bool
open_somewhere cls c [] = false
open_somewhere cls c (rs ∷ rss) = let rest = open_somewhere cls c rss in is_open (key_in cls rs c) || rest

abbrev pub check_keyed : (ℕ → ℕ) → ℕ → List (List Rec) → Checked
check_keyed cls c cs = refuse (open_somewhere cls c cs) OpenClause

-- 3 to 7, of the code with its starts
unfoldable pub check_clauses_of : (ℕ → ℕ) → ℕ → List ℕ → List ℕ → Checked
check_clauses_of cls arity code starts =
    otherwise (check_size code)
    (otherwise (check_starts (length code / 16) starts)
    (check_clauses cls arity (clauses_of (records_of code) starts)))

-- 1 and 3 to 7: what walk and witness check of the code
unfoldable pub check_code : (ℕ → ℕ) → ℕ → List ℕ → List ℕ → Checked
check_code cls arity code starts = otherwise (check_arity arity) (check_clauses_of cls arity code starts)

-- 1 to 8: what the builder checks
unfoldable pub check_build : (ℕ → ℕ) → ℕ → ℕ → List ℕ → List ℕ → Checked
check_build cls arity c code starts =
    otherwise (check_arity arity)
    (otherwise (check_chosen arity c)
    (otherwise (check_clauses_of cls arity code starts)
    (check_keyed cls c (clauses_of (records_of code) starts))))
