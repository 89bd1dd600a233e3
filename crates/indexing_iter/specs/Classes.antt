-- Opcode classes, and what a code record says of an argument (document 01, section 1).
-- Every definition that reads code takes the class function as a parameter; `class_of` is document 01's.
-- Assumes nothing.
use Rattle.std.specs.Prelude.{ℕ, ◌%◌, Bool, cond, ◌&&◌, eqb, leb}
use Rattle.records.specs.declared.Rec.{Rec}
use Rattle.indexing_iter.specs.declared.OptArgIndexKey.{OptArgIndexKey}
use Rattle.indexing_iter.specs.declared.OptArgIndexKey.TheVariants.{Literal, Structure, List as ListKey}
use Rattle.indexing_iter.specs.declared.InstructionArg.{InstructionArg}
use Rattle.indexing_iter.specs.declared.InstructionArg.TheVariants.{ArgedHead, ArglessHead, NonHead, Prologue}

-- section 1: 1 prologue, 2 argless head, 3 GetStructure, 4 GetList, 5 GetConstant, 6 GetPartialString, 0 body
unfoldable pub class_of : ℕ → ℕ
class_of op =
    cond (leb op 9) 1
    (cond (leb 32 op && leb op 38) 2
    (cond (eqb op 16) 3 (cond (eqb op 17) 4 (cond (eqb op 18) 5 (cond (eqb op 19) 6 0)))))

-- section 1: classes 3 to 6 are keyed
abbrev pub is_keyed : ℕ → Bool
is_keyed class = leb 3 class && leb class 6

-- section 1: bit 0 (level not Shallow) or bit 1 (register not Temp) makes a keyed record a body record
abbrev pub is_shallow_temp : Rec → Bool
is_shallow_temp r = eqb (r.sub % 4) 0

-- section 2: the key of a keyed record; GetPartialString counts as a list
abbrev pub key_of_class : ℕ → Rec → OptArgIndexKey
key_of_class class r = cond (eqb class 3) (Structure r.half r.long) (cond (eqb class 5) (Literal r.half r.long) ListKey)

-- section 1: a record is body, prologue, argless, or a register together with its key
unfoldable pub arg_of_class : ℕ → Rec → InstructionArg
arg_of_class class r =
    cond (eqb class 1) Prologue
    (cond (eqb class 2) ArglessHead
    (cond (is_keyed class) (cond (is_shallow_temp r) (ArgedHead r.word (key_of_class class r)) NonHead) NonHead))

abbrev pub instruction_arg : (ℕ → ℕ) → Rec → InstructionArg
instruction_arg cls r = arg_of_class (cls r.kind) r
