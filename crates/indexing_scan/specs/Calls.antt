-- The walk's call and the witness: results and every byte of every lent buffer, for every input (document 01, section 5 and "What each call gives back").
-- Assumes nothing.
use Rattle.std.specs.Prelude.{ℕ, ◌-◌, ◌*◌, Bool, cond, not, ◌&&◌, List, [], ◌∷◌, ◌++◌, eqb, leb, ltb, length, get_or, take, drop}
use Rattle.std.specs.List.{filter, list_all, list_any}
use Rattle.records.specs.declared.Rec.{Rec}
use Rattle.records.specs.Records.{records_of, zero_rec}
use Rattle.indexing_iter.specs.declared.Settings.{Settings}
use Rattle.indexing_iter.specs.declared.refusal.Refusal.TheVariants.{Call as CallOf, Out, Index as IndexOf}
use Rattle.indexing_iter.specs.Refusals.{Checked, refusal_number}
use Rattle.std.specs.Prelude.{Ok, Err}
use Rattle.indexing_iter.specs.Clauses.{offsets_of, known}
use Rattle.indexing_iter.specs.Checks.{otherwise, refuse, check_code}
use Rattle.indexing.specs.Lines.{size}
use Rattle.indexing.specs.Reading.{key_from, parse}
use Rattle.indexing.specs.Build.{program_of}
use Rattle.indexing.specs.Builder.{capacity_of, stored}
use Rattle.well_formed.specs.WellFormed.{well_formed}
use Rattle.indexing_scan.specs.Agree.{Call, agree}
use Rattle.indexing_scan.specs.Walk.{Case, fail, external, sequence, variadic, Result, walk}

-- section 5 and 10: kind and word are 0; unbound: all zero; literal: half 0; structure: arity 1 to 255; list: half and long 0
unfoldable pub argument_ok : Rec → Bool
argument_ok r =
    eqb r.kind 0 && (eqb r.word 0 &&
    cond (eqb r.sub 0) (eqb r.half 0 && eqb r.long 0)
    (cond (leb r.sub 3) (eqb r.half 0)
    (cond (eqb r.sub 4) (leb 1 r.half && leb r.half 255)
    (eqb r.sub 5 && (eqb r.half 0 && eqb r.long 0)))))

-- 10: call not arity records, sort above 5, used field wrong or unused field not 0; structure arity outside 1..255
abbrev pub check_call : ℕ → List ℕ → Checked
check_call arity call = refuse (not (eqb (length call) (16 * arity) && list_all argument_ok (records_of call))) CallOf

-- section 5: the key of each argument, counted from 1
unfoldable pub call_of : List ℕ → Call
call_of call a = let r = get_or (records_of call) (a - 1) zero_rec in key_from r.sub r.half r.long

-- 11: out shorter than the starts
abbrev pub check_out : List ℕ → List ℕ → Checked
check_out starts out = refuse (ltb (length out) (length starts)) Out

-- 12: index not well formed: the record count within capacity, and the records within it
abbrev pub check_index : Settings → List ℕ → List ℕ → ℕ → Checked
check_index S starts index count =
    refuse (not (leb count (capacity_of index) && well_formed S.arity S.dynamic (known starts) (take count (records_of index)))) IndexOf

-- what a walk gives back: the refusal's number (0: accepted), case, line number, count, tables looked at, mark (0 stored, 1 unstored), new record count; index and out at the end
pub record Walked : Type 0 where
  pub number : ℕ
  pub case : ℕ
  pub line : ℕ
  pub count : ℕ
  pub tables : ℕ
  pub mark : ℕ
  pub records : ℕ
  pub index : List ℕ
  pub out : List ℕ

-- 1 Fail, 2 External, 3 Sequence, 4 Variadic; a refusal has 0
abbrev pub case_number : Case → ℕ
case_number fail = 1
case_number external = 2
case_number sequence = 3
case_number variadic = 4

-- a refusal gives its number and zero in every other field, and leaves index and out; out's rest is untouched
abbrev pub walked_by : Checked → Settings → Result → List ℕ → List ℕ → Walked
walked_by (Err e) S r index out =
    record { number = refusal_number e; case = 0; line = 0; count = 0; tables = 0; mark = 0; records = 0; index = index; out = out }
walked_by (Ok u) S r index out =
    record {
      number = 0;
      case = case_number r.found.kind;
      line = r.number;
      count = length r.found.offsets;
      tables = length r.found.path;
      mark = cond r.whole 0 1;
      records = size r.left;
      index = stored S.dynamic r.left index;
      out = r.found.offsets ++ drop (length r.found.offsets) out;
    }

-- section 5: the walk of the index that the first count records stand for
unfoldable pub result_of : (ℕ → ℕ) → List ℕ → List ℕ → Settings → List ℕ → List ℕ → ℕ → Result
result_of cls code starts S call index count =
    walk (program_of cls S (records_of code) starts) (capacity_of index) (call_of call) (parse (take count (records_of index)))

-- the walk refuses with 1, 3 to 7, 10, 11, 12
unfoldable pub walk_call : (ℕ → ℕ) → List ℕ → List ℕ → Settings → List ℕ → List ℕ → ℕ → List ℕ → Walked
walk_call cls code starts S call index count out =
    walked_by
    (otherwise (check_code cls S.arity code starts)
    (otherwise (check_call S.arity call)
    (otherwise (check_out starts out)
    (check_index S starts index count))))
    S (result_of cls code starts S call index count) index out

-- the witness refuses with 1, 3 to 7, 10
unfoldable pub witness_checks : (ℕ → ℕ) → List ℕ → List ℕ → Settings → List ℕ → Checked
witness_checks cls code starts S call = otherwise (check_code cls S.arity code starts) (check_call S.arity call)

-- the offsets of the clauses that agree with the call
unfoldable pub agreeing : (ℕ → ℕ) → List ℕ → List ℕ → Settings → List ℕ → List ℕ
agreeing cls code starts S call = filter (agree (program_of cls S (records_of code) starts) (call_of call)) (offsets_of starts)

-- the witness: some agreeing clause's offset, 0 if there is none
abbrev pub is_witness : List ℕ → ℕ → Bool
is_witness [] o = eqb o 0
is_witness (x ∷ xs) o = list_any (eqb o) (x ∷ xs)
