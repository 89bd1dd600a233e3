-- Computed examples of the walk's call and of the witness, bytes in and bytes out, after document 01's section 5 and its table of refusals.
-- They pin the definitions: an edit of Calls or Agree that changes a field, a refusal, a byte that is left or an agreement makes `called` false.
-- What the witness promises of its answer is IsWitness: `promised` ties it to is_witness, of which `called` speaks, and `answers` computes it.
-- Assumes nothing.
use Prim.Native.Nat.{ℕ}
use native.Mathlib.Nat.{suc-ne-zero}
use mathlib.Core.Path.{◌≡◌, refl, ap}
use mathlib.Core.Bool.{Bool, true, not, ◌&&◌}
use mathlib.Core.List.{List, [], ◌∷◌, ◌++◌}
use lib.Dec.{T, eqb}
use lib.ListN.{length, take}
use Rattle.std.specs.Prelude.{Option, None, Some}
use Rattle.std.proofs.lemmas.Bool.{false≢true}
use Rattle.records.specs.declared.Rec.{Rec}
use Rattle.records.specs.Records.{rec_of, decode, encode_rec, encode, recs, records_of}
use Rattle.indexing_iter.specs.Classes.{class_of, arg_of_class}
use Rattle.indexing_iter.specs.Keys.{key_in}
use Rattle.indexing_iter.specs.Clauses.{clauses_of, clause_at, key_of, known}
use Rattle.indexing_iter.specs.Refusals.{passed, number_of}
use Rattle.indexing_iter.specs.Checks.{rising_below, has_body, record_bad, check_records, check_clause, check_clauses, check_clauses_of, check_code}
use Rattle.indexing.proofs.Sample.{line, switch, demand, entry, inner, offset, constant, body, plain, alike, all}
use Rattle.indexing.specs.Expand.{expand_at}
use Rattle.indexing.specs.Builder.{stored}
use Rattle.indexing_scan.specs.Walk.{walk_on}
use Rattle.indexing_scan.specs.Calls.{argument_ok, Walked, call_of, result_of, walk_call, witness_checks, agreeing, is_witness}
use Rattle.indexing_scan.specs.Witness.{Witnessed, number_in, found_in, offset_in, IsWitness, Witnesses}

-- ---- arguments of a call

abbrev unbound : Rec
unbound = rec_of 0 0 0 0 0

abbrev atom : ℕ → Rec
atom bits = rec_of 0 1 0 0 bits

abbrev list : Rec
list = rec_of 0 5 0 0 0

abbrev good : List Rec
good = unbound ∷ atom 7 ∷ rec_of 0 2 0 0 7 ∷ rec_of 0 3 0 0 7 ∷ rec_of 0 4 1 0 7 ∷ rec_of 0 4 255 0 0 ∷ list ∷ []

-- kind, word; half and long of unbound; half of literals; structure arity; half and long of a list; sort
abbrev bad : List Rec
bad =
    rec_of 1 0 0 0 0 ∷ rec_of 0 1 0 1 7 ∷ rec_of 0 0 1 0 0 ∷ rec_of 0 0 0 0 1 ∷ rec_of 0 1 1 0 7 ∷ rec_of 0 3 1 0 7 ∷ rec_of 0 4 0 0 7 ∷ rec_of 0 4 256 0 7
    ∷ rec_of 0 5 1 0 0 ∷ rec_of 0 5 0 0 1 ∷ rec_of 0 6 0 0 0 ∷ []

-- ---- a call on one clause with atom 7 at argument 1: number, case, line, count, tables, mark and records; out and index at the end

record Call : Type 0 where
  arity : ℕ
  call : List ℕ
  out : List ℕ
  index : List Rec
  count : ℕ
  answer : List ℕ
  last : List ℕ
  left : List Rec

-- an index buffer; three odd bytes follow the records
abbrev buffer : List Rec → List ℕ
buffer rs = encode rs ++ (9 ∷ 9 ∷ 9 ∷ [])

abbrev told : Call → Walked → Bool
told c w =
    alike (w.number ∷ w.case ∷ w.line ∷ w.count ∷ w.tables ∷ w.mark ∷ w.records ∷ []) c.answer
    && (alike w.out c.last && alike w.index (buffer c.left))

abbrev tells : Call → Bool
tells c =
    told c
    (walk_call class_of (encode (constant 1 7 ∷ body ∷ [])) (0 ∷ []) (plain c.arity) c.call (buffer c.index) c.count c.out)

-- two records, of which the second is unbound, and out with two places; the index stays as it is
abbrev stays : List Rec → Rec → List ℕ → List ℕ → Call
stays index q answer last =
    record {
      arity = 2;
      call = encode (q ∷ unbound ∷ []);
      out = 99 ∷ 99 ∷ [];
      index = index;
      count = length index;
      answer = answer;
      last = last;
      left = index;
    }

-- refused: zero in every other field, out and index as they were
abbrev refuses : ℕ → ℕ → List ℕ → List ℕ → List Rec → ℕ → Call
refuses n arity call out index count =
    record { arity = arity; call = call; out = out; index = index; count = count; answer = n ∷ 0 ∷ 0 ∷ 0 ∷ 0 ∷ 0 ∷ 0 ∷ []; last = out; left = index }

abbrev ready : List Rec
ready = line 0 0 ∷ demand 1 ∷ offset 1 1 ∷ []

abbrev fine : List ℕ
fine = encode (atom 7 ∷ unbound ∷ [])

-- cases: 1 Fail, 2 External, 3 Sequence, 4 Variadic
abbrev calls : List Call
calls =
    -- the expansion fills the record beyond the count; out's rest is untouched
    record {
      arity = 2;
      call = fine;
      out = 99 ∷ 99 ∷ [];
      index = ready ++ (rec_of 9 9 9 9 9 ∷ rec_of 9 9 9 9 9 ∷ []);
      count = 3;
      answer = 0 ∷ 2 ∷ 0 ∷ 1 ∷ 1 ∷ 0 ∷ 4 ∷ [];
      last = 1 ∷ 99 ∷ [];
      left = line 0 0 ∷ switch 1 ∷ entry 1 0 7 1 ∷ offset 1 1 ∷ rec_of 9 9 9 9 9 ∷ [];
    }
    -- it does not fit
    ∷ stays ready (atom 7) (0 ∷ 2 ∷ 0 ∷ 1 ∷ 1 ∷ 1 ∷ 3 ∷ []) (1 ∷ 99 ∷ [])
    ∷ stays ready unbound (0 ∷ 4 ∷ 0 ∷ 1 ∷ 1 ∷ 0 ∷ 3 ∷ []) (1 ∷ 99 ∷ [])
    ∷ stays (line 0 0 ∷ switch 1 ∷ offset 1 1 ∷ []) (atom 7) (0 ∷ 1 ∷ 0 ∷ 0 ∷ 1 ∷ 0 ∷ 3 ∷ []) (99 ∷ 99 ∷ [])
    ∷ stays (line 0 0 ∷ switch 1 ∷ entry 1 0 7 (inner 1) ∷ offset 1 1 ∷ line 0 1 ∷ offset 1 1 ∷ []) (atom 8) (0 ∷ 3 ∷ 1 ∷ 1 ∷ 1 ∷ 0 ∷ 6 ∷ []) (1 ∷ 99 ∷ [])
    -- the first number that applies: 1, 10, 11, 12
    ∷ refuses 1 33 [] [] [] 0 ∷ refuses 1 0 [] [] [] 0
    ∷ refuses 10 2 (take 31 fine) [] [] 0 ∷ refuses 10 2 (fine ++ fine) [] [] 0 ∷ refuses 10 2 (encode (atom 7 ∷ rec_of 0 6 0 0 0 ∷ [])) [] [] 0
    ∷ refuses 11 2 fine [] [] 0
    ∷ refuses 12 2 fine (99 ∷ []) ready 0 ∷ refuses 12 2 fine (99 ∷ []) ready 4 ∷ refuses 12 2 fine (99 ∷ []) (demand 1 ∷ ready) 4 ∷ []

-- ---- the witness

-- two clauses, at the offsets 1 and 3: atom 7 at argument 1; atom 8 at argument 1, atom 5 at argument 2
abbrev agrees : Rec → Rec → List ℕ → Bool
agrees p q os =
    alike (agreeing class_of (encode (constant 1 7 ∷ body ∷ constant 1 8 ∷ constant 2 5 ∷ body ∷ [])) (0 ∷ 2 ∷ []) (plain 2) (encode (p ∷ q ∷ []))) os

-- the last argument counts as the first does; a clause without a key agrees, and so does a call without one
abbrev agreements : Bool
agreements =
    agrees unbound unbound (1 ∷ 3 ∷ []) && (agrees unbound (atom 6) (1 ∷ []) && (agrees (atom 8) (atom 5) (3 ∷ [])
    && (agrees (atom 8) (atom 6) [] && (agrees (atom 9) unbound [] && agrees unbound (rec_of 0 2 0 0 5) (1 ∷ [])))))

-- some agreeing clause's offset, 0 only if there is none
abbrev chosen : Bool
chosen =
    all (is_witness (1 ∷ 3 ∷ [])) (1 ∷ 3 ∷ [])
    && (not (is_witness (1 ∷ 3 ∷ []) 2) && (not (is_witness (1 ∷ 3 ∷ []) 0) && (is_witness [] 0 && not (is_witness [] 1))))

-- the number of its refusal: 1, 7, 10
abbrev checked : ℕ → List ℕ → ℕ → Bool
checked arity call n = eqb (number_of (witness_checks class_of (encode (constant 2 7 ∷ body ∷ [])) (0 ∷ []) (plain arity) call)) n

abbrev checks : Bool
checks = checked 2 fine 0 && (checked 33 [] 1 && (checked 1 [] 7 && checked 2 (take 31 fine) 10))

pub called : T (all argument_ok good && all (λ r. not (argument_ok r)) bad) × (T (all tells calls) × T (agreements && (chosen && checks)))
unfolding decode encode_rec encode recs records_of class_of arg_of_class key_in clauses_of clause_at key_of known rising_below has_body record_bad check_records check_clause check_clauses check_clauses_of check_code expand_at stored walk_on argument_ok call_of result_of walk_call witness_checks agreeing
called = (tt, (tt, tt))

-- ---- the witness's answer

-- an answer that is promised, with 0 for none, is a witness as `called` has it
pub promised : (os : List ℕ) (o : Option ℕ) → IsWitness os o → is_witness os (found_in o) ≡ true
promised [] None h = refl
promised (x ∷ os) None h = absurd (suc-ne-zero (length os) (ap length h))
promised [] (Some o) h = absurd (false≢true h)
promised (x ∷ os) (Some o) h = h

-- the same of the witness's whole answer, if it is accepted
pub witnessed : (os : List ℕ) (w : Witnessed) → Witnesses passed os w → (number_in w ≡ 0) × (is_witness os (offset_in w) ≡ true)
witnessed os w h = rw h.1 (refl, promised os h.0 h.2)

-- none of no clauses alone; else the offset of one of them, and no other number
pub answers : (IsWitness [] None × IsWitness (1 ∷ 3 ∷ []) (Some 1) × IsWitness (1 ∷ 3 ∷ []) (Some 3))
    × ((IsWitness (1 ∷ 3 ∷ []) None → ⊥) × (IsWitness (1 ∷ 3 ∷ []) (Some 2) → ⊥) × (IsWitness (1 ∷ 3 ∷ []) (Some 0) → ⊥))
    × ((IsWitness [] (Some 0) → ⊥) × (IsWitness [] (Some 1) → ⊥))
answers =
    ((refl, refl, refl), (λ h. suc-ne-zero 1 (ap length h), false≢true, false≢true), (false≢true, false≢true))
