-- The place where a check fails, step by step: the first record and the first clause at fault. Every law holds for any class function. Assumes nothing.
use Prim.Native.Nat.{ℕ, zero, suc, ◌+◌, ◌-◌, ◌≤◌, ◌<◌}
use mathlib.Core.Path.{◌≡◌, refl, sym, ap, ◌∙◌}
use mathlib.Core.Bool.{Bool, true, false, cond, ◌||◌, false≢true}
use mathlib.Core.List.{List, [], ◌∷◌, map}
use native.Mathlib.Nat.{add-zero, le_of_suc-le-suc, not-suc-le-zero}
use native.Mathlib.Numerals.{add-one}
use native.Mathlib.Omega.{arith}
use borrow.Author.Tests.{ne_eqb}
use lib.Dec.{eqb}
use lib.ListN.{length, get_or, take, drop, length-map, drop_of_length-le}
use lib.Seq.{slice, drop-cons}
use Rattle.std.specs.Prelude.{Option, Some, None, is_some, unwrap_or, Result, Ok, Err}
use Rattle.std.specs.List.{find, range_with_len}
use Rattle.std.proofs.lemmas.Option.{some_pair_parts, cond_some}
use Rattle.records.specs.declared.Rec.{Rec}
use Rattle.records.specs.Records.{zero_rec}
use Rattle.indexing_iter.specs.declared.InstructionArg.{InstructionArg}
use Rattle.indexing_iter.specs.declared.InstructionArg.TheVariants.{ArgedHead, ArglessHead, NonHead, Prologue}
use Rattle.indexing_iter.specs.declared.Fault.{Fault}
use Rattle.indexing_iter.specs.declared.refusal.Refusal.{Refusal}
use Rattle.indexing_iter.specs.declared.refusal.Refusal.TheVariants.{NoBody, KeyRecord, Register}
use Rattle.indexing_iter.specs.Refusals.{Checked, passed, refusal_number}
use Rattle.indexing_iter.specs.Classes.{arg_of_class, instruction_arg}
use Rattle.indexing_iter.specs.Keys.{key_in, is_open}
use Rattle.indexing_iter.specs.Clauses.{end_of, clauses_of}
use Rattle.indexing_iter.specs.Checks.{otherwise, is_body, has_body, record_bad, register_bad, register_step, check_records, check_clause, check_clauses, open_somewhere}
use Rattle.indexing_iter.specs.Faults.{first_at, fronts, is_refused, refused_at, open_at, bad_at, body_at, record_for, place_in, fault_at}
use Rattle.indexing_iter.specs.Places.{body_found, ended_by, passed_through, at_record, open_found, at_clause}
use Rattle.indexing_iter.proofs.Numbers.{Within, records-number}

-- ---- the first item that passes a test

pub some_of : {A : Type 0} → (A → Bool) → List A → Bool
some_of t [] = false
some_of t (x ∷ xs) = t x || some_of t xs

-- none before it does
pub first_some : {A : Type 0} (t : A → Bool) (xs : List A) (d : A) → some_of t xs ≡ true
    → (first_at t xs < length xs) × (some_of t (take (first_at t xs) xs) ≡ false) × (t (get_or xs (first_at t xs) d) ≡ true)
unfolding first_at some_of
first_some t [] d e = absurd (false≢true e)
first_some {A} t (x ∷ xs) d e = go (t x) refl e (first_some t xs d)
  where
    go : (b : Bool) → t x ≡ b → (b || some_of t xs) ≡ true
        → (some_of t xs ≡ true → (first_at t xs < length xs) × (some_of t (take (first_at t xs) xs) ≡ false) × (t (get_or xs (first_at t xs) d) ≡ true))
        → (cond b 0 (suc (first_at t xs)) < suc (length xs)) × (some_of t (take (cond b 0 (suc (first_at t xs))) (x ∷ xs)) ≡ false)
        × (t (get_or (x ∷ xs) (cond b 0 (suc (first_at t xs))) d) ≡ true)
    go true q h f = (omega arith, refl, q)
    go false q h f = let later = f h in (omega (arith, later.0), rw q later.1, later.2)

-- its place, where the first item of the list has place i
pub first_from : {A : Type 0} → (A → Bool) → List A → ℕ → Option ℕ
first_from t [] i = None
first_from t (x ∷ xs) i = cond (t x) (Some i) (first_from t xs (suc i))

first-from : {A : Type 0} (t : A → Bool) (xs : List A) (i : ℕ) → first_from t xs i ≡ cond (some_of t xs) (Some (i + first_at t xs)) None
unfolding first_from some_of first_at
first-from t [] i = refl
first-from {A} t (x ∷ xs) i = go (t x) (some_of t xs) (first-from t xs (suc i))
  where
    go : (b s : Bool) → first_from t xs (suc i) ≡ cond s (Some (suc i + first_at t xs)) None
        → cond b (Some i) (first_from t xs (suc i)) ≡ cond (b || s) (Some (i + cond b 0 (suc (first_at t xs)))) None
    go true s e = rw (add-zero i) refl
    go false true e = let n : suc i + first_at t xs ≡ i + suc (first_at t xs) = omega arith in rw (← n) e
    go false false e = e

pub from-start : {A : Type 0} (t : A → Bool) (xs : List A) → first_from t xs 0 ≡ cond (some_of t xs) (Some (first_at t xs)) None
from-start t xs = let n : 0 + first_at t xs ≡ first_at t xs = omega arith in rw n at (first-from t xs 0)

pub from-step : {A : Type 0} (t : A → Bool) (xs : List A) (i : ℕ) (d : A) → i < length xs
    → first_from t (drop i xs) i ≡ cond (t (get_or xs i d)) (Some i) (first_from t (drop (i + 1) xs) (i + 1))
unfolding first_from
from-step t xs i d h = rw (drop-cons xs i d h, add-one i) refl

pub from-end : {A : Type 0} (t : A → Bool) (xs : List A) (i : ℕ) → length xs ≤ i → first_from t (drop i xs) i ≡ None
unfolding first_from
from-end t xs i h = rw (drop_of_length-le xs h) refl

-- by the numbers of the items
find-from : {A : Type 0} (t : A → Bool) (xs : List A) (d : A) (k n : ℕ) → k + n ≡ length xs
    → find (λ i. t (get_or xs i d)) (range_with_len k n) ≡ first_from t (drop k xs) k
find-from t xs d k zero e = sym (from-end t xs k (omega (arith, e)))
find-from t xs d k (suc n) e =
    rw (from-step t xs k d (omega (arith, e)))
    (ap (λ (o : Option ℕ). cond (t (get_or xs k d)) (Some k) o) (find-from t xs d (k + 1) n (omega (arith, e))))

pub find-places : {A : Type 0} (t : A → Bool) (xs : List A) (d : A) → find (λ i. t (get_or xs i d)) (range_with_len 0 (length xs)) ≡ first_from t xs 0
find-places t xs d = find-from t xs d 0 (length xs) (omega arith)

first-map : {A B : Type 0} (t : B → Bool) (f : A → B) (l : List A) → first_at t (map f l) ≡ first_at (λ x. t (f x)) l
unfolding first_at
first-map t f [] = refl
first-map t f (x ∷ xs) = ap (λ (n : ℕ). cond (t (f x)) 0 (suc n)) (first-map t f xs)

first-none : {A : Type 0} (l : List A) → first_at (λ x. false) l ≡ length l
unfolding first_at
first-none [] = refl
first-none (x ∷ xs) = ap suc (first-none xs)

-- ---- 6 and 7 of a clause, record by record

length-fronts : (rs : List Rec) → length (fronts rs) ≡ length rs
unfolding fronts
length-fronts [] = refl
length-fronts (r ∷ rs) = ap suc (length-map (fronts rs) (λ front. r ∷ front) ∙ length-fronts rs)

-- the first record at fault of the records left of a clause, last the register of its key before them
unfoldable pub bad_from : (ℕ → ℕ) → ℕ → List Rec → ℕ → ℕ
bad_from cls arity rs last = first_at (λ front. is_refused (check_records cls arity front last)) (fronts rs)

-- one record, whether its 6 applies, what it says, how many records there are after it, and where the first of these is at fault
abbrev pub bad_step : Bool → InstructionArg → ℕ → ℕ → ℕ → (ℕ → ℕ) → ℕ
bad_step true a arity last left rest = 0
bad_step false NonHead arity last left rest = suc left
bad_step false Prologue arity last left rest = suc (rest last)
bad_step false ArglessHead arity last left rest = suc (rest last)
bad_step false (ArgedHead reg key) arity last left rest = cond (register_bad arity last reg) 0 (suc (rest reg))

seven : (t : Bool) (x : Checked) (g : List Rec → Checked) (fs : List (List Rec)) → x ≡ passed
    → cond (is_refused (cond t (Err Register) x)) 0 (suc (first_at (λ f. is_refused (cond t (Err Register) (g f))) fs)) ≡ cond t 0 (suc (first_at (λ f. is_refused (g f)) fs))
seven true x g fs e = refl
seven false x g fs e = rw e refl

bad-cases : (bad : Bool) (a : InstructionArg) (arity last : ℕ) (g : List Rec → ℕ → Checked) (fs : List (List Rec)) → ((l : ℕ) → g [] l ≡ passed)
    → cond (is_refused (cond bad (Err KeyRecord) (register_step a arity last (g [])))) 0
    (suc (first_at (λ f. is_refused (cond bad (Err KeyRecord) (register_step a arity last (g f)))) fs))
    ≡ bad_step bad a arity last (length fs) (λ l. first_at (λ f. is_refused (g f l)) fs)
bad-cases true a arity last g fs e = refl
bad-cases false NonHead arity last g fs e = ap suc (first-none fs)
bad-cases false Prologue arity last g fs e = rw (e last) refl
bad-cases false ArglessHead arity last g fs e = rw (e last) refl
bad-cases false (ArgedHead reg key) arity last g fs e = seven (register_bad arity last reg) (g [] reg) (λ f. g f reg) fs (e reg)

pub bad-cons : (cls : ℕ → ℕ) (arity : ℕ) (r : Rec) (rs : List Rec) (last : ℕ)
    → bad_from cls arity (r ∷ rs) last ≡ bad_step (record_bad (cls r.kind) r) (instruction_arg cls r) arity last (length rs) (bad_from cls arity rs)
unfolding bad_from fronts first_at check_records
bad-cons cls arity r rs last =
    ap (λ (n : ℕ). cond (is_refused (check_records cls arity (r ∷ []) last)) 0 (suc n)) (first-map (λ f. is_refused (check_records cls arity f last)) (λ f. r ∷ f) (fronts rs))
    ∙ bad-cases (record_bad (cls r.kind) r) (instruction_arg cls r) arity last (check_records cls arity) (fronts rs) (λ l. refl)
    ∙ ap (λ (n : ℕ). bad_step (record_bad (cls r.kind) r) (instruction_arg cls r) arity last n (bad_from cls arity rs)) (length-fronts rs)

pub bad-whole : (cls : ℕ → ℕ) (arity : ℕ) (rs : List Rec) → bad_from cls arity rs 0 ≡ bad_at cls arity rs
unfolding bad_from
bad-whole cls arity rs = refl

-- ---- the clauses by number

pub length-clauses : (rs : List Rec) (s : List ℕ) → length (clauses_of rs s) ≡ length s
unfolding clauses_of
length-clauses rs [] = refl
length-clauses rs (x ∷ s) = ap suc (length-clauses rs s)

pub nth-clause : (rs : List Rec) (s : List ℕ) (k : ℕ) → k < length s → get_or (clauses_of rs s) k [] ≡ slice (get_or s k 0) (end_of (length rs) (drop (suc k) s)) rs
unfolding clauses_of
nth-clause rs [] k h = absurd (not-suc-le-zero h)
nth-clause rs (x ∷ s) zero h = refl
nth-clause rs (x ∷ s) (suc k) h = nth-clause rs s k (le_of_suc-le-suc h)

pub clause-is : (rs : List Rec) (s : List ℕ) (n k end : ℕ) → k < length s → n ≡ length rs → end ≡ end_of n (drop (k + 1) s)
    → get_or (clauses_of rs s) k [] ≡ slice (get_or s k 0) end rs
clause-is rs s n k end h e q =
    rw (q, e, add-one k) (nth-clause rs s k h)

-- ---- the first body record, and the first clause with no key at c

abbrev pub says_body : (ℕ → ℕ) → Rec → Bool
says_body cls r = is_body (instruction_arg cls r)

abbrev pub is_open_at : (ℕ → ℕ) → ℕ → List Rec → Bool
is_open_at cls c rs = is_open (key_in cls rs c)

pub body-some : (cls : ℕ → ℕ) (rs : List Rec) → some_of (says_body cls) rs ≡ has_body cls rs
unfolding some_of has_body
body-some cls [] = refl
body-some cls (r ∷ rs) = ap (λ (b : Bool). is_body (instruction_arg cls r) || b) (body-some cls rs)

pub open-some : (cls : ℕ → ℕ) (c : ℕ) (cs : List (List Rec)) → some_of (is_open_at cls c) cs ≡ open_somewhere cls c cs
unfolding some_of open_somewhere
open-some cls c [] = refl
open-some cls c (rs ∷ cs) = ap (λ (b : Bool). is_open (key_in cls rs c) || b) (open-some cls c cs)

pub body-found : (cls : ℕ → ℕ) (rs : List Rec) → first_from (says_body cls) rs 0 ≡ body_found cls rs
body-found cls rs = rw (body-some cls rs) at (from-start (says_body cls) rs)

pub open-found : (cls : ℕ → ℕ) (c : ℕ) (cs : List (List Rec)) → first_from (is_open_at cls c) cs 0 ≡ open_found cls c cs
open-found cls c cs = rw (open-some cls c cs) at (from-start (is_open_at cls c) cs)

pub some-found : (t : Bool) (i : ℕ) → is_some (cond t (Some i) None) ≡ t
some-found true i = refl
some-found false i = refl

-- ---- 6 and 7 in one pass

abbrev pub Passage : Type 0
Passage = Result (Option ℕ) (Refusal × ℕ)

-- record i, whether its 6 applies and what it says; rest is the answer of the records after it at the last register
abbrev pub through_step : Bool → InstructionArg → ℕ → ℕ → ℕ → (ℕ → Passage) → Passage
through_step true a arity last i rest = Err (KeyRecord, i)
through_step false NonHead arity last i rest = Ok (Some i)
through_step false Prologue arity last i rest = rest last
through_step false ArglessHead arity last i rest = rest last
through_step false (ArgedHead reg key) arity last i rest = cond (register_bad arity last reg) (Err (Register, i)) (rest reg)

-- the records left of a clause, the first of them record i, last the register of the key before them
pub through_from : (ℕ → ℕ) → ℕ → List Rec → ℕ → ℕ → Passage
through_from cls arity [] last i = Ok None
through_from cls arity (r ∷ rs) last i = through_step (record_bad (cls r.kind) r) (instruction_arg cls r) arity last i (λ l. through_from cls arity rs l (suc i))

through-cases : (bad : Bool) (a : InstructionArg) (arity last i left : ℕ) (rest : ℕ → Passage) (later : ℕ → Checked) (body : Option ℕ) (at : ℕ → ℕ)
    → ((l : ℕ) → rest l ≡ ended_by (later l) body (suc i + at l))
    → through_step bad a arity last i rest
    ≡ ended_by (cond bad (Err KeyRecord) (register_step a arity last later)) (cond (is_body a) (Some i) body) (i + bad_step bad a arity last left at)
through-cases true a arity last i left rest later body at f = rw (add-zero i) refl
through-cases false NonHead arity last i left rest later body at f = refl
through-cases false Prologue arity last i left rest later body at f = let n : suc i + at last ≡ i + suc (at last) = omega arith in rw (← n) (f last)
through-cases false ArglessHead arity last i left rest later body at f = let n : suc i + at last ≡ i + suc (at last) = omega arith in rw (← n) (f last)
through-cases false (ArgedHead reg key) arity last i left rest later body at f = go (register_bad arity last reg)
  where
    go : (t : Bool) → cond t (Err (Register, i)) (rest reg) ≡ ended_by (cond t (Err Register) (later reg)) body (i + cond t 0 (suc (at reg)))
    go true = rw (add-zero i) refl
    go false = let n : suc i + at reg ≡ i + suc (at reg) = omega arith in rw (← n) (f reg)

through-from : (cls : ℕ → ℕ) (arity : ℕ) (rs : List Rec) (last i : ℕ)
    → through_from cls arity rs last i ≡ ended_by (check_records cls arity rs last) (first_from (says_body cls) rs i) (i + bad_from cls arity rs last)
unfolding through_from check_records first_from
through-from cls arity [] last i = refl
through-from cls arity (r ∷ rs) last i =
    through-cases (record_bad (cls r.kind) r) (instruction_arg cls r) arity last i (length rs) (λ l. through_from cls arity rs l (suc i)) (check_records cls arity rs)
    (first_from (says_body cls) rs (suc i)) (bad_from cls arity rs) (λ l. through-from cls arity rs l (suc i))
    ∙ ap (λ (n : ℕ). ended_by (check_records cls arity (r ∷ rs) last) (first_from (says_body cls) (r ∷ rs) i) (i + n)) (sym (bad-cons cls arity r rs last))

pub through-whole : (cls : ℕ → ℕ) (arity : ℕ) (rs : List Rec) → through_from cls arity rs 0 0 ≡ passed_through cls arity rs
through-whole cls arity rs =
    let n : 0 + bad_from cls arity rs 0 ≡ bad_at cls arity rs = omega (arith, bad-whole cls arity rs) in
    rw (n, body-found cls rs) at (through-from cls arity rs 0 0)

pub through-step : (cls : ℕ → ℕ) (arity : ℕ) (rs : List Rec) (i last : ℕ) (r : Rec) (class : ℕ) → i < length rs → r ≡ get_or rs i zero_rec → class ≡ cls r.kind
    → through_from cls arity (drop i rs) last i
    ≡ through_step (record_bad class r) (arg_of_class class r) arity last i (λ l. through_from cls arity (drop (i + 1) rs) l (i + 1))
unfolding through_from
through-step cls arity rs i last r class h e q = rw (drop-cons rs i zero_rec h, q, e, add-one i) refl

pub through-end : (cls : ℕ → ℕ) (arity : ℕ) (rs : List Rec) (last i : ℕ) → length rs ≤ i → through_from cls arity (drop i rs) last i ≡ Ok None
unfolding through_from
through-end cls arity rs last i h = rw (drop_of_length-le rs h) refl

-- ---- 5 to 7 of a clause

-- 6 and 7 with 5 before them
unfoldable pub with_body : (ℕ → ℕ) → List Rec → Passage → Option (Refusal × ℕ)
with_body cls rs (Ok (Some i)) = None
with_body cls rs (Ok None) = Some (NoBody, length rs - 1)
with_body cls rs (Err refused) = cond (has_body cls rs) (Some refused) (Some (NoBody, length rs - 1))

pub refused-whole : (cls : ℕ → ℕ) (arity : ℕ) (rs : List Rec) → with_body cls rs (passed_through cls arity rs) ≡ at_record cls arity rs (check_clause cls arity rs)
unfolding with_body check_clause
refused-whole cls arity rs = go (check_records cls arity rs 0) (has_body cls rs) refl (records-number cls arity rs 0)
  where
    go : (k : Checked) (t : Bool) → has_body cls rs ≡ t → Within 6 7 k
        → with_body cls rs (ended_by k (cond t (Some (body_at cls rs)) None) (bad_at cls arity rs)) ≡ at_record cls arity rs (cond t k (Err NoBody))
    go (Ok u) true q w = refl
    go (Ok u) false q w = refl
    go (Err e) true q w =
        let five : refusal_number e ≡ 5 → ⊥ = λ z. omega (arith, w) in
        let eight : refusal_number e ≡ 8 → ⊥ = λ z. omega (arith, w) in
        rw (q, ne_eqb (refusal_number e) 5 five, ne_eqb (refusal_number e) 8 eight) refl
    go (Err e) false q w = rw q refl

abbrev pub told_of : (ℕ → ℕ) → ℕ → List Rec → Option (Refusal × ℕ)
told_of cls arity rs = at_record cls arity rs (check_clause cls arity rs)

-- ---- 5 to 7, clause by clause

abbrev pub refused_step : (ℕ → ℕ) → ℕ → List Rec → List ℕ → Checked → ℕ → Option Fault → Option Fault
refused_step cls arity rs starts (Ok u) k rest = rest
refused_step cls arity rs starts (Err e) k rest = Some (fault_at cls arity rs starts e k)

-- the same by a clause's answer with its record
abbrev pub told_step : List ℕ → Option (Refusal × ℕ) → ℕ → Option Fault → Option Fault
told_step starts None k rest = rest
told_step starts (Some (e, i)) k rest = Some (record { refusal = e; place = Some (place_in starts k i) })

-- the clauses left of the code rs, the first of them clause k
pub refused_from : (ℕ → ℕ) → ℕ → List Rec → List ℕ → List (List Rec) → ℕ → Option Fault
refused_from cls arity rs starts [] k = None
refused_from cls arity rs starts (c ∷ cs) k = refused_step cls arity rs starts (check_clause cls arity c) k (refused_from cls arity rs starts cs (suc k))

module _ (cls : ℕ → ℕ) (arity : ℕ) (rs : List Rec) (starts : List ℕ) where
  refused-from : (cs : List (List Rec)) (k : ℕ)
      → refused_from cls arity rs starts cs k ≡ at_clause cls arity rs starts (k + refused_at cls arity cs) (check_clauses cls arity cs)
  unfolding refused_from first_at check_clauses
  refused-from [] k = refl
  refused-from (c ∷ cs) k = go (check_clause cls arity c) (refused-from cs (suc k))
    where
      go : (x : Checked) → refused_from cls arity rs starts cs (suc k) ≡ at_clause cls arity rs starts (suc k + refused_at cls arity cs) (check_clauses cls arity cs)
          → refused_step cls arity rs starts x k (refused_from cls arity rs starts cs (suc k))
          ≡ at_clause cls arity rs starts (k + cond (is_refused x) 0 (suc (refused_at cls arity cs))) (otherwise x (check_clauses cls arity cs))
      go (Err e) f = rw (add-zero k) refl
      go (Ok u) f = let n : suc k + refused_at cls arity cs ≡ k + suc (refused_at cls arity cs) = omega arith in rw (← n) f

  pub refused-first : (cs : List (List Rec)) → refused_from cls arity rs starts cs 0 ≡ at_clause cls arity rs starts (refused_at cls arity cs) (check_clauses cls arity cs)
  refused-first cs = let n : 0 + refused_at cls arity cs ≡ refused_at cls arity cs = omega arith in rw n at (refused-from cs 0)

  told-step : (k : ℕ) (x : Checked) (rest : Option Fault)
      → refused_step cls arity rs starts x k rest ≡ told_step starts (at_record cls arity (get_or (clauses_of rs starts) k []) x) k rest
  told-step k (Ok u) rest = refl
  told-step k (Err e) rest = refl

  pub refused-step : (k : ℕ) → k < length (clauses_of rs starts)
      → refused_from cls arity rs starts (drop k (clauses_of rs starts)) k
      ≡ told_step starts (at_record cls arity (get_or (clauses_of rs starts) k []) (check_clause cls arity (get_or (clauses_of rs starts) k []))) k
      (refused_from cls arity rs starts (drop (k + 1) (clauses_of rs starts)) (k + 1))
  unfolding refused_from
  refused-step k h =
      let cs : List (List Rec) = clauses_of rs starts in
      rw (drop-cons cs k [] h, add-one k) (told-step k (check_clause cls arity (get_or cs k [])) (refused_from cls arity rs starts (drop (suc k) cs) (suc k)))

  pub refused-end : (cs : List (List Rec)) (k : ℕ) → length cs ≤ k → refused_from cls arity rs starts (drop k cs) k ≡ None
  unfolding refused_from
  refused-end cs k h = rw (drop_of_length-le cs h) refl

-- ---- the record told of a clause lies within it, or behind it

first-within : {A : Type 0} (t : A → Bool) (xs : List A) → first_at t xs ≤ length xs
unfolding first_at
first-within t [] = omega arith
first-within {A} t (x ∷ xs) = go (t x) (first-within t xs)
  where
    go : (b : Bool) → first_at t xs ≤ length xs → cond b 0 (suc (first_at t xs)) ≤ suc (length xs)
    go true h = omega arith
    go false h = omega (arith, h)

pub open-known : (cls : ℕ → ℕ) (c : ℕ) (cs : List (List Rec)) (k : ℕ) → Some k ≡ open_found cls c cs
    → (open_somewhere cls c cs ≡ true) × (open_at cls c cs ≡ k) × (k < length cs)
open-known cls c cs k e =
    let p = cond_some (open_somewhere cls c cs) (open_at cls c cs) k (sym e) in
    let f = first_some (is_open_at cls c) cs [] (open-some cls c cs ∙ p.0) in
    (p.0, p.1, omega (arith, f.0, p.1))

behind : {A : Type 0} (t : A → Bool) (xs : List A) → some_of t xs ≡ false → first_at t xs ≡ length xs
unfolding first_at some_of
behind t [] e = refl
behind {A} t (x ∷ xs) e = go (t x) e (behind t xs)
  where
    go : (b : Bool) → (b || some_of t xs) ≡ false → (some_of t xs ≡ false → first_at t xs ≡ length xs) → cond b 0 (suc (first_at t xs)) ≡ suc (length xs)
    go true h f = absurd (false≢true (sym h))
    go false h f = ap suc (f h)

-- the first body record, or the place behind the clause where it has none
pub body-or-end : (cls : ℕ → ℕ) (rs : List Rec) → unwrap_or (body_found cls rs) (length rs) ≡ body_at cls rs
body-or-end cls rs = go (has_body cls rs) refl
  where
    go : (t : Bool) → has_body cls rs ≡ t → unwrap_or (cond t (Some (body_at cls rs)) None) (length rs) ≡ body_at cls rs
    go true q = refl
    go false q = sym (behind (says_body cls) rs (body-some cls rs ∙ q))

pub body-within : (cls : ℕ → ℕ) (rs : List Rec) → body_at cls rs ≤ length rs
body-within cls rs = first-within (says_body cls) rs

bad-within : (cls : ℕ → ℕ) (arity : ℕ) (rs : List Rec) → bad_at cls arity rs ≤ length rs
bad-within cls arity rs = omega (arith, first-within (λ front. is_refused (check_records cls arity front 0)) (fronts rs), length-fronts rs)

pub record-within : (cls : ℕ → ℕ) (arity : ℕ) (e : Refusal) (rs : List Rec) → record_for cls arity e rs ≤ length rs
record-within cls arity e rs = go (eqb (refusal_number e) 5) (eqb (refusal_number e) 8)
  where
    go : (five eight : Bool) → cond five (length rs - 1) (cond eight (body_at cls rs) (bad_at cls arity rs)) ≤ length rs
    go true eight = omega arith
    go false true = body-within cls rs
    go false false = bad-within cls arity rs

pub told-within : (cls : ℕ → ℕ) (arity : ℕ) (rs : List Rec) (k : Checked) (e : Refusal) (i : ℕ) → Some (e, i) ≡ at_record cls arity rs k → i ≤ length rs
told-within cls arity rs (Ok u) e i p = (cc)
told-within cls arity rs (Err d) e i p = omega (arith, (some_pair_parts e d i (record_for cls arity d rs) p).1, record-within cls arity d rs)

-- ---- no record before a 6 or 7 is a body record

-- record r and those after it, by what r says
behind-step : (cls : ℕ → ℕ) (arity : ℕ) (r : Rec) (rs : List Rec) (bad : Bool) (a : InstructionArg) (last left : ℕ) (later : ℕ → Checked) (at : ℕ → ℕ)
    → instruction_arg cls r ≡ a → ((l : ℕ) → is_refused (later l) ≡ true → has_body cls (drop (at l) rs) ≡ has_body cls rs)
    → is_refused (cond bad (Err KeyRecord) (register_step a arity last later)) ≡ true
    → has_body cls (drop (bad_step bad a arity last left at) (r ∷ rs)) ≡ (is_body a || has_body cls rs)
unfolding has_body
behind-step cls arity r rs true a last left later at q f e = rw q refl
behind-step cls arity r rs false NonHead last left later at q f e = absurd (false≢true e)
behind-step cls arity r rs false Prologue last left later at q f e = f last e
behind-step cls arity r rs false ArglessHead last left later at q f e = f last e
behind-step cls arity r rs false (ArgedHead reg key) last left later at q f e = go (register_bad arity last reg) e
  where
    go : (t : Bool) → is_refused (cond t (Err Register) (later reg)) ≡ true → has_body cls (drop (cond t 0 (suc (at reg))) (r ∷ rs)) ≡ has_body cls rs
    go true h = rw q refl
    go false h = f reg h

behind-from : (cls : ℕ → ℕ) (arity : ℕ) (rs : List Rec) (last : ℕ) → is_refused (check_records cls arity rs last) ≡ true
    → has_body cls (drop (bad_from cls arity rs last) rs) ≡ has_body cls rs
unfolding check_records has_body
behind-from cls arity [] last e = absurd (false≢true e)
behind-from cls arity (r ∷ rs) last e =
    rw (bad-cons cls arity r rs last)
    (behind-step cls arity r rs (record_bad (cls r.kind) r) (instruction_arg cls r) last (length rs) (check_records cls arity rs) (bad_from cls arity rs) refl (behind-from cls arity rs) e)

pub refused-behind : (cls : ℕ → ℕ) (arity : ℕ) (rs : List Rec) (e : Refusal) (i : ℕ) → Err (e, i) ≡ passed_through cls arity rs
    → (i ≤ length rs) × (has_body cls (drop i rs) ≡ has_body cls rs)
refused-behind cls arity rs e i p = go (check_records cls arity rs 0) refl p
  where
    go : (k : Checked) → check_records cls arity rs 0 ≡ k → Err (e, i) ≡ ended_by k (body_found cls rs) (bad_at cls arity rs)
        → (i ≤ length rs) × (has_body cls (drop i rs) ≡ has_body cls rs)
    go (Ok u) q h = (cc)
    go (Err d) q h =
        let pair : ◌≡◌ {A = Refusal × ℕ} (e, i) (d, bad_at cls arity rs) = cc in
        let here : i ≡ bad_at cls arity rs = ap (λ (w : Refusal × ℕ). w.1) pair in
        let b : is_refused (check_records cls arity rs 0) ≡ true = rw q refl in
        (omega (arith, here, bad-within cls arity rs), rw (here, ← bad-whole cls arity rs) (behind-from cls arity rs 0 b))
