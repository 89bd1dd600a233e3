-- The fault is the first: what `fault_of` gives says what specs/First tells of it. Holds for any class function. Assumes nothing.
use Prim.Native.Nat.{ℕ, zero, suc, ◌+◌, ◌≤◌, ◌<◌}
use mathlib.Core.Path.{◌≡◌, refl, sym, ap, ◌∙◌, subst}
use mathlib.Core.Bool.{Bool, true, false, cond}
use mathlib.Core.List.{List, [], ◌∷◌}
use mathlib.Core.Logic.{◌⊎◌, inl, inr}
use native.Mathlib.Nat.{le_of_suc-le-suc, not-suc-le-zero}
use native.Mathlib.Omega.{arith}
use borrow.Author.Tests.{ne_eqb, lt-ltb, le-ltb}
use lib.Dec.{eqb}
use lib.ListN.{length, get_or, take, drop}
use lib.Seq.{length-slice}
use Rattle.records.specs.declared.Rec.{Rec}
use Rattle.records.specs.Records.{records_of, zero_rec}
use Rattle.indexing_iter.specs.declared.InstructionArg.{InstructionArg}
use Rattle.indexing_iter.specs.declared.InstructionArg.TheVariants.{ArgedHead, ArglessHead, NonHead, Prologue}
use Rattle.indexing_iter.specs.declared.OptArgIndexKey.{OptArgIndexKey}
use Rattle.indexing_iter.specs.Refusals.{Checked, passed, refusal_number, number_of}
use Rattle.std.specs.Prelude.{Some, Ok, Err}
use Rattle.indexing_iter.specs.declared.refusal.Refusal.{Refusal}
use Rattle.indexing_iter.specs.declared.refusal.Refusal.TheVariants.{Arity, ChosenArgument, CodeSize, Starts, NoBody, KeyRecord, Register, OpenClause, NoRoom, Call, Out, Index}
use Rattle.indexing_iter.specs.declared.Fault.{Fault}
use Rattle.indexing_iter.specs.Classes.{instruction_arg}
use Rattle.indexing_iter.specs.Keys.{key_in, is_open}
use Rattle.indexing_iter.specs.Clauses.{end_of, clauses_of}
use Rattle.indexing_iter.specs.Checks.{otherwise, refuse, is_body, has_body, record_bad, register_bad, register_step, check_records, check_clause, check_clauses, open_somewhere}
use Rattle.indexing_iter.specs.Faults.{first_at, is_refused, refused_at, open_at, body_at, record_for, clause_for, bare, place_in, fault_at, fault_by, fault_in, check_with, fault_of}
use Rattle.indexing_iter.proofs.CheckLaws.{start_below, end_below, rising-drop}
use Rattle.indexing_iter.proofs.Numbers.{Within, records-number, clause-number}
use Rattle.locate.specs.Inner.{check_front}
use Rattle.locate.specs.First.{FirstRefused, FirstOpen, LastOf, FirstBad, FirstBody, FirstAtFault, NoneOrFirst}
use Rattle.indexing_iter.proofs.FaultLaws.{first_some, body-some, open-some, bad_from, bad_step, bad-cons, bad-whole, length-clauses, clause-is}
use Rattle.locate.proofs.LocateLaws.{front-number, front-passed, in_order}

-- ---- the first body record, and the first clause with no key

first_body : (cls : ℕ → ℕ) (rs : List Rec) → has_body cls rs ≡ true → FirstBody cls rs (body_at cls rs)
first_body cls rs e =
    let f = first_some (λ r. is_body (instruction_arg cls r)) rs zero_rec (body-some cls rs ∙ e) in
    (f.0, sym (body-some cls (take (body_at cls rs) rs)) ∙ f.1, f.2)

first-open : (cls : ℕ → ℕ) (arity c : ℕ) (cs : List (List Rec)) → check_clauses cls arity cs ≡ passed → open_somewhere cls c cs ≡ true → FirstOpen cls arity c cs (open_at cls c cs)
first-open cls arity c cs h e =
    let f = first_some (λ rs. is_open (key_in cls rs c)) cs [] (open-some cls c cs ∙ e) in
    (f.0, h, sym (open-some cls c (take (open_at cls c cs) cs)) ∙ f.1, f.2)

-- ---- clauses

first-refused : (cls : ℕ → ℕ) (arity : ℕ) (cs : List (List Rec)) (n : Refusal) → check_clauses cls arity cs ≡ Err n → FirstRefused cls arity cs (refused_at cls arity cs) n
unfolding first_at check_clauses
first-refused cls arity [] n e = let z : ◌≡◌ {A = ℕ} 0 1 = cc in absurd (omega arith)
first-refused cls arity (rs ∷ cs) n e = go (check_clause cls arity rs) refl e (first-refused cls arity cs n)
  where
    go : (k : Checked) → check_clause cls arity rs ≡ k → otherwise k (check_clauses cls arity cs) ≡ Err n
        → (check_clauses cls arity cs ≡ Err n → FirstRefused cls arity cs (refused_at cls arity cs) n)
        → FirstRefused cls arity (rs ∷ cs) (cond (is_refused k) 0 (suc (refused_at cls arity cs))) n
    go (Err m) q h f = (omega arith, refl, q ∙ h)
    go (Ok u) q h f = let later = f h in (omega (arith, later.0), rw q later.1, later.2)

each-passed : (cls : ℕ → ℕ) (arity : ℕ) (cs : List (List Rec)) (k : ℕ) → check_clauses cls arity cs ≡ passed → k < length cs → check_clause cls arity (get_or cs k []) ≡ passed
unfolding check_clauses
each-passed cls arity [] k e h = absurd (not-suc-le-zero h)
each-passed cls arity (rs ∷ cs) k e h = go (check_clause cls arity rs) refl k e h (each-passed cls arity cs)
  where
    go : (x : Checked) → check_clause cls arity rs ≡ x → (k : ℕ) → otherwise x (check_clauses cls arity cs) ≡ passed → k < suc (length cs)
        → ((j : ℕ) → check_clauses cls arity cs ≡ passed → j < length cs → check_clause cls arity (get_or cs j []) ≡ passed)
        → check_clause cls arity (get_or (rs ∷ cs) k []) ≡ passed
    go (Err m) q k e h f = let z : ◌≡◌ {A = ℕ} 0 1 = cc in absurd (omega arith)
    go (Ok u) q zero e h f = q
    go (Ok u) q (suc k) e h f = f k e (le_of_suc-le-suc h)

-- ---- records

-- 5 is of a clause without a body record
bodiless : (cls : ℕ → ℕ) (arity : ℕ) (rs : List Rec) → check_clause cls arity rs ≡ Err NoBody → has_body cls rs ≡ false
unfolding check_clause
bodiless cls arity rs e = go (has_body cls rs) refl e (records-number cls arity rs 0)
  where
    go : (t : Bool) → has_body cls rs ≡ t → cond t (check_records cls arity rs 0) (Err NoBody) ≡ Err NoBody → Within 6 7 (check_records cls arity rs 0) → has_body cls rs ≡ false
    go true q f w = let v : Within 6 7 (Err NoBody) = subst (Within 6 7) f w in absurd (omega (arith, v))
    go false q f w = q

-- every other answer is of one that has one, and its records'
bodied : (cls : ℕ → ℕ) (arity : ℕ) (rs : List Rec) (k : Checked) → check_clause cls arity rs ≡ k → (k ≡ Err NoBody → ⊥) → (has_body cls rs ≡ true) × (check_records cls arity rs 0 ≡ k)
unfolding check_clause
bodied cls arity rs k e other = go (has_body cls rs) refl e
  where
    go : (t : Bool) → has_body cls rs ≡ t → cond t (check_records cls arity rs 0) (Err NoBody) ≡ k → (has_body cls rs ≡ true) × (check_records cls arity rs 0 ≡ k)
    go true q f = (q, f)
    go false q f = absurd (other (sym f))

-- the first record at fault of the records rs after the register last
abbrev BadIn : (ℕ → ℕ) → ℕ → List Rec → ℕ → Refusal → ℕ → Type 0
BadIn cls arity rs last n i = (i < length rs) × (check_records cls arity (take i rs) last ≡ passed) × (check_records cls arity (take (suc i) rs) last ≡ Err n)

first-bad : (cls : ℕ → ℕ) (arity : ℕ) (rs : List Rec) (last : ℕ) (n : Refusal) → check_records cls arity rs last ≡ Err n → BadIn cls arity rs last n (bad_from cls arity rs last)
unfolding check_records
first-bad cls arity [] last n e = let z : ◌≡◌ {A = ℕ} 0 1 = cc in absurd (omega arith)
first-bad cls arity (r ∷ rs) last n e =
    subst (BadIn cls arity (r ∷ rs) last n) (sym (bad-cons cls arity r rs last))
    (go (record_bad (cls r.kind) r) refl (instruction_arg cls r) refl e (λ l. first-bad cls arity rs l n))
  where
    seven : (reg : ℕ) (key : OptArgIndexKey) (t : Bool) → register_bad arity last reg ≡ t → record_bad (cls r.kind) r ≡ false → instruction_arg cls r ≡ ArgedHead reg key
        → cond t (Err Register) (check_records cls arity rs reg) ≡ Err n
        → (check_records cls arity rs reg ≡ Err n → BadIn cls arity rs reg n (bad_from cls arity rs reg))
        → BadIn cls arity (r ∷ rs) last n (cond t 0 (suc (bad_from cls arity rs reg)))
    seven reg key true b p q e f = (omega arith, refl, rw (p, q, b) e)
    seven reg key false b p q e f = let later = f e in (omega (arith, later.0), rw (p, q, b) later.1, rw (p, q, b) later.2)

    go : (bad : Bool) → record_bad (cls r.kind) r ≡ bad → (a : InstructionArg) → instruction_arg cls r ≡ a
        → cond bad (Err KeyRecord) (register_step a arity last (check_records cls arity rs)) ≡ Err n
        → ((l : ℕ) → check_records cls arity rs l ≡ Err n → BadIn cls arity rs l n (bad_from cls arity rs l))
        → BadIn cls arity (r ∷ rs) last n (bad_step bad a arity last (length rs) (bad_from cls arity rs))
    go true p a q e f = (omega arith, refl, rw p e)
    go false p NonHead q e f = let z : ◌≡◌ {A = ℕ} 0 1 = cc in absurd (omega arith)
    go false p Prologue q e f = let later = f last e in (omega (arith, later.0), rw (p, q) later.1, rw (p, q) later.2)
    go false p ArglessHead q e f = let later = f last e in (omega (arith, later.0), rw (p, q) later.1, rw (p, q) later.2)
    go false p (ArgedHead reg key) q e f = seven reg key (register_bad arity last reg) refl p q e (f reg)

-- ---- which check a refusal is of

-- 1 to 4; a clause's, 1 to 4 having passed; or 8, all before having passed
abbrev Source : (ℕ → ℕ) → ℕ → ℕ → List ℕ → List ℕ → Refusal → Type 0
Source cls arity c code starts e =
    (refusal_number e < 5)
    ⊎ ((check_front arity c code starts ≡ passed)
    × ((check_clauses cls arity (clauses_of (records_of code) starts) ≡ Err e)
    ⊎ ((e ≡ OpenClause) × (check_clauses cls arity (clauses_of (records_of code) starts) ≡ passed) × (open_somewhere cls c (clauses_of (records_of code) starts) ≡ true))))

source : (cls : ℕ → ℕ) (arity c : ℕ) (code starts : List ℕ) (e : Refusal) → check_with cls arity c code starts ≡ Err e → Source cls arity c code starts e
source cls arity c code starts e f =
    go (check_front arity c code starts) refl (check_clauses cls arity (clauses_of (records_of code) starts)) refl (eqb c 0) refl
    (open_somewhere cls c (clauses_of (records_of code) starts)) refl (sym (in_order cls arity c code starts) ∙ f) (front-number arity c code starts)
  where
    go : (a : Checked) → check_front arity c code starts ≡ a → (k : Checked) → check_clauses cls arity (clauses_of (records_of code) starts) ≡ k
        → (z : Bool) → eqb c 0 ≡ z → (o : Bool) → open_somewhere cls c (clauses_of (records_of code) starts) ≡ o
        → otherwise a (otherwise k (cond z passed (refuse o OpenClause))) ≡ Err e → Within 1 4 a → Source cls arity c code starts e
    go (Err m) p k q z r o s h w = let v : Within 1 4 (Err e) = subst (Within 1 4) h w in inl (omega (arith, v))
    go (Ok u) p (Err m) q z r o s h w = inr (p, inl (q ∙ h))
    go (Ok u) p (Ok v) q true r o s h w = (cc)
    go (Ok u) p (Ok v) q false r true s h w = let same : e ≡ OpenClause = cc in inr (p, inr (same, q, s))
    go (Ok u) p (Ok v) q false r false s h w = (cc)

-- ---- the theorem

module _ (cls : ℕ → ℕ) (arity c : ℕ) (code starts : List ℕ) where
  abbrev rs : List Rec
  rs = records_of code

  abbrev cs : List (List Rec)
  cs = clauses_of rs starts

  abbrev placed : Refusal → ℕ → ℕ → Fault
  placed e k i = record { refusal = e; place = Some (place_in starts k i) }

  below-five : (e : Refusal) (i : ℕ) → check_with cls arity c code starts ≡ Err e → refusal_number e < 5 → FirstAtFault cls arity c code starts (bare e) i
  below-five e i f h =
      record {
        number_is = f;
        no-clause = λ g. refl;
        clause-refused = λ g l. absurd (omega arith);
        clause-open = λ g. absurd (omega arith);
        record-at = λ g. absurd (omega arith);
        record-last = λ g. absurd (omega arith);
        record-bad = λ g l. absurd (omega arith);
        record-body = λ g. absurd (omega arith);
      }

  of-clause : (e : Refusal) (i : ℕ) → check_with cls arity c code starts ≡ Err e → (5 ≤ refusal_number e) × (refusal_number e ≤ 7)
      → FirstRefused cls arity cs (refused_at cls arity cs) e
      → (refusal_number e ≡ 5 → LastOf cls (get_or cs (refused_at cls arity cs) []) i)
      → (6 ≤ refusal_number e → FirstBad cls arity (get_or cs (refused_at cls arity cs) []) i e)
      → FirstAtFault cls arity c code starts (placed e (refused_at cls arity cs) i) i
  of-clause e i f h r five six =
      record {
        number_is = f;
        no-clause = λ g. absurd (omega (arith, h));
        clause-refused = λ g l. r;
        clause-open = λ g. absurd (omega (arith, h));
        record-at = λ g. refl;
        record-last = five;
        record-bad = λ g l. six g;
        record-body = λ g. absurd (omega (arith, h));
      }

  of-open : (i : ℕ) → check_with cls arity c code starts ≡ Err OpenClause → FirstOpen cls arity c cs (open_at cls c cs)
      → FirstBody cls (get_or cs (open_at cls c cs) []) i → FirstAtFault cls arity c code starts (placed OpenClause (open_at cls c cs) i) i
  of-open i e r b =
      record {
        number_is = e;
        no-clause = λ g. absurd (omega arith);
        clause-refused = λ g l. absurd (omega arith);
        clause-open = λ g. r;
        record-at = λ g. refl;
        record-last = λ g. absurd (omega arith);
        record-bad = λ g l. absurd (omega arith);
        record-body = λ g. b;
      }

  -- the place of the record that a refusal is told of
  abbrev place : Refusal → ℕ
  place e = record_for cls arity e (get_or cs (clause_for cls arity c e cs) [])

  -- a clause has records
  some-records : (k : ℕ) → check_front arity c code starts ≡ passed → k < length cs → 1 ≤ length (get_or cs k [])
  some-records k e h =
      let rising = (front-passed arity c code starts e).1 in
      let here : k < length starts = omega (arith, length-clauses rs starts) in
      let end : ℕ = end_of (length rs) (drop (k + 1) starts) in
      let within : end ≤ length rs = end_below (length rs) (drop (k + 1) starts) (rising-drop (length rs) starts (k + 1) rising) in
      let some = start_below (length rs) starts k rising here in
      rw (clause-is rs starts (length rs) k end here refl refl) (omega (arith, some, length-slice (get_or starts k 0) end rs within))

  -- 6 and 7 of a clause
  by-record : (e : Refusal) (l : List Rec) → check_clause cls arity l ≡ Err e → 6 ≤ refusal_number e → (refusal_number e ≡ 8 → ⊥)
      → FirstBad cls arity l (record_for cls arity e l) e
  by-record e l q h other =
      let five : refusal_number e ≡ 5 → ⊥ = λ y. omega arith in
      let b = bodied cls arity l (Err e) q (λ y. five (ap number_of y)) in
      rw (ne_eqb (refusal_number e) 5 five, ne_eqb (refusal_number e) 8 other) (subst (λ (i : ℕ). FirstBad cls arity l i e) (bad-whole cls arity l) (first-bad cls arity l 0 e b.1))

  -- the refusal with number 5
  is-five : (e : Refusal) → Within 5 7 (Err e) → refusal_number e ≡ 5 → e ≡ NoBody
  is-five NoBody w z = refl
  is-five Arity w z = absurd (omega arith)
  is-five ChosenArgument w z = absurd (omega arith)
  is-five CodeSize w z = absurd (omega arith)
  is-five Starts w z = absurd (omega arith)
  is-five KeyRecord w z = absurd (omega arith)
  is-five Register w z = absurd (omega arith)
  is-five OpenClause w z = absurd (omega arith)
  is-five NoRoom w z = absurd (omega arith)
  is-five Call w z = absurd (omega arith)
  is-five Out w z = absurd (omega arith)
  is-five Index w z = absurd (omega arith)

  -- 5 of a clause
  by_last : (e : Refusal) (l : List Rec) → check_clause cls arity l ≡ Err e → 1 ≤ length l → e ≡ NoBody → LastOf cls l (record_for cls arity e l)
  by_last e l q h z = rw z (bodiless cls arity l (q ∙ ap Err z), omega arith)

  by-clause : (e : Refusal) → check_with cls arity c code starts ≡ Err e → check_front arity c code starts ≡ passed → check_clauses cls arity cs ≡ Err e
      → FirstAtFault cls arity c code starts (fault_by cls arity c rs starts e) (place e)
  by-clause e f p h =
      let first = first-refused cls arity cs e h in
      let l : List Rec = get_or cs (refused_at cls arity cs) [] in
      let w : Within 5 7 (Err e) = subst (Within 5 7) first.2 (clause-number cls arity l) in
      let other : refusal_number e ≡ 8 → ⊥ = λ z. omega (arith, w) in
      let k-is : clause_for cls arity c e cs ≡ refused_at cls arity cs = rw (ne_eqb (refusal_number e) 8 other) refl in
      rw (le-ltb (refusal_number e) 5 w.0)
      (subst (λ (k : ℕ). FirstAtFault cls arity c code starts (fault_at cls arity rs starts e k) (record_for cls arity e (get_or cs k []))) (sym k-is)
      (of-clause e (record_for cls arity e l) f w first
      (λ z. by_last e l first.2 (some-records (refused_at cls arity cs) p first.0) (is-five e w z))
      (λ z. by-record e l first.2 z other)))

  by-open : check_with cls arity c code starts ≡ Err OpenClause → check_clauses cls arity cs ≡ passed → open_somewhere cls c cs ≡ true
      → FirstAtFault cls arity c code starts (fault_by cls arity c rs starts OpenClause) (place OpenClause)
  by-open e h o =
      let first = first-open cls arity c cs h o in
      let q = each-passed cls arity cs (open_at cls c cs) h first.0 in
      of-open (body_at cls (get_or cs (open_at cls c cs) [])) e first
      (first_body cls (get_or cs (open_at cls c cs) []) (bodied cls arity (get_or cs (open_at cls c cs) []) passed q (λ y. (cc))).0)

  -- the place of the record that an answer is told of
  abbrev place_of : Checked → ℕ
  place_of (Ok u) = 0
  place_of (Err e) = place e

  by_answer : (x : Checked) → check_with cls arity c code starts ≡ x → NoneOrFirst cls arity c code starts (fault_in cls arity c rs starts x) (place_of x)
  by_answer (Ok u) e = e
  by_answer (Err n) e = go (source cls arity c code starts n e)
    where
      go : Source cls arity c code starts n → FirstAtFault cls arity c code starts (fault_by cls arity c rs starts n) (place n)
      go (inl low) = rw (lt-ltb (refusal_number n) 5 low) (below-five n (place n) e low)
      go (inr (p, inl h)) = by-clause n e p h
      go (inr (p, inr (z, h, o))) =
          subst (λ (m : Refusal). FirstAtFault cls arity c code starts (fault_by cls arity c rs starts m) (place m)) (sym z) (by-open (e ∙ ap Err z) h o)

  -- what is told is the first at fault
  pub first-at-fault : NoneOrFirst cls arity c code starts (fault_of cls arity c code starts) (place_of (check_with cls arity c code starts))
  unfolding fault_of
  first-at-fault = by_answer (check_with cls arity c code starts) refl
