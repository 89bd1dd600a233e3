-- What a check that passed says of the code: where its clauses stand and which keys they have.
-- Every law that reads code holds for any class function. Assumes nothing.
use mathlib.Core.Path.{◌≡◌, refl, sym, ap, ◌∙◌, subst}
use Prim.Native.Nat.{ℕ, zero, suc, ◌+◌, ◌-◌, ◌/◌, ◌≤◌, ◌<◌}
use mathlib.Core.Bool.{Bool, true, false, cond, not, ◌&&◌, ◌||◌, false≢true}
use mathlib.Core.List.{List, [], ◌∷◌, ◌++◌, map}
use native.Mathlib.Nat.{add-zero, not-suc-le-zero, le_of_suc-le-suc}
use native.Mathlib.Omega.{arith}
use lib.Dec.{eqb, leb, ltb}
use lib.ListN.{length, get_or, take, drop, length-map, take-append-drop, get_or-append}
use lib.Seq.{slice, length-take-le, take-length, drop-append-le}
use borrow.Author.Tests.{eqb-true, leb-true, leb-false, ltb-false, not-false}
use Rattle.records.specs.declared.Rec.{Rec}
use Rattle.records.specs.Records.{records_of}
use Rattle.indexing_iter.specs.declared.OptArgIndexKey.{OptArgIndexKey}
use Rattle.indexing_iter.specs.declared.OptArgIndexKey.TheVariants.{Literal, Structure, List as ListKey}
use Rattle.indexing_iter.specs.declared.InstructionArg.{InstructionArg}
use Rattle.indexing_iter.specs.declared.InstructionArg.TheVariants.{ArgedHead, ArglessHead, NonHead, Prologue}
use Rattle.indexing_iter.specs.Refusals.{Checked, passed}
use Rattle.std.specs.Prelude.{Ok, Err}
use Rattle.indexing_iter.specs.declared.refusal.Refusal.{Refusal}
use Rattle.indexing_iter.specs.declared.refusal.Refusal.TheVariants.{NoBody, KeyRecord, Register}
use Rattle.indexing_iter.specs.Classes.{instruction_arg, arg_of_class, key_of_class, is_keyed, is_shallow_temp}
use Rattle.indexing_iter.specs.Keys.{key_in, key_step}
use Rattle.indexing_iter.specs.Clauses.{end_of, clauses_of, clause_at, key_of, known}
use Rattle.indexing_iter.specs.Rows.{keys_in, keys_of}
use Rattle.indexing_iter.specs.Checks.{otherwise, rising_below, is_body, has_body, key_fields_ok, record_bad, register_bad, register_step, check_records, check_clause, check_clauses, check_code}
use Rattle.indexing_iter.proofs.CheckLaws.{rising-tail, rising-head, end_below, passed-both, code-arity, code-size, code-starts, code-rising, code-clauses}
use Rattle.indexing_iter.proofs.SameKeys.{and_left, and_right, or_left, or_right, KeyInRange}

-- ---- the keys at n arguments, one by one

pub length-keys : (cls : ℕ → ℕ) (rs : List Rec) (n a : ℕ) → length (keys_in cls rs n a) ≡ n
unfolding keys_in
length-keys cls rs zero a = refl
length-keys cls rs (suc n) a = ap suc (length-keys cls rs n (suc a))

pub keys-at : (f : OptArgIndexKey → ℕ) (cls : ℕ → ℕ) (rs : List Rec) (n a i : ℕ) → i < n → get_or (map f (keys_in cls rs n a)) i 0 ≡ f (key_in cls rs (a + i))
unfolding keys_in
keys-at f cls rs zero a i h = absurd (not-suc-le-zero h)
keys-at f cls rs (suc n) a zero h = rw (add-zero a) refl
keys-at f cls rs (suc n) a (suc i) h =
    let e : suc a + i ≡ a + suc i = omega arith in
    keys-at f cls rs n (suc a) i (le_of_suc-le-suc h) ∙ ap (λ (k : ℕ). f (key_in cls rs k)) e

-- the number of argument a in a list that begins with those of a clause's keys
pub collected-at : (f : OptArgIndexKey → ℕ) (cls : ℕ → ℕ) (rs : List Rec) (starts : List ℕ) (o arity : ℕ) (rest : List ℕ) (a : ℕ) → 1 ≤ a → a ≤ arity
    → get_or (map f (keys_of cls rs starts o arity) ++ rest) (a - 1) 0 ≡ f (key_of cls rs starts o a)
unfolding key_of
collected-at f cls rs starts o arity rest a h k =
    let ks : List OptArgIndexKey = keys_of cls rs starts o arity in
    let l : length (map f ks) ≡ arity = length-map ks f ∙ length-keys cls (clause_at rs starts o) arity 1 in
    let e : 1 + (a - 1) ≡ a = omega arith in
    get_or-append (map f ks) rest 0 (a - 1) (omega arith)
    ∙ keys-at f cls (clause_at rs starts o) arity 1 (a - 1) (omega arith) ∙ ap (λ (n : ℕ). f (key_in cls (clause_at rs starts o) n)) e

-- ---- what is read of a run of records ends at its first body record

key-step-append : (a : InstructionArg) (rest : Bool) (j : ℕ) (k l : OptArgIndexKey) → (is_body a || rest) ≡ true → (rest ≡ true → k ≡ l)
    → key_step a j k ≡ key_step a j l
key-step-append NonHead rest j k l e f = refl
key-step-append Prologue rest j k l e f = f e
key-step-append ArglessHead rest j k l e f = f e
key-step-append (ArgedHead reg key) rest j k l e f = ap (cond (eqb reg j) key) (f e)

pub key-in-append : (cls : ℕ → ℕ) (rs more : List Rec) (j : ℕ) → has_body cls rs ≡ true → key_in cls (rs ++ more) j ≡ key_in cls rs j
unfolding key_in has_body
key-in-append cls [] more j e = absurd (false≢true e)
key-in-append cls (r ∷ rs) more j e =
    key-step-append (instruction_arg cls r) (has_body cls rs) j (key_in cls (rs ++ more) j) (key_in cls rs j) e (key-in-append cls rs more j)

register-step-append : (a : InstructionArg) (rest : Bool) (arity last : ℕ) (f g : ℕ → Checked) → (is_body a || rest) ≡ true
    → (rest ≡ true → (n : ℕ) → f n ≡ g n) → register_step a arity last f ≡ register_step a arity last g
register-step-append NonHead rest arity last f g e h = refl
register-step-append Prologue rest arity last f g e h = h e last
register-step-append ArglessHead rest arity last f g e h = h e last
register-step-append (ArgedHead reg key) rest arity last f g e h = ap (cond (register_bad arity last reg) (Err Register)) (h e reg)

pub check-records-append : (cls : ℕ → ℕ) (arity : ℕ) (rs more : List Rec) → has_body cls rs ≡ true
    → (last : ℕ) → check_records cls arity (rs ++ more) last ≡ check_records cls arity rs last
unfolding check_records has_body
check-records-append cls arity [] more e last = absurd (false≢true e)
check-records-append cls arity (r ∷ rs) more e last =
    ap (cond (record_bad (cls r.kind) r) (Err KeyRecord))
    (register-step-append (instruction_arg cls r) (has_body cls rs) arity last (check_records cls arity (rs ++ more)) (check_records cls arity rs) e
    (check-records-append cls arity rs more))

-- ---- what a check that passed says

abbrev is_passed : Checked → Type 0
is_passed (Ok u) = Unit {0}
is_passed (Err n) = ⊥

pub refused-not : (n : Refusal) → Err n ≡ passed → ⊥
refused-not n e = subst is_passed (sym e) tt

pub or-else-first : (a b : Checked) → otherwise a b ≡ passed → a ≡ passed
or-else-first a b e = (passed-both a b e).0

pub or-else-next : (a b : Checked) → otherwise a b ≡ passed → b ≡ passed
or-else-next a b e = (passed-both a b e).1

-- the test of a refusal that was not made
pub not-refused : (t : Bool) (n : Refusal) (x : Checked) → cond t (Err n) x ≡ passed → (t ≡ false) × (x ≡ passed)
not-refused true n x e = absurd (refused-not n e)
not-refused false n x e = (refl, e)

pub then-passed : (t : Bool) (n : Refusal) (x : Checked) → cond t x (Err n) ≡ passed → (t ≡ true) × (x ≡ passed)
then-passed true n x e = (refl, e)
then-passed false n x e = absurd (refused-not n e)

-- code and starts that passed 1 and 3 to 7
pub record CodeOk (cls : ℕ → ℕ) (arity : ℕ) (rs : List Rec) (starts : List ℕ) : Type 0 where
  pub arity-from : 1 ≤ arity
  pub arity-to : arity ≤ 32
  pub size : length rs ≤ 32768
  pub some : 1 ≤ length starts
  pub few : length starts ≤ 1024
  pub rising : rising_below (length rs) starts ≡ true
  pub clauses : check_clauses cls arity (clauses_of rs starts) ≡ passed

pub code_ok : (cls : ℕ → ℕ) (arity : ℕ) (code starts : List ℕ) → check_code cls arity code starts ≡ passed → CodeOk cls arity (records_of code) starts
code_ok cls arity code starts e =
    let a = code-arity cls arity code starts e in
    let n = code-starts cls arity code starts e in
    record {
      arity-from = a.0;
      arity-to = a.1;
      size = (code-size cls arity code starts e).1;
      some = n.0;
      few = n.1;
      rising = code-rising cls arity code starts e;
      clauses = code-clauses cls arity code starts e;
    }

-- ---- where a clause stands

-- the clause at offset o of the records rs: a run that starts at o - 1, has a body record, and passed 6 and 7
pub record ClauseOk (cls : ℕ → ℕ) (arity : ℕ) (rs : List Rec) (o : ℕ) (clause : List Rec) : Type 0 where
  pub end : ℕ
  pub from : 1 ≤ o
  pub start : o - 1 < end
  pub within : end ≤ length rs
  pub run : clause ≡ slice (o - 1) end rs
  pub body : has_body cls clause ≡ true
  pub passed : check_records cls arity clause 0 ≡ passed

module _ (cls : ℕ → ℕ) (arity : ℕ) (rs : List Rec) where
  first-clause : (s : ℕ) (ss : List ℕ) (o : ℕ) → suc s ≡ o → rising_below (length rs) (s ∷ ss) ≡ true
      → check_clause cls arity (slice s (end_of (length rs) ss) rs) ≡ passed → ClauseOk cls arity rs o (slice s (end_of (length rs) ss) rs)
  unfolding check_clause
  first-clause s ss o q e f =
      let c : List Rec = slice s (end_of (length rs) ss) rs in
      let p : o - 1 ≡ s = omega arith in
      record {
        end = end_of (length rs) ss;
        from = omega arith;
        start = omega (arith, rising-head (length rs) s ss e);
        within = end_below (length rs) ss (rising-tail (length rs) s ss e);
        run = rw p refl;
        body = (then-passed (has_body cls c) NoBody (check_records cls arity c 0) f).0;
        passed = (then-passed (has_body cls c) NoBody (check_records cls arity c 0) f).1;
      }

  this-or-later : (t : Bool) (o : ℕ) (first later : List Rec) (rest : Bool) → (t || rest) ≡ true → (t ≡ true → ClauseOk cls arity rs o first)
      → (rest ≡ true → ClauseOk cls arity rs o later) → ClauseOk cls arity rs o (cond t first later)
  this-or-later true o first later rest k f g = f refl
  this-or-later false o first later rest k f g = g k

  pub known-clause : (starts : List ℕ) (o : ℕ) → rising_below (length rs) starts ≡ true → check_clauses cls arity (clauses_of rs starts) ≡ passed
      → known starts o ≡ true → ClauseOk cls arity rs o (clause_at rs starts o)
  unfolding known clause_at clauses_of check_clauses
  known-clause [] o e f k = absurd (false≢true k)
  known-clause (s ∷ ss) o e f k =
      let c : List Rec = slice s (end_of (length rs) ss) rs in
      let later : Checked = check_clauses cls arity (clauses_of rs ss) in
      this-or-later (eqb (suc s) o) o c (clause_at rs ss o) (known ss o) k
      (λ q. first-clause s ss o (eqb-true (suc s) o q) e (or-else-first (check_clause cls arity c) later f))
      (known-clause ss o (rising-tail (length rs) s ss e) (or-else-next (check_clause cls arity c) later f))

-- the clause at a known offset of checked code
pub clause-ok : (cls : ℕ → ℕ) (arity : ℕ) (code starts : List ℕ) (o : ℕ) → known starts o ≡ true → check_code cls arity code starts ≡ passed
    → ClauseOk cls arity (records_of code) o (clause_at (records_of code) starts o)
clause-ok cls arity code starts o k e =
    let h : CodeOk cls arity (records_of code) starts = code_ok cls arity code starts e in
    known-clause cls arity (records_of code) starts o h.rising h.clauses k

-- a known offset lies within the code
pub known-within : (cls : ℕ → ℕ) (arity : ℕ) (code starts : List ℕ) (o : ℕ) → known starts o ≡ true → check_code cls arity code starts ≡ passed
    → (1 ≤ o) × (o - 1 < length (records_of code))
known-within cls arity code starts o k e =
    let c : ClauseOk cls arity (records_of code) o (clause_at (records_of code) starts o) = clause-ok cls arity code starts o k e in
    (c.from, omega (arith, c.start, c.within))

pub known_small : (cls : ℕ → ℕ) (arity : ℕ) (code starts : List ℕ) (o : ℕ) → known starts o ≡ true → check_code cls arity code starts ≡ passed
    → o ≤ 32768
known_small cls arity code starts o k e =
    omega (arith, known-within cls arity code starts o k e, (code_ok cls arity code starts e).size)

-- ---- reading on past a clause's end

-- what is left from f on is the part up to t, and the rest
pub slice-on : (f t : ℕ) (rs : List Rec) → f ≤ t → t ≤ length rs → slice f (length rs) rs ≡ slice f t rs ++ drop t rs
slice-on f t rs h k =
    let l : f ≤ length (take t rs) = omega (arith, length-take-le t rs k) in
    ap (drop f) (take-length rs ∙ sym (take-append-drop t rs)) ∙ drop-append-le f (take t rs) (drop t rs) l

-- a clause's records, and then others: reading from its start to the code's end gives what the clause gives
pub clause-on : (cls : ℕ → ℕ) (arity : ℕ) (rs : List Rec) (o : ℕ) (clause : List Rec) (c : ClauseOk cls arity rs o clause)
    → slice (o - 1) (length rs) rs ≡ clause ++ drop c.end rs
clause-on cls arity rs o clause c =
    let h : o - 1 ≤ c.end = omega (arith, c.start) in
    slice-on (o - 1) c.end rs h c.within ∙ ap (λ (l : List Rec). l ++ drop c.end rs) (sym c.run)

pub key-on : (cls : ℕ → ℕ) (arity : ℕ) (code starts : List ℕ) (o j : ℕ) → known starts o ≡ true → check_code cls arity code starts ≡ passed
    → key_in cls (slice (o - 1) (length (records_of code)) (records_of code)) j ≡ key_of cls (records_of code) starts o j
unfolding key_of
key-on cls arity code starts o j k e =
    let rs : List Rec = records_of code in
    let cl : List Rec = clause_at rs starts o in
    let c : ClauseOk cls arity rs o cl = clause-ok cls arity code starts o k e in
    ap (λ (l : List Rec). key_in cls l j) (clause-on cls arity rs o cl c) ∙ key-in-append cls cl (drop c.end rs) j c.body

-- ---- a key of checked code is in range

abbrev ArgInRange : InstructionArg → Type 0
ArgInRange NonHead = Unit {0}
ArgInRange Prologue = Unit {0}
ArgInRange ArglessHead = Unit {0}
ArgInRange (ArgedHead reg key) = KeyInRange key

fields-in-range : (class : ℕ) (r : Rec) → key_fields_ok class r ≡ true → KeyInRange (key_of_class class r)
fields-in-range class r e = go (eqb class 3) (eqb class 5) e
  where
    between : (n : ℕ) → (leb 1 r.half && leb r.half n) ≡ true → (1 ≤ r.half) × (r.half ≤ n)
    between n e = (leb-true 1 r.half (and_left (leb 1 r.half) (leb r.half n) e), leb-true r.half n (and_right (leb 1 r.half) (leb r.half n) e))

    go : (x y : Bool) → cond x (leb 1 r.half && leb r.half 255) (cond y (leb 1 r.half && leb r.half 3) true) ≡ true
        → KeyInRange (cond x (Structure r.half r.long) (cond y (Literal r.half r.long) ListKey))
    go true y e = between 255 e
    go false true e = between 3 e
    go false false e = tt

arg-in-range : (class : ℕ) (r : Rec) → record_bad class r ≡ false → ArgInRange (arg_of_class class r)
unfolding record_bad arg_of_class
arg-in-range class r e =
    go (eqb class 1) (eqb class 2) (is_keyed class) (is_shallow_temp r) e
  where
    go : (p q keyed temp : Bool) → (keyed && (not (eqb (r.sub / 4) 0) || (temp && not (key_fields_ok class r)))) ≡ false
        → ArgInRange (cond p Prologue (cond q ArglessHead (cond keyed (cond temp (ArgedHead r.word (key_of_class class r)) NonHead) NonHead)))
    go true q keyed temp e = tt
    go false true keyed temp e = tt
    go false false false temp e = tt
    go false false true false e = tt
    go false false true true e =
        fields-in-range class r (not-false (key_fields_ok class r) (or_right (not (eqb (r.sub / 4) 0)) (not (key_fields_ok class r)) e))

-- what 6 and 7 say of one record, and of the records after it, whose answer is rest at the last register
abbrev pub StepOk : InstructionArg → ℕ → ℕ → (ℕ → Checked) → Type 0
StepOk NonHead arity last rest = Unit {0}
StepOk Prologue arity last rest = rest last ≡ passed
StepOk ArglessHead arity last rest = rest last ≡ passed
StepOk (ArgedHead reg key) arity last rest = KeyInRange key × (1 ≤ reg) × (last < reg) × (reg ≤ arity) × (rest reg ≡ passed)

step_ok : (a : InstructionArg) (arity last : ℕ) (rest : ℕ → Checked) → ArgInRange a → register_step a arity last rest ≡ passed → StepOk a arity last rest
step_ok NonHead arity last rest h e = tt
step_ok Prologue arity last rest h e = e
step_ok ArglessHead arity last rest h e = e
step_ok (ArgedHead reg key) arity last rest h e =
    let p : (register_bad arity last reg ≡ false) × (rest reg ≡ passed) = not-refused (register_bad arity last reg) Register (rest reg) e in
    let z : eqb reg 0 ≡ false = or_left (eqb reg 0) (ltb arity reg || leb reg last) p.0 in
    let q : (ltb arity reg || leb reg last) ≡ false = or_right (eqb reg 0) (ltb arity reg || leb reg last) p.0 in
    let l : last < reg = leb-false reg last (or_right (ltb arity reg) (leb reg last) q) in
    (h, omega arith, l, ltb-false arity reg (or_left (ltb arity reg) (leb reg last) q), p.1)

pub records-step : (cls : ℕ → ℕ) (arity : ℕ) (r : Rec) (rs : List Rec) (last : ℕ) → check_records cls arity (r ∷ rs) last ≡ passed
    → StepOk (instruction_arg cls r) arity last (check_records cls arity rs)
unfolding check_records
records-step cls arity r rs last e =
    let p = not-refused (record_bad (cls r.kind) r) KeyRecord (register_step (instruction_arg cls r) arity last (check_records cls arity rs)) e in
    step_ok (instruction_arg cls r) arity last (check_records cls arity rs) (arg-in-range (cls r.kind) r p.0) p.1

key-step-range : (a : InstructionArg) (arity last j : ℕ) (rest : ℕ → Checked) (k : OptArgIndexKey) → StepOk a arity last rest
    → ((n : ℕ) → rest n ≡ passed → KeyInRange k) → KeyInRange (key_step a j k)
key-step-range NonHead arity last j rest k h f = tt
key-step-range Prologue arity last j rest k h f = f last h
key-step-range ArglessHead arity last j rest k h f = f last h
key-step-range (ArgedHead reg key) arity last j rest k h f = go (eqb reg j)
  where
    go : (t : Bool) → KeyInRange (cond t key k)
    go true = h.0
    go false = f reg h.4

pub key-in-range : (cls : ℕ → ℕ) (arity : ℕ) (rs : List Rec) (j last : ℕ) → check_records cls arity rs last ≡ passed → KeyInRange (key_in cls rs j)
unfolding key_in
key-in-range cls arity [] j last e = tt
key-in-range cls arity (r ∷ rs) j last e =
    key-step-range (instruction_arg cls r) arity last j (check_records cls arity rs) (key_in cls rs j) (records-step cls arity r rs last e)
    (key-in-range cls arity rs j)

pub key-of-range : (cls : ℕ → ℕ) (arity : ℕ) (code starts : List ℕ) (o j : ℕ) → known starts o ≡ true → check_code cls arity code starts ≡ passed
    → KeyInRange (key_of cls (records_of code) starts o j)
unfolding key_of
key-of-range cls arity code starts o j k e =
    key-in-range cls arity (clause_at (records_of code) starts o) j 0 (clause-ok cls arity code starts o k e).passed
