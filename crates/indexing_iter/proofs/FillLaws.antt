-- The keys of a clause stored argument by argument: two lists cleared first, and then filled record by record. Assumes nothing.
use mathlib.Core.Path.{◌≡◌, refl, sym, ap, ap₂, ◌∙◌, subst}
use mathlib.Core.Logic.{◌≢◌}
use Prim.Native.Nat.{ℕ, suc, ◌+◌, ◌-◌, ◌≤◌, ◌<◌}
use mathlib.Core.Bool.{Bool, true, false, cond, ◌||◌, false≢true}
use mathlib.Core.List.{List, [], ◌∷◌, ◌++◌, map}
use native.Mathlib.Omega.{arith}
use lib.Dec.{eqb}
use lib.ListN.{length, get_or, drop, set, replicate, length-set, length-replicate, length-map, get_or-replicate}
use lib.Seq.{slice, set-append_left, get_or-set_same, get_or-set_other, ext_get_or}
use borrow.Author.Tests.{eqb-true, eqb-false}
use Rattle.records.specs.declared.Rec.{Rec}
use Rattle.records.specs.Records.{records_of}
use Rattle.indexing_iter.specs.declared.OptArgIndexKey.{OptArgIndexKey}
use Rattle.indexing_iter.specs.declared.OptArgIndexKey.TheVariants.{None}
use Rattle.indexing_iter.specs.declared.InstructionArg.{InstructionArg}
use Rattle.indexing_iter.specs.declared.InstructionArg.TheVariants.{ArgedHead, ArglessHead, NonHead, Prologue}
use Rattle.indexing_iter.specs.Refusals.{Checked, passed}
use Rattle.indexing_iter.specs.Classes.{instruction_arg}
use Rattle.indexing_iter.specs.Keys.{bits_of, key_in, key_step}
use Rattle.indexing_iter.specs.Clauses.{clause_at, known}
use Rattle.indexing_iter.specs.Rows.{head_of, keys_in, keys_of}
use Rattle.indexing_iter.specs.Checks.{check_records, check_code, has_body, is_body}
use Rattle.indexing_iter.proofs.KeyLaws.{length-keys, keys-at, StepOk, records-step, ClauseOk, clause-ok, clause-on, check-records-append}

-- ---- clearing

-- the first i numbers of l are cleared
pub cleared : List ℕ → ℕ → List ℕ
cleared l i = replicate i 0 ++ drop i l

-- ---- filling

abbrev fill_step : (OptArgIndexKey → ℕ) → InstructionArg → List ℕ → (List ℕ → List ℕ) → List ℕ
fill_step f NonHead l rest = l
fill_step f Prologue l rest = rest l
fill_step f ArglessHead l rest = rest l
fill_step f (ArgedHead reg key) l rest = rest (set l (reg - 1) (f key))

-- the list after the records up to the first body record have stored f of their keys
pub fill : (OptArgIndexKey → ℕ) → (ℕ → ℕ) → List Rec → List ℕ → List ℕ
fill f cls [] l = l
fill f cls (r ∷ rs) l = fill_step f (instruction_arg cls r) l (fill f cls rs)

fill-step-on : (f : OptArgIndexKey → ℕ) (a : InstructionArg) (rest : Bool) (l : List ℕ) (g h : List ℕ → List ℕ) → (is_body a || rest) ≡ true
    → (rest ≡ true → (m : List ℕ) → g m ≡ h m) → fill_step f a l g ≡ fill_step f a l h
fill-step-on f NonHead rest l g h e k = refl
fill-step-on f Prologue rest l g h e k = k e l
fill-step-on f ArglessHead rest l g h e k = k e l
fill-step-on f (ArgedHead reg key) rest l g h e k = k e (set l (reg - 1) (f key))

-- records past a body record store nothing
fill_on : (f : OptArgIndexKey → ℕ) (cls : ℕ → ℕ) (rs more : List Rec) → has_body cls rs ≡ true → (l : List ℕ) → fill f cls (rs ++ more) l ≡ fill f cls rs l
unfolding fill has_body
fill_on f cls [] more e l = absurd (false≢true e)
fill_on f cls (r ∷ rs) more e l =
    fill-step-on f (instruction_arg cls r) (has_body cls rs) l (fill f cls (rs ++ more)) (fill f cls rs) e (fill_on f cls rs more)

module _ (f : OptArgIndexKey → ℕ) (arity : ℕ) where
  length-step : (a : InstructionArg) (l : List ℕ) (more : List ℕ → List ℕ) → ((m : List ℕ) → length (more m) ≡ length m)
      → length (fill_step f a l more) ≡ length l
  length-step NonHead l more g = refl
  length-step Prologue l more g = g l
  length-step ArglessHead l more g = g l
  length-step (ArgedHead reg key) l more g = g (set l (reg - 1) (f key)) ∙ length-set l (reg - 1) (f key)

  low_step : (a : InstructionArg) (last j : ℕ) (l : List ℕ) (rest : ℕ → Checked) (more : List ℕ → List ℕ) → StepOk a arity last rest → j < last
      → ((n : ℕ) (m : List ℕ) → rest n ≡ passed → j < n → get_or (more m) j 0 ≡ get_or m j 0) → get_or (fill_step f a l more) j 0 ≡ get_or l j 0
  low_step NonHead last j l rest more s h g = refl
  low_step Prologue last j l rest more s h g = g last l s h
  low_step ArglessHead last j l rest more s h g = g last l s h
  low_step (ArgedHead reg key) last j l rest more s h g =
      let i : j < reg = omega arith in
      let n : j ≢ reg - 1 = λ q. omega arith in
      g reg (set l (reg - 1) (f key)) s.4 i ∙ get_or-set_other l (reg - 1) j (f key) 0 n

  at-step : (a : InstructionArg) (last j : ℕ) (l : List ℕ) (rest : ℕ → Checked) (more : List ℕ → List ℕ) (k : OptArgIndexKey)
      → StepOk a arity last rest → j < length l → get_or l j 0 ≡ f None
      → ((n : ℕ) (m : List ℕ) → rest n ≡ passed → j < n → get_or (more m) j 0 ≡ get_or m j 0)
      → ((n : ℕ) (m : List ℕ) → rest n ≡ passed → j < length m → get_or m j 0 ≡ f None → get_or (more m) j 0 ≡ f k)
      → get_or (fill_step f a l more) j 0 ≡ f (key_step a (suc j) k)
  at-step NonHead last j l rest more k s h e low g = e
  at-step Prologue last j l rest more k s h e low g = g last l s h e
  at-step ArglessHead last j l rest more k s h e low g = g last l s h e
  at-step (ArgedHead reg key) last j l rest more k s h e low g = go (eqb reg (suc j)) refl
    where
      m : List ℕ
      m = set l (reg - 1) (f key)

      go : (t : Bool) → eqb reg (suc j) ≡ t → get_or (more m) j 0 ≡ f (cond t key k)
      go true q =
          let i : reg - 1 ≡ j = omega (arith, eqb-true reg (suc j) q) in
          low reg m s.4 (omega (arith, eqb-true reg (suc j) q)) ∙ ap (λ (x : ℕ). get_or (set l x (f key)) j 0) i ∙ get_or-set_same l j (f key) 0 h
      go false q =
          let n : j ≢ reg - 1 = λ i. eqb-false reg (suc j) q (omega arith) in
          g reg m s.4 (omega (arith, length-set l (reg - 1) (f key))) (get_or-set_other l (reg - 1) j (f key) 0 n ∙ e)

  append-step : (a : InstructionArg) (last : ℕ) (p d : List ℕ) (rest : ℕ → Checked) (more : List ℕ → List ℕ) → StepOk a arity last rest → arity ≤ length p
      → ((n : ℕ) (m : List ℕ) → rest n ≡ passed → arity ≤ length m → more (m ++ d) ≡ more m ++ d)
      → fill_step f a (p ++ d) more ≡ fill_step f a p more ++ d
  append-step NonHead last p d rest more s h g = refl
  append-step Prologue last p d rest more s h g = g last p s h
  append-step ArglessHead last p d rest more s h g = g last p s h
  append-step (ArgedHead reg key) last p d rest more s h g =
      let i : reg - 1 < length p = omega arith in
      let w : arity ≤ length (set p (reg - 1) (f key)) = omega (arith, length-set p (reg - 1) (f key)) in
      ap more (set-append_left p d (reg - 1) (f key) i) ∙ g reg (set p (reg - 1) (f key)) s.4 w

  module _ (cls : ℕ → ℕ) where
    length-fill : (rs : List Rec) (l : List ℕ) → length (fill f cls rs l) ≡ length l
    unfolding fill
    length-fill [] l = refl
    length-fill (r ∷ rs) l = length-step (instruction_arg cls r) l (fill f cls rs) (length-fill rs)

    -- arguments at or below the last register stay as they are
    fill-low : (rs : List Rec) (j last : ℕ) (l : List ℕ) → check_records cls arity rs last ≡ passed → j < last → get_or (fill f cls rs l) j 0 ≡ get_or l j 0
    unfolding fill
    fill-low [] j last l e h = refl
    fill-low (r ∷ rs) j last l e h =
        low_step (instruction_arg cls r) last j l (check_records cls arity rs) (fill f cls rs) (records-step cls arity r rs last e) h (fill-low rs j)

    -- a cleared place gets the key of its argument
    fill-at : (rs : List Rec) (j last : ℕ) (l : List ℕ) → check_records cls arity rs last ≡ passed → j < length l → get_or l j 0 ≡ f None
        → get_or (fill f cls rs l) j 0 ≡ f (key_in cls rs (suc j))
    unfolding fill key_in
    fill-at [] j last l e h q = q
    fill-at (r ∷ rs) j last l e h q =
        at-step (instruction_arg cls r) last j l (check_records cls arity rs) (fill f cls rs) (key_in cls rs (suc j)) (records-step cls arity r rs last e) h q
        (fill-low rs j) (fill-at rs j)

    -- places past the arity stay as they are
    fill-append : (rs : List Rec) (d : List ℕ) (last : ℕ) (p : List ℕ) → check_records cls arity rs last ≡ passed → arity ≤ length p
        → fill f cls rs (p ++ d) ≡ fill f cls rs p ++ d
    unfolding fill
    fill-append [] d last p e h = refl
    fill-append (r ∷ rs) d last p e h =
        append-step (instruction_arg cls r) last p d (check_records cls arity rs) (fill f cls rs) (records-step cls arity r rs last e) h (fill-append rs d)

-- cleared and filled: the keys at the arguments 1 to arity, and the rest as it was
pub filled : (f : OptArgIndexKey → ℕ) (cls : ℕ → ℕ) (arity : ℕ) (rs : List Rec) (l : List ℕ) → f None ≡ 0 → check_records cls arity rs 0 ≡ passed
    → fill f cls rs (cleared l arity) ≡ map f (keys_in cls rs arity 1) ++ drop arity l
unfolding cleared
filled f cls n rs l z e =
    let r : List ℕ = replicate n 0 in
    let len : length r ≡ n = length-replicate n 0 in
    let full : length (fill f cls rs r) ≡ n = length-fill f n cls rs r ∙ len in
    let keys : length (map f (keys_in cls rs n 1)) ≡ n = length-map (keys_in cls rs n 1) f ∙ length-keys cls rs n 1 in
    let each : (i : ℕ) → i < length (fill f cls rs r) → get_or (fill f cls rs r) i 0 ≡ get_or (map f (keys_in cls rs n 1)) i 0 =
    λ i h.
    let w : i < n = omega arith in
    let s : 1 + i ≡ suc i = omega arith in
    fill-at f n cls rs i 0 r e (omega arith) (get_or-replicate n i 0 0 w ∙ sym z)
    ∙ sym (keys-at f cls rs n 1 i w ∙ ap (λ (k : ℕ). f (key_in cls rs k)) s) in
    fill-append f n cls rs (drop n l) 0 r e (omega arith)
    ∙ ap (λ (x : List ℕ). x ++ drop n l) (ext_get_or 0 (fill f cls rs r) (map f (keys_in cls rs n 1)) (full ∙ sym keys) each)

-- ---- the loop over a clause's records

-- the records rs are left, and give the answers H and B
pub record Filling (cls : ℕ → ℕ) (arity : ℕ) (rs : List Rec) (heads bits H B : List ℕ) : Type 0 where
  pub last : ℕ
  pub passed : check_records cls arity rs last ≡ passed
  pub heads-room : arity ≤ length heads
  pub bits-room : arity ≤ length bits
  pub heads-give : fill head_of cls rs heads ≡ H
  pub bits-give : fill bits_of cls rs bits ≡ B

-- f of the keys of the clause at offset o in the first arity numbers of l
abbrev pub collected : (OptArgIndexKey → ℕ) → (ℕ → ℕ) → ℕ → List ℕ → List ℕ → ℕ → List ℕ → List ℕ
collected f cls arity code starts o l = map f (keys_of cls (records_of code) starts o arity) ++ drop arity l

module _ (cls : ℕ → ℕ) (arity : ℕ) (code starts : List ℕ) (o n : ℕ) (k : known starts o ≡ true) (e : check_code cls arity code starts ≡ passed)
    (q : n ≡ length (records_of code)) where
  abbrev clause : List Rec
  clause = clause_at (records_of code) starts o

  is : ClauseOk cls arity (records_of code) o clause
  is = clause-ok cls arity code starts o k e

  on : slice (o - 1) n (records_of code) ≡ clause ++ drop is.end (records_of code)
  on = ap (λ (m : ℕ). slice (o - 1) m (records_of code)) q ∙ clause-on cls arity (records_of code) o clause is

  passed_on : check_records cls arity (slice (o - 1) n (records_of code)) 0 ≡ passed
  passed_on =
      ap (λ (l : List Rec). check_records cls arity l 0) on
      ∙ check-records-append cls arity clause (drop is.end (records_of code)) is.body 0 ∙ is.passed

  fill-clause : (f : OptArgIndexKey → ℕ) (l l' : List ℕ) → f None ≡ 0 → l' ≡ replicate arity 0 ++ drop arity l
      → fill f cls (slice (o - 1) n (records_of code)) l' ≡ collected f cls arity code starts o l
  unfolding cleared
  fill-clause f l l' z p =
      ap₂ (fill f cls) on p
      ∙ fill_on f cls clause (drop is.end (records_of code)) is.body (cleared l arity)
      ∙ filled f cls arity clause l z is.passed

  -- both lists are cleared; reading goes on past the clause, and stops within it
  pub filling-start : (heads bits heads' bits' : List ℕ) → arity ≤ length heads' → arity ≤ length bits'
      → heads' ≡ replicate arity 0 ++ drop arity heads → bits' ≡ replicate arity 0 ++ drop arity bits
      → Filling cls arity (slice (o - 1) n (records_of code)) heads' bits'
      (collected head_of cls arity code starts o heads) (collected bits_of cls arity code starts o bits)
  filling-start heads bits heads' bits' h i p r =
      record {
        last = 0;
        passed = passed_on;
        heads-room = h;
        bits-room = i;
        heads-give = fill-clause head_of heads heads' refl p;
        bits-give = fill-clause bits_of bits bits' refl r;
      }

pub filling-end : {cls : ℕ → ℕ} {arity : ℕ} {rs : List Rec} {heads bits H B : List ℕ} → Filling cls arity rs heads bits H B → rs ≡ []
    → (heads ≡ H) × (bits ≡ B)
unfolding fill
filling-end {cls} {arity} {rs} {heads} {bits} {H} {B} f e =
    (ap (λ (l : List Rec). fill head_of cls l heads) (sym e) ∙ f.heads-give, ap (λ (l : List Rec). fill bits_of cls l bits) (sym e) ∙ f.bits-give)

-- what one record says of the lists
abbrev pub FillingStep : InstructionArg → (ℕ → ℕ) → ℕ → List Rec → List ℕ → List ℕ → List ℕ → List ℕ → Type 0
FillingStep NonHead cls arity rs heads bits H B = (heads ≡ H) × (bits ≡ B)
FillingStep Prologue cls arity rs heads bits H B = Filling cls arity rs heads bits H B
FillingStep ArglessHead cls arity rs heads bits H B = Filling cls arity rs heads bits H B
FillingStep (ArgedHead reg key) cls arity rs heads bits H B =
    (1 ≤ reg) × (reg ≤ arity) × Filling cls arity rs (set heads (reg - 1) (head_of key)) (set bits (reg - 1) (bits_of key)) H B

filling-by : (a : InstructionArg) (cls : ℕ → ℕ) (arity : ℕ) (rs : List Rec) (heads bits H B : List ℕ) (last : ℕ)
    → StepOk a arity last (check_records cls arity rs) → arity ≤ length heads → arity ≤ length bits
    → fill_step head_of a heads (fill head_of cls rs) ≡ H → fill_step bits_of a bits (fill bits_of cls rs) ≡ B
    → FillingStep a cls arity rs heads bits H B
filling-by NonHead cls arity rs heads bits H B last s h i p q = (p, q)
filling-by Prologue cls arity rs heads bits H B last s h i p q =
    record { last = last; passed = s; heads-room = h; bits-room = i; heads-give = p; bits-give = q }
filling-by ArglessHead cls arity rs heads bits H B last s h i p q =
    record { last = last; passed = s; heads-room = h; bits-room = i; heads-give = p; bits-give = q }
filling-by (ArgedHead reg key) cls arity rs heads bits H B last s h i p q = (
  s.1,
  s.3,
  record {
    last = reg;
    passed = s.4;
    heads-room = omega (arith, length-set heads (reg - 1) (head_of key));
    bits-room = omega (arith, length-set bits (reg - 1) (bits_of key));
    heads-give = p;
    bits-give = q;
  },
)

pub filling_step : {cls : ℕ → ℕ} {arity : ℕ} {ls : List Rec} {heads bits H B : List ℕ} (r : Rec) (rs : List Rec) (a : InstructionArg)
    → Filling cls arity ls heads bits H B → ls ≡ r ∷ rs → a ≡ instruction_arg cls r → FillingStep a cls arity rs heads bits H B
unfolding fill
filling_step {cls} {arity} {ls} {heads} {bits} {H} {B} r rs a f e q =
    subst (λ (x : InstructionArg). FillingStep x cls arity rs heads bits H B) (sym q)
    (filling-by (instruction_arg cls r) cls arity rs heads bits H B f.last
    (records-step cls arity r rs f.last (ap (λ (l : List Rec). check_records cls arity l f.last) (sym e) ∙ f.passed))
    f.heads-room f.bits-room
    (ap (λ (l : List Rec). fill head_of cls l heads) (sym e) ∙ f.heads-give) (ap (λ (l : List Rec). fill bits_of cls l bits) (sym e) ∙ f.bits-give))

-- lists that are equal to those that were stored
pub filling-as : {cls : ℕ → ℕ} {arity : ℕ} {rs : List Rec} {heads bits H B : List ℕ} (heads' bits' : List ℕ) → heads' ≡ heads → bits' ≡ bits
    → Filling cls arity rs heads bits H B → Filling cls arity rs heads' bits' H B
filling-as {cls} {arity} {rs} {heads} {bits} {H} {B} heads' bits' e k f =
    subst (λ (x : List ℕ). Filling cls arity rs x bits' H B) (sym e) (subst (λ (y : List ℕ). Filling cls arity rs heads y H B) (sym k) f)
