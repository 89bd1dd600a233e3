-- A line that is not stored, narrowed at one argument: the clauses of the call key's group, or those with an equal key, are the
-- bucket that section 5 chooses in the switch on that argument.
-- Assumes nothing.
use mathlib.Core.Path.{◌≡◌, refl, sym, ap, ap₂, ◌∙◌, subst}
use mathlib.Core.Bool.{Bool, true, false, cond, ◌||◌}
use mathlib.Core.List.{List, [], ◌∷◌, ◌++◌}
use mathlib.Core.Option.{none, some}
use Prim.Native.Nat.{ℕ, zero, suc, ◌+◌, ◌-◌, ◌≤◌, ◌<◌}
use native.Mathlib.Omega.{arith}
use Rattle.std.specs.List.{list_all, list_any}
use Rattle.std.proofs.lemmas.Bool.{and_parts}
use lib.ListN.{length, take, drop, get_or, length-append, length-drop}
use lib.Seq.{length-take-le}
use Rattle.std.proofs.lemmas.List.{take-append-le}
use native.Mathlib.Numerals.{add-one}
use Rattle.indexing_iter.specs.declared.OptArgIndexKey.{OptArgIndexKey as Key}
use Rattle.indexing_iter.specs.Clauses.{known}
use Rattle.indexing_iter.specs.Keys.{is_open}
use Rattle.indexing.specs.Lines.{dead}
use Rattle.indexing.specs.Build.{Program, single, open_at, new_table, virtual}
use Rattle.indexing_scan.specs.Agree.{Call}
use Rattle.indexing_scan.specs.Cases.{ending_of}
use Rattle.indexing_scan.specs.declared.case.Case.{Case as Ending}
use Rattle.indexing_scan.specs.declared.case.Case.TheVariants.{Fail, External, Sequence}
use Rattle.indexing_scan.specs.ByArgument.{act, move_on, move, answer_from}
use Rattle.indexing_scan.specs.Walk.{Step, choose, Move, skip, stop, pass, unstored, sequence, Answer, look, enter}
use Rattle.indexing_scan.specs.Walk.{follow_new, demand}
use Rattle.indexing_scan.specs.Unstored.{step_number, move_of, count_of, held_by, Held, like_to, all_same, any_open, entered_by, empty_by, finished_by}
use Rattle.indexing_scan.specs.declared.unstored.Step.TheVariants.{Only, Equal}
use Rattle.indexing_scan.specs.declared.unstored.Narrowed.{Narrowed}
use Rattle.indexing_scan.specs.declared.unstored.Narrowed.TheVariants.{NoTable, Passed, Failed, Single, Bucket}
use Rattle.indexing_scan.proofs.GroupLaws.{choice-empty, choice-one, choice-equal, choice-none}
use Rattle.indexing_scan.proofs.HeldLaws.{Front, front-first, entered-move, empty-move}

-- ---- the four ends of following a switch that is not stored

module _ (P : Program) (a : ℕ) (os : List ℕ) (q : Key) (bound : is_open q ≡ false) where
  pub follow-empty : (n : ℕ) (list : List ℕ) → n ≡ length (like_to P.key_of true a q os) → n ≡ 0
      → move_of (empty_by P.dynamic q) list ≡ follow_new P (choose P q (virtual P a os))
  follow-empty n list e f = empty-move P.dynamic q list ∙ sym (choice-empty P a os q bound (sym e ∙ f))

  pub follow_one : (n : ℕ) (list : List ℕ) → Front (like_to P.key_of true a q os) n list → 0 < n
      → all_same P.key_of a (P.key_of (get_or list 0 0) a) (take n list) ≡ true
      → move_of (entered_by P.dynamic Only n (get_or list 0 0)) list ≡ follow_new P (choose P q (virtual P a os))
  follow_one n list s h e =
      let G : List ℕ = like_to P.key_of true a q os in
      entered-move P.dynamic Only n G list s
      ∙ sym (choice-one P a os q bound (omega (arith, s.count))
      (ap₂ (λ (o : ℕ) (l : List ℕ). all_same P.key_of a (P.key_of o a) l) (sym (front-first G list n s h)) (sym s.front) ∙ e))

  pub follow-equal : (n k : ℕ) (list new : List ℕ) → Front (like_to P.key_of true a q os) n list → 0 < n
      → all_same P.key_of a (P.key_of (get_or list 0 0) a) (take n list) ≡ false
      → Front (like_to P.key_of false a q (take n list)) k new → 0 < k
      → move_of (entered_by P.dynamic Equal k (get_or new 0 0)) new ≡ follow_new P (choose P q (virtual P a os))
  follow-equal n k list new s h e t z =
      let G : List ℕ = like_to P.key_of true a q os in
      let B : like_to P.key_of false a q (take n list) ≡ like_to P.key_of false a q G = ap (like_to P.key_of false a q) s.front in
      entered-move P.dynamic Equal k (like_to P.key_of false a q (take n list)) new t
      ∙ ap (λ (l : List ℕ). enter 5 (single P.dynamic l) l) B
      ∙ sym (choice-equal P a os q bound (omega (arith, s.count))
      (ap₂ (λ (o : ℕ) (l : List ℕ). all_same P.key_of a (P.key_of o a) l) (sym (front-first G list n s h)) (sym s.front) ∙ e)
      (omega (arith, t.count, ap length B)))

  pub follow-none : (n k : ℕ) (list : List ℕ) → Front (like_to P.key_of true a q os) n list → 0 < n
      → all_same P.key_of a (P.key_of (get_or list 0 0) a) (take n list) ≡ false
      → k ≡ length (like_to P.key_of false a q (take n list)) → k ≡ 0 → stop ≡ follow_new P (choose P q (virtual P a os))
  follow-none n k list s h e f z =
      let G : List ℕ = like_to P.key_of true a q os in
      sym (choice-none P a os q bound (omega (arith, s.count))
      (ap₂ (λ (o : ℕ) (l : List ℕ). all_same P.key_of a (P.key_of o a) l) (sym (front-first G list n s h)) (sym s.front) ∙ e)
      (sym (ap (λ (l : List ℕ). length (like_to P.key_of false a q l)) s.front) ∙ sym f ∙ z))

-- ---- the move at an argument

module _ (P : Program) (a : ℕ) (q : Key) (os : List ℕ) where
  -- what is done where a clause is open, and where none is
  by-open : {X : Type 0} (f : List ℕ → X) (x y : X) → f [] ≡ y → ((o : ℕ) (l : List ℕ) → f (o ∷ l) ≡ x) → f (open_at P a os) ≡ cond (any_open P.key_of a os) x y
  unfolding any_open
  by-open {X} f x y e g = go os
    where
      go : (l : List ℕ) → f (open_at P a l) ≡ cond (list_any (λ o. is_open (P.key_of o a)) l) x y
      go [] = e
      go (o ∷ l) = one (is_open (P.key_of o a)) (go l)
        where
          one : (b : Bool) → f (open_at P a l) ≡ cond (list_any (λ o. is_open (P.key_of o a)) l) x y
              → f (cond b (o ∷ open_at P a l) (open_at P a l)) ≡ cond (b || list_any (λ o. is_open (P.key_of o a)) l) x y
          one true ih = g o (open_at P a l)
          one false ih = ih

  demand-is : demand P a q os (open_at P a os) ≡ cond (any_open P.key_of a os) (pass 2) (follow_new P (choose P q (virtual P a os)))
  demand-is = by-open (demand P a q os) (pass 2) (follow_new P (choose P q (virtual P a os))) refl (λ o l. refl)

  -- by the table for the argument: none if masked; dead or none if a clause is open; else on demand
  move-is : move P [] (unstored os) a q
      ≡ cond (P.masked a) skip
      (cond (any_open P.key_of a os) (cond P.extensible (cond (is_open q) (pass 1) (pass 2)) skip)
      (cond (is_open q) (pass 1) (follow_new P (choose P q (virtual P a os)))))
  unfolding move
  move-is = go (P.masked a)
    where
      opened : (b : Bool) (o : ℕ) (l : List ℕ)
          → move_on P [] (unstored os) a q (cond b (some (dead a (o ∷ l))) none) ≡ cond b (cond (is_open q) (pass 1) (pass 2)) skip
      opened true o l = refl
      opened false o l = refl

      -- where no clause is open the table is on demand, and is a switch
      closed : (t : Bool) (x : Move) → any_open P.key_of a os ≡ t
          → cond t x (cond (is_open q) (pass 1) (demand P a q os (open_at P a os)))
          ≡ cond t x (cond (is_open q) (pass 1) (follow_new P (choose P q (virtual P a os))))
      closed true x e = refl
      closed false x e = ap (cond (is_open q) (pass 1)) (demand-is ∙ rw e refl)

      dead-or-none : Move
      dead-or-none = cond P.extensible (cond (is_open q) (pass 1) (pass 2)) skip

      go : (b : Bool)
          → move_on P [] (unstored os) a q (cond b none (new_table P a (open_at P a os)))
          ≡ cond b skip
          (cond (any_open P.key_of a os) (cond P.extensible (cond (is_open q) (pass 1) (pass 2)) skip)
          (cond (is_open q) (pass 1) (follow_new P (choose P q (virtual P a os)))))
      go true = refl
      go false =
          by-open (λ l. move_on P [] (unstored os) a q (new_table P a l)) dead-or-none (cond (is_open q) (pass 1) (demand P a q os (open_at P a os)))
          refl (opened P.extensible)
          ∙ closed (any_open P.key_of a os) dead-or-none refl

  -- the same by what was learnt: t whether a clause is open
  module _ (t : Bool) (opens : t ≡ any_open P.key_of a os) where
    pub demand-dead : t ≡ true → pass 2 ≡ demand P a q os (open_at P a os)
    demand-dead e = sym (demand-is ∙ rw (← opens, e) refl)

    pub demand-switch : (m : Move) → t ≡ false → m ≡ follow_new P (choose P q (virtual P a os)) → m ≡ demand P a q os (open_at P a os)
    demand-switch m e f = f ∙ sym (demand-is ∙ rw (← opens, e) refl)

  pub move-masked : P.masked a ≡ true → skip ≡ move P [] (unstored os) a q
  move-masked e = sym (move-is ∙ rw e refl)

-- the argument is not masked, and t whether a clause is open
pub record Unmasked (P : Program) (a : ℕ) (os : List ℕ) (t : Bool) : Type 0 where
  pub is : P.masked a ≡ false
  pub opens : t ≡ any_open P.key_of a os

-- and u whether the call is unbound there
module _ {P : Program} {a : ℕ} {os : List ℕ} {t : Bool} (x : Unmasked P a os t) (q : Key) where
  pub move-none : t ≡ true → P.extensible ≡ false → skip ≡ move P [] (unstored os) a q
  move-none e f = sym (move-is P a q os ∙ rw (x.is, ← x.opens, e, f) refl)

  module _ (u : Bool) (unbound : u ≡ is_open q) where
    pub move-dead : t ≡ true → P.extensible ≡ true → u ≡ false → pass 2 ≡ move P [] (unstored os) a q
    move-dead e f g = sym (move-is P a q os ∙ rw (x.is, ← x.opens, e, f, ← unbound, g) refl)

    pub move-over : t ≡ true → P.extensible ≡ true → u ≡ true → pass 1 ≡ move P [] (unstored os) a q
    move-over e f g = sym (move-is P a q os ∙ rw (x.is, ← x.opens, e, f, ← unbound, g) refl)

    pub move-unbound : t ≡ false → u ≡ true → pass 1 ≡ move P [] (unstored os) a q
    move-unbound e f = sym (move-is P a q os ∙ rw (x.is, ← x.opens, e, ← unbound, f) refl)

    pub move-switch : (m : Move) → t ≡ false → u ≡ false → m ≡ follow_new P (choose P q (virtual P a os)) → m ≡ move P [] (unstored os) a q
    move-switch m e f g = g ∙ sym (move-is P a q os ∙ rw (x.is, ← x.opens, e, ← unbound, f) refl)

-- the first clause of a front
pub known-first : (p : ℕ → Bool) (n : ℕ) (list : List ℕ) → list_all p (take n list) ≡ true → 0 < n → n ≤ length list → p (get_or list 0 0) ≡ true
known-first p n [] e h k = absurd (omega arith)
known-first p zero (x ∷ list) e h k = absurd (omega arith)
known-first p (suc n) (x ∷ list) e h k = (and_parts (p x) (list_all p (take n list)) e).0

-- ---- the answer, argument by argument

-- an answer, after n tables were looked at, is that of what is left
pub record Goes (A : Answer) (n : ℕ) (S : Answer) : Type 0 where
  pub kind : A.kind ≡ S.kind
  pub offsets : A.offsets ≡ S.offsets
  pub path : length A.path ≡ n + length S.path

goes-look : (A : Answer) (n : ℕ) (s : Step) (S : Answer) → Goes A n (look s S) → Goes A (n + 1) S
goes-look A n s S g = record { kind = g.kind; offsets = g.offsets; path = omega (arith, g.path) }

pub goes-start : (A : Answer) → Goes A 0 A
goes-start A = record { kind = refl; offsets = refl; path = omega arith }

finished-ext : (A : Answer) (x : Ending) (y z : ℕ) → ending_of A.kind ≡ x → length A.offsets ≡ y → length A.path ≡ z
    → record { case = x; count = y; tables = z } ≡ finished_by A
finished-ext A x y z e f g = λ i. record { case = sym e i; count = sym f i; tables = sym g i }

module _ (P : Program) (Q : Call) where
  -- the answer at the arguments from b on
  pub answer_at : ℕ → List ℕ → Answer
  answer_at b os = answer_from P Q (P.arity + 1 - b) b [] (unstored os)

  answer-step : (b : ℕ) (os : List ℕ) → b ≤ P.arity
      → answer_at b os ≡ act (λ r. r) look b (unstored os) (move P [] (unstored os) b (Q b)) (λ p. answer_from P Q (P.arity + 1 - (b + 1)) (b + 1) [] p)
  unfolding answer_at answer_from
  answer-step b os h =
      let n : P.arity + 1 - b ≡ suc (P.arity + 1 - (b + 1)) = omega arith in
      rw (add-one b) (ap (λ (x : ℕ). answer_from P Q x b [] (unstored os)) (rw (add-one b) at n))

  -- what an answer is after one argument
  abbrev pub Stepped : Answer → ℕ → ℕ → ℕ → List ℕ → Narrowed → Type 0
  Stepped A n b m list NoTable = Goes A n (answer_at (b + 1) (take m list))
  Stepped A n b m list (Passed h) = Goes A (n + 1) (answer_at (b + 1) (take m list))
  Stepped A n b m list Failed = (record { case = Fail; count = 0; tables = n + 1 } ≡ finished_by A) × (take 0 list ≡ A.offsets)
  Stepped A n b m list (Single h o) = (record { case = External; count = 1; tables = n + 1 } ≡ finished_by A) × (take 1 list ≡ A.offsets)
  Stepped A n b m list (Bucket h k) = Goes A (n + 1) (answer_at (b + 1) (take k list))

  stepped : (A : Answer) (n b m : ℕ) (os list : List ℕ) (r : Narrowed) → take (count_of m r) list ≡ held_by r os list
      → Goes A n (act (λ r. r) look b (unstored os) (move_of r list) (λ p. answer_from P Q (P.arity + 1 - (b + 1)) (b + 1) [] p))
      → Stepped A n b m list r
  unfolding answer_at
  stepped A n b m os list NoTable e g = rw e g
  stepped A n b m os list (Passed h) e g =
      rw e (goes-look A n (record { did = step_number h; arg = b }) (answer_from P Q (P.arity + 1 - (b + 1)) (b + 1) [] (unstored os)) g)
  stepped A n b m os list Failed e g =
      (finished-ext A Fail 0 (n + 1) (ap ending_of g.kind) (ap length g.offsets) g.path, sym g.offsets)
  stepped A n b m os list (Single h o) e g =
      (finished-ext A External 1 (n + 1) (ap ending_of g.kind) (ap length g.offsets) g.path, e ∙ sym g.offsets)
  stepped A n b m os list (Bucket h k) e g =
      goes-look A n (record { did = step_number h; arg = b }) (answer_from P Q (P.arity + 1 - (b + 1)) (b + 1) [] (unstored (take k list))) g

  pub goes_step : (starts : List ℕ) (A : Answer) (n b m : ℕ) (list new : List ℕ) (q : Key) (r : Narrowed) → m ≤ length list
      → Goes A n (answer_at b (take m list)) → b ≤ P.arity → q ≡ Q b → move_of r new ≡ move P [] (unstored (take m list)) b q
      → Held starts (take m list) new r → Stepped A n b m new r
  goes_step starts A n b m list new q r k g h e f s =
      let os : List ℕ = take m list in
      stepped A n b m os new r (ap (λ (x : ℕ). take (count_of x r) new) (sym (length-take-le m list k)) ∙ s.front)
      (subst (λ (S : Answer). Goes A n S)
      (answer-step b os h
      ∙ ap (λ (v : Move). act (λ r. r) look b (unstored os) v (λ p. answer_from P Q (P.arity + 1 - (b + 1)) (b + 1) [] p))
      (ap (move P [] (unstored os) b) (sym e) ∙ sym f)) g)

  -- no argument is left
  pub goes_end : (A : Answer) (n b m : ℕ) (list : List ℕ) → Goes A n (answer_at b (take m list)) → P.arity < b → m ≤ length list
      → (record { case = Sequence; count = m; tables = n } ≡ finished_by A) × (take m list ≡ A.offsets)
  unfolding answer_at answer_from
  goes_end A n b m list g h k =
      let z : P.arity + 1 - b ≡ 0 = omega arith in
      let e : answer_from P Q (P.arity + 1 - b) b [] (unstored (take m list)) ≡ record { kind = sequence; offsets = take m list; path = [] } =
      ap (λ (x : ℕ). answer_from P Q x b [] (unstored (take m list))) z in
      let s = subst (λ (S : Answer). Goes A n S) e g in
      (finished-ext A Sequence m n (ap ending_of s.kind) (ap length s.offsets ∙ length-take-le m list k) (s.path ∙ omega arith), sym s.offsets)

  pub goes_first : (a : ℕ) (os : List ℕ) → Goes (answer_from P Q (P.arity + 1 - a) a [] (unstored os)) 0 (answer_at a os)
  unfolding answer_at
  goes_first a os = goes-start (answer_from P Q (P.arity + 1 - a) a [] (unstored os))

-- the answer A from argument a on in a line of m clauses, worked out up to argument b: the clauses left stand at the front of a list as long as before
pub record Finishing (P : Program) (Q : Call) (starts : List ℕ) (A : Answer) (a m : ℕ) (list : List ℕ) (count tables b : ℕ) : Type 0 where
  pub goes : Goes A tables (answer_at P Q b (take count list))
  pub first : 1 ≤ b
  pub last : b ≤ P.arity + 1
  pub few : tables + a ≤ b
  pub fits : count ≤ length list
  pub same : length list ≡ m
  pub offsets : list_all (known starts) (take count list) ≡ true
  pub small : P.arity ≤ 32

-- what stands in the first m clauses of the list after an answer: no more than m, each with a known offset
pub held-front : (starts : List ℕ) (m : ℕ) (list new : List ℕ) (r : Narrowed) → m ≤ length list → Held starts (take m list) new r
    → (count_of m r ≤ m) × (list_all (known starts) (take (count_of m r) new) ≡ true)
held-front starts m list new r k s =
    let n : length (take m list) ≡ m = length-take-le m list k in
    (subst (λ (x : ℕ). count_of x r ≤ x) n s.within, subst (λ (x : ℕ). list_all (known starts) (take (count_of x r) new) ≡ true) n s.offsets)

-- after one argument more, the clauses at the front being new
pub finishing-next : {P : Program} {Q : Call} {starts : List ℕ} {A : Answer} {a m : ℕ} {list : List ℕ} {count tables b : ℕ}
    → Finishing P Q starts A a m list count tables b → b ≤ P.arity → (new : List ℕ) → length new ≡ count → (k n : ℕ)
    → Goes A n (answer_at P Q (b + 1) (take k new)) → k ≤ count → n ≤ tables + 1 → list_all (known starts) (take k new) ≡ true
    → Finishing P Q starts A a m (new ++ drop count list) k n (b + 1)
finishing-next {P} {Q} {starts} {A} {a} {m} {list} {count} {tables} {b} s h new e k n g x y o =
    let long : length (new ++ drop count list) ≡ length list = omega (arith, s.fits, length-append new (drop count list), length-drop count list) in
    let front : take k new ≡ take k (new ++ drop count list) = sym (take-append-le k new (drop count list) (omega arith)) in
    record {
      goes = subst (λ (l : List ℕ). Goes A n (answer_at P Q (b + 1) l)) front g;
      first = omega arith;
      last = omega arith;
      few = omega (arith, s.few);
      fits = omega (arith, s.fits);
      same = long ∙ s.same;
      offsets = subst (λ (l : List ℕ). list_all (known starts) l ≡ true) front o;
      small = s.small;
    }
