-- The checks in the order in which `locate` makes them, and what is told of the first that refuses.
-- Every law holds for any class function. Assumes nothing.
use Prim.Native.Nat.{ℕ, ◌/◌, ◌%◌, ◌≤◌, ◌<◌}
use mathlib.Core.Path.{◌≡◌, refl, ◌∙◌, subst}
use mathlib.Core.Bool.{Bool, true, false, cond, not, ◌&&◌, ◌||◌}
use mathlib.Core.List.{List, [], ◌∷◌}
use native.Mathlib.Omega.{arith}
use borrow.Author.Tests.{lt-ltb, le-ltb, ne_eqb, eqb-true}
use lib.Dec.{eqb, leb, ltb}
use lib.ListN.{length}
use Rattle.records.specs.declared.Rec.{Rec}
use Rattle.records.specs.Records.{records_of}
use Rattle.indexing_iter.specs.Refusals.{Checked, passed, refusal_number}
use Rattle.std.specs.Prelude.{Ok, Err, Some, None}
use Rattle.indexing_iter.specs.declared.refusal.Refusal.{Refusal}
use Rattle.indexing_iter.specs.declared.refusal.Refusal.TheVariants.{Arity, ChosenArgument, CodeSize, Starts}
use Rattle.indexing_iter.specs.declared.Fault.{Fault}
use Rattle.indexing_iter.specs.Clauses.{clauses_of}
use Rattle.indexing_iter.specs.Checks.{otherwise, rising_below, check_clause, check_clauses, open_somewhere, check_arity, check_chosen, check_size, check_starts, check_keyed, check_clauses_of, check_code, check_build}
use Rattle.indexing_iter.specs.Faults.{refused_at, open_at, bare, fault_in, check_with, fault_of}
use Rattle.indexing_iter.proofs.CheckLaws.{passed-both, arity-passed, chosen-passed, rising-passed}
use Rattle.indexing_iter.proofs.Numbers.{Within, within-cond, within-otherwise, within-refuse, clause-number}
use Rattle.indexing_iter.specs.Places.{at_clause}
use Rattle.locate.specs.Inner.{check_chosen_with, check_front, check_back}

-- ---- which numbers there are

pub front-number : (arity c : ℕ) (code starts : List ℕ) → Within 1 4 (check_front arity c code starts)
front-number arity c code starts =
    within-otherwise 1 4 (check_chosen_with arity c) (otherwise (check_size code) (check_starts (length code / 16) starts))
    (within-otherwise 1 4 (check_arity arity) (cond (eqb c 0) passed (check_chosen arity c)) (within-refuse 1 4 (not (leb 1 arity && leb arity 32)) Arity (omega arith, omega arith))
    (within-cond 1 4 (eqb c 0) passed (check_chosen arity c) tt (within-refuse 1 4 (eqb c 0 || ltb arity c) ChosenArgument (omega arith, omega arith))))
    (within-otherwise 1 4 (check_size code) (check_starts (length code / 16) starts) (within-refuse 1 4 (not (eqb (length code % 16) 0) || ltb 32768 (length code / 16)) CodeSize (omega arith, omega arith)) (within-refuse 1 4 (not (leb 1 (length starts) && (leb (length starts) 1024 && rising_below (length code / 16) starts))) Starts (omega arith, omega arith)))

-- what the checks before the clauses' tell
pub front-passed : (arity c : ℕ) (code starts : List ℕ) → check_front arity c code starts ≡ passed → (c ≤ 32) × (rising_below (length (records_of code)) starts ≡ true)
front-passed arity c code starts e =
    let both = passed-both (check_chosen_with arity c) (otherwise (check_size code) (check_starts (length code / 16) starts)) e in
    let first = passed-both (check_arity arity) (cond (eqb c 0) passed (check_chosen arity c)) both.0 in
    let later = passed-both (check_size code) (check_starts (length code / 16) starts) both.1 in
    (go (eqb c 0) refl first.1 (arity-passed arity first.0).1, rising-passed code starts later.1)
  where
    go : (t : Bool) → eqb c 0 ≡ t → cond t passed (check_chosen arity c) ≡ passed → arity ≤ 32 → c ≤ 32
    go true q f h = omega (arith, eqb-true c 0 q)
    go false q f h = omega (arith, (chosen-passed arity c f).1)

-- ---- the checks in the order in which they are made

code-order : (a s t k : Checked) → otherwise a (otherwise s (otherwise t k)) ≡ otherwise (otherwise (otherwise a passed) (otherwise s t)) (otherwise k passed)
code-order (Err n) s t k = refl
code-order (Ok u) (Err n) t k = refl
code-order (Ok u) (Ok v) (Err n) k = refl
code-order (Ok u) (Ok v) (Ok w) (Err n) = refl
code-order (Ok u) (Ok v) (Ok w) (Ok x) = refl

build-order : (a b s t k e : Checked)
    → otherwise a (otherwise b (otherwise (otherwise s (otherwise t k)) e)) ≡ otherwise (otherwise (otherwise a b) (otherwise s t)) (otherwise k e)
build-order (Err n) b s t k e = refl
build-order (Ok u) (Err n) s t k e = refl
build-order (Ok u) (Ok v) (Err n) t k e = refl
build-order (Ok u) (Ok v) (Ok w) (Err n) k e = refl
build-order (Ok u) (Ok v) (Ok w) (Ok x) (Err n) e = refl
build-order (Ok u) (Ok v) (Ok w) (Ok x) (Ok y) e = refl

pub in_order : (cls : ℕ → ℕ) (arity c : ℕ) (code starts : List ℕ)
    → check_with cls arity c code starts ≡ otherwise (check_front arity c code starts) (check_back cls arity c (clauses_of (records_of code) starts))
unfolding check_code check_build check_clauses_of
in_order cls arity c code starts = go (eqb c 0)
  where
    go : (t : Bool)
        → cond t (check_code cls arity code starts) (check_build cls arity c code starts)
        ≡ otherwise (otherwise (otherwise (check_arity arity) (cond t passed (check_chosen arity c))) (otherwise (check_size code) (check_starts (length code / 16) starts)))
        (otherwise (check_clauses cls arity (clauses_of (records_of code) starts)) (cond t passed (check_keyed cls c (clauses_of (records_of code) starts))))
    go true = code-order (check_arity arity) (check_size code) (check_starts (length code / 16) starts) (check_clauses cls arity (clauses_of (records_of code) starts))
    go false =
        build-order (check_arity arity) (check_chosen arity c) (check_size code) (check_starts (length code / 16) starts) (check_clauses cls arity (clauses_of (records_of code) starts))
        (check_keyed cls c (clauses_of (records_of code) starts))

pub told-front : (cls : ℕ → ℕ) (arity c : ℕ) (code starts : List ℕ) (e : Refusal) → check_front arity c code starts ≡ Err e
    → Some (bare e) ≡ fault_of cls arity c code starts
unfolding fault_of
told-front cls arity c code starts e f =
    let w : Within 1 4 (Err e) = subst (Within 1 4) f (front-number arity c code starts) in
    let small : refusal_number e < 5 = omega (arith, w) in
    rw (in_order cls arity c code starts, f, lt-ltb (refusal_number e) 5 small) refl

pub told_back : (cls : ℕ → ℕ) (arity c : ℕ) (code starts : List ℕ) → check_front arity c code starts ≡ passed
    → fault_in cls arity c (records_of code) starts (check_back cls arity c (clauses_of (records_of code) starts)) ≡ fault_of cls arity c code starts
unfolding fault_of
told_back cls arity c code starts e = rw (in_order cls arity c code starts, e) refl

-- ---- 5 to 7, clause by clause

clauses-number : (cls : ℕ → ℕ) (arity : ℕ) (cs : List (List Rec)) → Within 5 7 (check_clauses cls arity cs)
unfolding check_clauses
clauses-number cls arity [] = tt
clauses-number cls arity (rs ∷ cs) = within-otherwise 5 7 (check_clause cls arity rs) (check_clauses cls arity cs) (clause-number cls arity rs) (clauses-number cls arity cs)

-- ---- 5 to 8 of the clauses

module _ (cls : ℕ → ℕ) (arity c : ℕ) (rs : List Rec) (starts : List ℕ) where
  abbrev all : List (List Rec)
  all = clauses_of rs starts

  -- the clause first refused decides
  pub back-refused : (f : Fault) → Some f ≡ at_clause cls arity rs starts (refused_at cls arity all) (check_clauses cls arity all)
      → Some f ≡ fault_in cls arity c rs starts (check_back cls arity c all)
  back-refused f e = go (check_clauses cls arity all) refl e
    where
      go : (x : Checked) → check_clauses cls arity all ≡ x → Some f ≡ at_clause cls arity rs starts (refused_at cls arity all) x
          → Some f ≡ fault_in cls arity c rs starts (check_back cls arity c all)
      go (Ok u) q g = (cc)
      go (Err r) q g =
          let w : Within 5 7 (Err r) = subst (Within 5 7) q (clauses-number cls arity all) in
          let large : 5 ≤ refusal_number r = w.0 in
          let other : refusal_number r ≡ 8 → ⊥ = λ z. omega (arith, w) in
          g ∙ rw (q, le-ltb (refusal_number r) 5 large, ne_eqb (refusal_number r) 8 other) refl

  -- no clause is refused, and there is no c
  pub back_none : None ≡ at_clause cls arity rs starts (refused_at cls arity all) (check_clauses cls arity all) → eqb c 0 ≡ true
      → None ≡ fault_in cls arity c rs starts (check_back cls arity c all)
  back_none e z = go (check_clauses cls arity all) refl e
    where
      go : (x : Checked) → check_clauses cls arity all ≡ x → None ≡ at_clause cls arity rs starts (refused_at cls arity all) x
          → None ≡ fault_in cls arity c rs starts (check_back cls arity c all)
      go (Ok u) q g = rw (q, z) refl
      go (Err r) q g = (cc)

  -- no clause is refused: the first that is open at c decides
  pub back-open : None ≡ at_clause cls arity rs starts (refused_at cls arity all) (check_clauses cls arity all) → eqb c 0 ≡ false
      → at_clause cls arity rs starts (open_at cls c all) (check_keyed cls c all) ≡ fault_in cls arity c rs starts (check_back cls arity c all)
  back-open e z = go (check_clauses cls arity all) refl (open_somewhere cls c all) refl e
    where
      go : (x : Checked) → check_clauses cls arity all ≡ x → (o : Bool) → open_somewhere cls c all ≡ o
          → None ≡ at_clause cls arity rs starts (refused_at cls arity all) x
          → at_clause cls arity rs starts (open_at cls c all) (check_keyed cls c all) ≡ fault_in cls arity c rs starts (check_back cls arity c all)
      go (Ok u) q true o g = rw (q, z, o) refl
      go (Ok u) q false o g = rw (q, z, o) refl
      go (Err r) q o p g = (cc)
