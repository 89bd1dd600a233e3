-- The first clause that agrees with a call is a witness.
-- Assumes nothing.
use Rattle.std.specs.List.{filter, find, list_all, range_with_len}
use Rattle.std.proofs.lemmas.List.{get_or_default}
use Prim.Native.Nat.{ℕ, zero, suc, ◌+◌, ◌≤◌, ◌<◌}
use mathlib.Core.Path.{◌≡◌, refl, sym, ap, ◌∙◌}
use mathlib.Core.Bool.{Bool, true, false, cond, ◌&&◌}
use mathlib.Core.List.{List, [], ◌∷◌}
use native.Mathlib.Numerals.{add-one}
use native.Mathlib.Omega.{arith}
use lib.ListN.{length, get_or, length-map, get_or-map}
use borrow.Author.Tests.{eq-eqb}
use Rattle.indexing_iter.specs.declared.Settings.{Settings}
use Rattle.indexing_iter.specs.declared.refusal.Refusal.{Refusal}
use Rattle.indexing_iter.specs.Refusals.{passed}
use Rattle.std.specs.Prelude.{Option, Some, Ok, Err}
use Rattle.indexing_iter.specs.Clauses.{known, offsets_of}
use Rattle.indexing_iter.specs.Checks.{check_code}
use Rattle.indexing_iter.proofs.CheckLaws.{start-known, code-offset, code-size}
use Rattle.indexing.specs.Build.{Program}
use Rattle.indexing_scan.specs.Agree.{Call, agree_at, agree_from}
use Rattle.indexing_scan.specs.Calls.{check_call, witness_checks, agreeing}
use Rattle.indexing_scan.specs.Witness.{IsWitness, Witnesses, first_of}

-- ---- a clause, argument by argument

pub all-agree : (P : Program) (Q : Call) (o : ℕ) (n a : ℕ) → list_all (λ b. agree_at (Q b) (P.key_of o b)) (range_with_len a n) ≡ agree_from P Q n a o
all-agree P Q o zero a = refl
all-agree P Q o (suc n) a = rw (← add-one a) (ap (λ (b : Bool). agree_at (Q a) (P.key_of o a) && b) (all-agree P Q o n (a + 1)))

-- ---- the first of the clauses

-- the first that passes a test is the first of those that do
pub find-first : (t : ℕ → Bool) (os : List ℕ) → find t os ≡ first_of (filter t os)
find-first t [] = refl
find-first t (o ∷ os) = go (t o) (find-first t os)
  where
    go : (b : Bool) → find t os ≡ first_of (filter t os) → cond b (Some o) (find t os) ≡ first_of (cond b (o ∷ filter t os) (filter t os))
    go true e = refl
    go false e = e

pub first-witness : (os : List ℕ) → IsWitness os (first_of os)
first-witness [] = refl
first-witness (o ∷ os) = rw (eq-eqb o o refl) refl

-- ---- the answer

found_as : (os : List ℕ) (o : Option ℕ) → o ≡ first_of os → Witnesses passed os (Ok o)
found_as os o e = (o, refl, rw e (first-witness os))

-- ---- the offset of a clause

pub clause-offset : (cls : ℕ → ℕ) (arity : ℕ) (code starts : List ℕ) (i : ℕ) → check_code cls arity code starts ≡ passed → i < length starts
    → (known starts (get_or starts i 0 + 1) ≡ true) × (get_or starts i 0 + 1 ≤ 32768)
clause-offset cls arity code starts i e h =
    let k : known starts (suc (get_or starts i 0)) ≡ true = start-known starts i h in
    let r = code-offset cls arity code starts (suc (get_or starts i 0)) e k in
    (rw (add-one (get_or starts i 0)) k, omega (arith, r.1, (code-size cls arity code starts e).1))

module _ (cls : ℕ → ℕ) (arity : ℕ) (code starts : List ℕ) (passes : check_code cls arity code starts ≡ passed) (k x : ℕ) where
  -- a start by its place
  pub start-at : k < length starts → x ≡ get_or starts k x → x + 1 ≤ 32768
  start-at h e = omega (arith, e, get_or_default starts k x 0 h, (clause-offset cls arity code starts k passes h).1)

  -- an offset by its place
  pub offset-at : k < length (offsets_of starts) → x ≡ get_or (offsets_of starts) k x → known starts x ≡ true
  offset-at h e =
      let l : k < length starts = omega (arith, h, length-map starts suc) in
      let q : x ≡ get_or starts k 0 + 1 = e ∙ get_or_default (offsets_of starts) k x 1 h ∙ get_or-map suc starts k 0 ∙ sym (add-one (get_or starts k 0)) in
      rw q (clause-offset cls arity code starts k passes l).0

-- ---- the checks one after the other

module _ (cls : ℕ → ℕ) (code starts : List ℕ) (S : Settings) (call : List ℕ) where
  pub refused-first : (e : Refusal) → check_code cls S.arity code starts ≡ Err e
      → Witnesses (witness_checks cls code starts S call) (agreeing cls code starts S call) (Err e)
  unfolding witness_checks
  refused-first e f = rw f refl

  module _ (first : check_code cls S.arity code starts ≡ passed) where
    pub refused-next : (e : Refusal) → check_call S.arity call ≡ Err e
        → Witnesses (witness_checks cls code starts S call) (agreeing cls code starts S call) (Err e)
    unfolding witness_checks
    refused-next e f = rw (first, f) refl

    pub found_first : (o : Option ℕ) → check_call S.arity call ≡ passed → o ≡ first_of (agreeing cls code starts S call)
        → Witnesses (witness_checks cls code starts S call) (agreeing cls code starts S call) (Ok o)
    unfolding witness_checks
    found_first o e f = rw (first, e) (found_as (agreeing cls code starts S call) o f)
