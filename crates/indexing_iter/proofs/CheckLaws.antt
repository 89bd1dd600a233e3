-- Steps along the starts and the records, and what passed checks tell at each place.
-- Assumes nothing.
use Prim.Native.Nat.{ℕ, zero, suc, ◌+◌, ◌*◌, ◌/◌, ◌%◌, ◌<◌, ◌≤◌}
use mathlib.Core.Path.{◌≡◌, refl}
use mathlib.Core.Bool.{Bool, true, false, not, cond, ◌&&◌, ◌||◌}
use mathlib.Core.List.{List, [], ◌∷◌}
use native.Mathlib.Nat.{le_of_suc-le-suc, not-suc-le-zero}
use native.Mathlib.Numerals.{add-one}
use native.Mathlib.Omega.{arith}
use lib.Dec.{leb, eqb, ltb}
use lib.ListN.{length, get_or, drop, drop_of_length-le}
use lib.Seq.{drop-cons, slice}
use borrow.Author.Tests.{leb-true, ltb-true, ltb-false, eqb-true, eqb-false, not-false, eq-eqb}
use Rattle.records.specs.declared.Rec.{Rec}
use Rattle.records.specs.Records.{records_of}
use Rattle.records.proofs.Laws.{length-records_of}
use Rattle.indexing_iter.specs.Refusals.{Checked, passed}
use Rattle.std.specs.Prelude.{Ok, Err}
use Rattle.indexing_iter.specs.declared.refusal.Refusal.{Refusal}
use Rattle.indexing_iter.specs.declared.refusal.Refusal.TheVariants.{Arity, ChosenArgument, CodeSize, Starts, OpenClause}
use Rattle.indexing_iter.specs.Keys.{key_in, is_open}
use Rattle.indexing_iter.specs.Clauses.{end_of, clauses_of, offsets_of, clause_at, key_of, known}
use Rattle.indexing_iter.specs.Checks.{rising_below, otherwise, refuse, check_arity, check_chosen, check_size, check_starts, check_clauses, open_somewhere, check_keyed, check_clauses_of, check_code, check_build}
use Rattle.indexing_iter.proofs.SameKeys.{and_left, and_right, or_left, or_right}

pub drop-step : (s : List ℕ) (i : ℕ) → i < length s → drop i s ≡ get_or s i 0 ∷ drop (i + 1) s
drop-step s i h = rw (add-one i) (drop-cons s i 0 h)

-- a start, and those left after it
pub rising-step : (n x : ℕ) (s : List ℕ) (i : ℕ) → i < length s
    → rising_below n (x ∷ drop i s) ≡ (ltb x (get_or s i 0) && rising_below n (get_or s i 0 ∷ drop (i + 1) s))
unfolding rising_below
rising-step n x s i h = rw (drop-step s i h) refl

pub rising-last : (n x : ℕ) (s : List ℕ) (i : ℕ) → length s ≤ i → rising_below n (x ∷ drop i s) ≡ ltb x n
unfolding rising_below
rising-last n x s i h = rw (drop_of_length-le s h) refl

-- ---- the starts

pub rising-tail : (n x : ℕ) (s : List ℕ) → rising_below n (x ∷ s) ≡ true → rising_below n s ≡ true
unfolding rising_below
rising-tail n x [] e = refl
rising-tail n x (y ∷ s) e = and_right (ltb x y) (rising_below n (y ∷ s)) e

-- a clause starts before it ends
pub rising-head : (n x : ℕ) (s : List ℕ) → rising_below n (x ∷ s) ≡ true → x < end_of n s
unfolding rising_below
rising-head n x [] e = ltb-true x n e
rising-head n x (y ∷ s) e = ltb-true x y (and_left (ltb x y) (rising_below n (y ∷ s)) e)

-- and ends within the code
pub end_below : (n : ℕ) (s : List ℕ) → rising_below n s ≡ true → end_of n s ≤ n
end_below n [] e = omega arith
end_below n (x ∷ s) e = omega (arith, rising-head n x s e, end_below n s (rising-tail n x s e))

pub rising-drop : (n : ℕ) (s : List ℕ) (i : ℕ) → rising_below n s ≡ true → rising_below n (drop i s) ≡ true
rising-drop n [] zero e = e
rising-drop n [] (suc i) e = e
rising-drop n (x ∷ s) zero e = e
rising-drop n (x ∷ s) (suc i) e = rising-drop n s i (rising-tail n x s e)

-- the clause at i starts before it ends
pub start_below : (n : ℕ) (s : List ℕ) (i : ℕ) → rising_below n s ≡ true → i < length s → get_or s i 0 < end_of n (drop (i + 1) s)
start_below n s i e h =
    let rest = rw (drop-step s i h) at (rising-drop n s i e) in
    rising-head n (get_or s i 0) (drop (i + 1) s) rest

-- ---- what a passed check tells

pub passed-both : (a b : Checked) → otherwise a b ≡ passed → (a ≡ passed) × (b ≡ passed)
passed-both (Ok u) b e = (refl, e)
passed-both (Err n) b e = let z : ◌≡◌ {A = ℕ} 0 1 = cc in absurd (omega arith)

-- two checks in one, and then the next
in_turn : (a b k : Checked) → otherwise a (otherwise b k) ≡ otherwise (otherwise a b) k
in_turn (Ok u) b k = refl
in_turn (Err e) b k = refl

passed-test : (met : Bool) (e : Refusal) → refuse met e ≡ passed → met ≡ false
passed-test true x e = let z : ◌≡◌ {A = ℕ} 0 1 = cc in absurd (omega arith)
passed-test false x e = refl

both_true : (a b : Bool) → (a && b) ≡ true → (a ≡ true) × (b ≡ true)
both_true a b e = (and_left a b e, and_right a b e)

none_true : (a b : Bool) → (a || b) ≡ false → (a ≡ false) × (b ≡ false)
none_true a b e = (or_left a b e, or_right a b e)

pub arity-passed : (arity : ℕ) → check_arity arity ≡ passed → (1 ≤ arity) × (arity ≤ 32)
arity-passed arity e =
    let t = both_true (leb 1 arity) (leb arity 32) (not-false _ (passed-test _ Arity e)) in
    (leb-true 1 arity t.0, leb-true arity 32 t.1)

pub chosen-passed : (arity c : ℕ) → check_chosen arity c ≡ passed → (1 ≤ c) × (c ≤ arity)
chosen-passed arity c e =
    let t = none_true (eqb c 0) (ltb arity c) (passed-test _ ChosenArgument e) in
    let z : c ≡ 0 → ⊥ = eqb-false c 0 t.0 in
    (omega arith, ltb-false arity c t.1)

pub size-passed : (code : List ℕ) → check_size code ≡ passed → (length code ≡ 16 * length (records_of code)) × (length (records_of code) ≤ 32768)
size-passed code e =
    let t = none_true (not (eqb (length code % 16) 0)) (ltb 32768 (length code / 16)) (passed-test _ CodeSize e) in
    let whole : length code % 16 ≡ 0 = eqb-true (length code % 16) 0 (not-false _ t.0) in
    let few : length code / 16 ≤ 32768 = ltb-false 32768 (length code / 16) t.1 in
    (omega (arith, length-records_of code), omega (arith, length-records_of code))

-- 4: how many starts there are, and that they rise
starts-passed : (n : ℕ) (starts : List ℕ) → check_starts n starts ≡ passed
    → (1 ≤ length starts) × (length starts ≤ 1024) × (rising_below n starts ≡ true)
starts-passed n starts e =
    let t = both_true (leb 1 (length starts)) (leb (length starts) 1024 && rising_below n starts) (not-false _ (passed-test _ Starts e)) in
    let u = both_true (leb (length starts) 1024) (rising_below n starts) t.1 in
    (leb-true 1 (length starts) t.0, leb-true (length starts) 1024 u.0, u.1)

pub rising-passed : (code starts : List ℕ) → check_starts (length code / 16) starts ≡ passed → rising_below (length (records_of code)) starts ≡ true
rising-passed code starts e = rw (length-records_of code) (starts-passed (length code / 16) starts e).2

-- ---- the clause at a known offset

-- what holds of a, and of b where the offset is known among the later ones, holds of the one that is taken
by-known : {A : Type 0} (P : A → Type 0) (t k : Bool) (a b : A) → (t || k) ≡ true → P a → (k ≡ true → P b) → P (cond t a b)
by-known P true k a b e p q = p
by-known P false k a b e p q = q e

pub keyed-known : (cls : ℕ → ℕ) (rs : List Rec) (s : List ℕ) (o c : ℕ) → open_somewhere cls c (clauses_of rs s) ≡ false → known s o ≡ true
    → is_open (key_of cls rs s o c) ≡ false
unfolding open_somewhere clauses_of clause_at known key_of
keyed-known cls rs [] o c e h = let z : ◌≡◌ {A = ℕ} 0 1 = cc in absurd (omega arith)
keyed-known cls rs (x ∷ s) o c e h =
    let l : List Rec = slice x (end_of (length rs) s) rs in
    let t = none_true (is_open (key_in cls l c)) (open_somewhere cls c (clauses_of rs s)) e in
    by-known (λ m. is_open (key_in cls m c) ≡ false) (eqb (suc x) o) (known s o) l (clause_at rs s o) h t.0 (keyed-known cls rs s o c t.1)

-- ---- the offsets

-- strictly rising, from n on
abbrev pub Rising : ℕ → List ℕ → Type 0
Rising n [] = Unit {0}
Rising n (x ∷ xs) = (n ≤ x) × Rising (suc x) xs

rising-from : (n k : ℕ) (s : List ℕ) → rising_below n s ≡ true → k ≤ end_of n s → Rising (suc k) (offsets_of s)
rising-from n k [] e h = tt
rising-from n k (x ∷ s) e h = (omega arith, rising-from n (suc x) s (rising-tail n x s e) (rising-head n x s e))

pub offsets-rising : (n : ℕ) (s : List ℕ) → rising_below n s ≡ true → Rising 1 (offsets_of s)
offsets-rising n s e = rising-from n 0 s e (omega arith)

pub get_or-offsets : (s : List ℕ) (i : ℕ) → i < length s → get_or (offsets_of s) i 0 ≡ suc (get_or s i 0)
get_or-offsets [] i h = absurd (not-suc-le-zero h)
get_or-offsets (x ∷ s) zero h = refl
get_or-offsets (x ∷ s) (suc i) h = get_or-offsets s i (le_of_suc-le-suc h)

either-right : (a b : Bool) → b ≡ true → (a || b) ≡ true
either-right true b e = refl
either-right false b e = e

pub start-known : (s : List ℕ) (i : ℕ) → i < length s → known s (suc (get_or s i 0)) ≡ true
unfolding known
start-known [] i h = absurd (not-suc-le-zero h)
start-known (x ∷ s) zero h = rw (eq-eqb (suc x) (suc x) refl) refl
start-known (x ∷ s) (suc i) h = either-right (eqb (suc x) (suc (get_or s i 0))) (known s (suc (get_or s i 0))) (start-known s i (le_of_suc-le-suc h))

pub offset-known : (s : List ℕ) (i : ℕ) → i < length s → known s (get_or (offsets_of s) i 0) ≡ true
offset-known s i h = rw (get_or-offsets s i h) (start-known s i h)

-- a known offset is that of a start below n
pub known-range : (n : ℕ) (s : List ℕ) (o : ℕ) → rising_below n s ≡ true → known s o ≡ true → (1 ≤ o) × (o ≤ n)
unfolding known
known-range n [] o e h = let z : ◌≡◌ {A = ℕ} 0 1 = cc in absurd (omega arith)
known-range n (x ∷ s) o e h = go (eqb (suc x) o) refl h (known-range n s o (rising-tail n x s e))
  where
    go : (t : Bool) → eqb (suc x) o ≡ t → (t || known s o) ≡ true → (known s o ≡ true → (1 ≤ o) × (o ≤ n)) → (1 ≤ o) × (o ≤ n)
    go true q k f =
        let here : suc x ≡ o = eqb-true (suc x) o q in
        let low : x < n = omega (arith, rising-head n x s e, end_below n s (rising-tail n x s e)) in
        (omega arith, omega arith)
    go false q k f = f k

module _ (cls : ℕ → ℕ) (arity : ℕ) (code starts : List ℕ) where
  -- numbers 3, 4 and 5 to 7
  clauses-of-passed : check_clauses_of cls arity code starts ≡ passed
      → (check_size code ≡ passed) × (check_starts (length code / 16) starts ≡ passed) × (check_clauses cls arity (clauses_of (records_of code) starts) ≡ passed)
  unfolding check_clauses_of
  clauses-of-passed e =
      let clauses : Checked = check_clauses cls arity (clauses_of (records_of code) starts) in
      let t = passed-both (check_size code) (otherwise (check_starts (length code / 16) starts) clauses) e in
      let u = passed-both (check_starts (length code / 16) starts) clauses t.1 in
      (t.0, u.0, u.1)

  -- 3 and 4, and then 5 to 7
  pub clauses-after : check_clauses_of cls arity code starts
      ≡ otherwise (otherwise (check_size code) (check_starts (length code / 16) starts)) (check_clauses cls arity (clauses_of (records_of code) starts))
  unfolding check_clauses_of
  clauses-after = in_turn (check_size code) (check_starts (length code / 16) starts) (check_clauses cls arity (clauses_of (records_of code) starts))

  pub clauses-of-rising : check_clauses_of cls arity code starts ≡ passed → rising_below (length (records_of code)) starts ≡ true
  clauses-of-rising e = rising-passed code starts (clauses-of-passed e).1

  -- ---- checked code: 1 and 3 to 7
  code-passed : check_code cls arity code starts ≡ passed → (check_arity arity ≡ passed) × (check_clauses_of cls arity code starts ≡ passed)
  unfolding check_code
  code-passed e = passed-both (check_arity arity) (check_clauses_of cls arity code starts) e

  pub code-arity : check_code cls arity code starts ≡ passed → (1 ≤ arity) × (arity ≤ 32)
  code-arity e = arity-passed arity (code-passed e).0

  pub code-size : check_code cls arity code starts ≡ passed → (length code ≡ 16 * length (records_of code)) × (length (records_of code) ≤ 32768)
  code-size e = size-passed code (clauses-of-passed (code-passed e).1).0

  pub code-starts : check_code cls arity code starts ≡ passed → (1 ≤ length starts) × (length starts ≤ 1024)
  code-starts e = let t = starts-passed (length code / 16) starts (clauses-of-passed (code-passed e).1).1 in (t.0, t.1)

  pub code-rising : check_code cls arity code starts ≡ passed → rising_below (length (records_of code)) starts ≡ true
  code-rising e = clauses-of-rising (code-passed e).1

  pub code-clauses : check_code cls arity code starts ≡ passed → check_clauses cls arity (clauses_of (records_of code) starts) ≡ passed
  code-clauses e = (clauses-of-passed (code-passed e).1).2

  pub code-offset : (o : ℕ) → check_code cls arity code starts ≡ passed → known starts o ≡ true → (1 ≤ o) × (o ≤ length (records_of code))
  code-offset o e h = known-range (length (records_of code)) starts o (code-rising e) h

  pub code-offsets : check_code cls arity code starts ≡ passed → Rising 1 (offsets_of starts)
  code-offsets e = offsets-rising (length (records_of code)) starts (code-rising e)

  -- ---- a checked build: 1 to 8
  build-passed : (c : ℕ) → check_build cls arity c code starts ≡ passed
      → (check_arity arity ≡ passed) × (check_chosen arity c ≡ passed) × (check_clauses_of cls arity code starts ≡ passed)
      × (check_keyed cls c (clauses_of (records_of code) starts) ≡ passed)
  unfolding check_build
  build-passed c e =
      let keyed : Checked = check_keyed cls c (clauses_of (records_of code) starts) in
      let clauses : Checked = check_clauses_of cls arity code starts in
      let t = passed-both (check_arity arity) (otherwise (check_chosen arity c) (otherwise clauses keyed)) e in
      let u = passed-both (check_chosen arity c) (otherwise clauses keyed) t.1 in
      let v = passed-both clauses keyed u.1 in
      (t.0, u.0, v.0, v.1)

  pub build-code : (c : ℕ) → check_build cls arity c code starts ≡ passed → check_code cls arity code starts ≡ passed
  unfolding check_code
  build-code c e = let t = build-passed c e in rw t.0 t.2

  pub build-chosen : (c : ℕ) → check_build cls arity c code starts ≡ passed → (1 ≤ c) × (c ≤ arity)
  build-chosen c e = chosen-passed arity c (build-passed c e).1

  pub build-keyed : (c : ℕ) → check_build cls arity c code starts ≡ passed → open_somewhere cls c (clauses_of (records_of code) starts) ≡ false
  build-keyed c e = passed-test _ OpenClause (build-passed c e).3

  -- every clause has a key at the chosen argument
  pub build-key : (c o : ℕ) → check_build cls arity c code starts ≡ passed → known starts o ≡ true → is_open (key_of cls (records_of code) starts o c) ≡ false
  build-key c o e h = keyed-known cls (records_of code) starts o c (build-keyed c e) h
