-- Offsets that rise and are known are no more than the clauses.
-- Assumes nothing.
use mathlib.Core.Path.{◌≡◌, refl, sym, ap, ◌∙◌}
use mathlib.Core.Bool.{Bool, true, false, ◌&&◌, ◌||◌}
use mathlib.Core.List.{List, [], ◌∷◌}
use Prim.Native.Nat.{ℕ, suc, ◌≤◌, ◌<◌}
use native.Mathlib.Omega.{arith}
use Rattle.std.proofs.lemmas.Bool.{and_parts, eqb-true, false≢true, le-leb, leb-true, ne_eqb}
use Rattle.std.specs.Cmp.Derive.{both_true}
use lib.Dec.{eqb, leb}
use lib.ListN.{length}
use Rattle.indexing_iter.specs.Clauses.{known, offsets_of}
use Rattle.indexing_iter.proofs.CheckLaws.{Rising as Rises}
use Rattle.well_formed.specs.WellFormed.{rising_ok}

-- a known offset is not below the first
known_from : (m : ℕ) (starts : List ℕ) (o : ℕ) → Rises m (offsets_of starts) → known starts o ≡ true → m ≤ o
unfolding known
known_from m [] o r e = absurd (false≢true e)
known_from m (s ∷ ss) o r e = go (eqb (suc s) o) refl e (known_from (suc (suc s)) ss o r.1)
  where
    go : (x : Bool) → eqb (suc s) o ≡ x → x || known ss o ≡ true → (known ss o ≡ true → suc (suc s) ≤ o) → m ≤ o
    go true f g ih = omega (arith, eqb-true (suc s) o f, r.0)
    go false f g ih = omega (arith, ih g, r.0)

-- offsets above the first clause's are those of the others
known-rest : (s : ℕ) (ss : List ℕ) (n : ℕ) (os : List ℕ) → suc s < n → rising_ok (known (s ∷ ss)) n os ≡ true → rising_ok (known ss) n os ≡ true
unfolding known
known-rest s ss n [] h e = refl
known-rest s ss n (o ∷ os) h e =
    let x = and_parts (leb n o) (known (s ∷ ss) o && rising_ok (known (s ∷ ss)) (suc o) os) e in
    let y = and_parts (known (s ∷ ss) o) (rising_ok (known (s ∷ ss)) (suc o) os) x.1 in
    let k : n ≤ o = leb-true n o x.0 in
    let z : known ss o ≡ true = sym (ap (λ (t : Bool). t || known ss o) (ne_eqb (suc s) o (λ q. omega arith))) ∙ y.0 in
    both_true x.0 (both_true z (known-rest s ss (suc o) os (omega arith) y.1))

pub few-known : (starts : List ℕ) (m n : ℕ) (os : List ℕ) → Rises m (offsets_of starts) → rising_ok (known starts) n os ≡ true → length os ≤ length starts
unfolding known
few-known starts m n [] r e = omega arith
few-known [] m n (o ∷ os) r e =
    let x = and_parts (leb n o) (false && rising_ok (known []) (suc o) os) e in absurd (false≢true x.1)
few-known (s ∷ ss) m n (o ∷ os) r e =
    let x = and_parts (leb n o) (known (s ∷ ss) o && rising_ok (known (s ∷ ss)) (suc o) os) e in
    let y = and_parts (known (s ∷ ss) o) (rising_ok (known (s ∷ ss)) (suc o) os) x.1 in
    go (eqb (suc s) o) refl y.0 y.1 (few-known ss (suc (suc s)) (suc o) os r.1) (few-known ss (suc (suc s)) o (o ∷ os) r.1)
  where
    go : (t : Bool) → eqb (suc s) o ≡ t → t || known ss o ≡ true → rising_ok (known (s ∷ ss)) (suc o) os ≡ true
        → (rising_ok (known ss) (suc o) os ≡ true → length os ≤ length ss) → (rising_ok (known ss) o (o ∷ os) ≡ true → suc (length os) ≤ length ss)
        → suc (length os) ≤ suc (length ss)
    go true f g h ih ih' = omega (arith, ih (known-rest s ss (suc o) os (omega (arith, eqb-true (suc s) o f)) h))
    go false f g h ih ih' =
        let k : suc s < o = known_from (suc (suc s)) ss o r.1 g in
        omega (arith, ih' (both_true (le-leb o o (omega arith)) (both_true g (known-rest s ss (suc o) os (omega arith) h))))
