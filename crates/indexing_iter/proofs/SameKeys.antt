-- Tests, and the laws of equal keys (document 01, section 2).
-- Assumes nothing.
use mathlib.Core.Path.{◌≡◌, refl, sym, ap₂, ◌∙◌}
use Prim.Native.Nat.{ℕ, ◌≤◌, ◌<◌}
use mathlib.Core.Bool.{Bool, true, false, ◌&&◌, ◌||◌, false≢true}
use native.Mathlib.Omega.{arith}
use lib.Dec.{eqb}
use borrow.Author.Tests.{eqb-true, eqb-false, eq-eqb, ne_eqb}
use Rattle.indexing_iter.specs.declared.OptArgIndexKey.{OptArgIndexKey}
use Rattle.indexing_iter.specs.declared.OptArgIndexKey.TheVariants.{None, Literal, Structure, List as ListKey}
use Rattle.indexing_iter.specs.Keys.{same, sort_of, arity_of, bits_of, group_of}
use Rattle.indexing_iter.specs.Rows.{head_by, same_bits}

-- ---- tests

pub and_left : (a b : Bool) → (a && b) ≡ true → a ≡ true
and_left true b e = refl
and_left false b e = e

pub and_right : (a b : Bool) → (a && b) ≡ true → b ≡ true
and_right true b e = e
and_right false b e = absurd (false≢true e)

pub or_left : (a b : Bool) → (a || b) ≡ false → a ≡ false
or_left true b e = e
or_left false b e = refl

pub or_right : (a b : Bool) → (a || b) ≡ false → b ≡ false
or_right true b e = absurd (false≢true (sym e))
or_right false b e = e

eqb_comm : (a b : ℕ) → eqb a b ≡ eqb b a
eqb_comm a b = go (eqb a b) refl
  where
    go : (t : Bool) → eqb a b ≡ t → eqb a b ≡ eqb b a
    go true e = e ∙ sym (eq-eqb b a (sym (eqb-true a b e)))
    go false e = e ∙ sym (ne_eqb b a (λ q. eqb-false a b e (sym q)))

-- ---- equal keys

-- keys that are the same are one key
pub same-eq : (k l : OptArgIndexKey) → same k l ≡ true → k ≡ l
same-eq None None e = refl
same-eq None (Literal t c) e = absurd (false≢true e)
same-eq None (Structure m g) e = absurd (false≢true e)
same-eq None ListKey e = absurd (false≢true e)
same-eq (Literal s b) None e = absurd (false≢true e)
same-eq (Literal s b) (Literal t c) e =
    ap₂ Literal (eqb-true s t (and_left (eqb s t) (eqb b c) e)) (eqb-true b c (and_right (eqb s t) (eqb b c) e))
same-eq (Literal s b) (Structure m g) e = absurd (false≢true e)
same-eq (Literal s b) ListKey e = absurd (false≢true e)
same-eq (Structure n f) None e = absurd (false≢true e)
same-eq (Structure n f) (Literal t c) e = absurd (false≢true e)
same-eq (Structure n f) (Structure m g) e =
    ap₂ Structure (eqb-true n m (and_left (eqb n m) (eqb f g) e)) (eqb-true f g (and_right (eqb n m) (eqb f g) e))
same-eq (Structure n f) ListKey e = absurd (false≢true e)
same-eq ListKey None e = absurd (false≢true e)
same-eq ListKey (Literal t c) e = absurd (false≢true e)
same-eq ListKey (Structure m g) e = absurd (false≢true e)
same-eq ListKey ListKey e = refl

pub same_refl : (k : OptArgIndexKey) → same k k ≡ true
same_refl k =
    rw (eq-eqb (group_of k) (group_of k) refl, eq-eqb (sort_of k) (sort_of k) refl, eq-eqb (arity_of k) (arity_of k) refl, eq-eqb (bits_of k) (bits_of k) refl) refl

pub same-sym : (k l : OptArgIndexKey) → same k l ≡ same l k
same-sym k l =
    ap₂ ◌&&◌ (eqb_comm (group_of k) (group_of l))
    (ap₂ ◌&&◌ (eqb_comm (sort_of k) (sort_of l)) (ap₂ ◌&&◌ (eqb_comm (arity_of k) (arity_of l)) (eqb_comm (bits_of k) (bits_of l))))

-- a literal's sort is 1 to 3
abbrev pub SortInRange : OptArgIndexKey → Type 0
SortInRange None = Unit {0}
SortInRange (Literal s b) = (1 ≤ s) × (s ≤ 3)
SortInRange (Structure n f) = Unit {0}
SortInRange ListKey = Unit {0}

-- a literal's sort is 1 to 3, a structure's arity 1 to 255
abbrev pub KeyInRange : OptArgIndexKey → Type 0
KeyInRange None = Unit {0}
KeyInRange (Literal s b) = (1 ≤ s) × (s ≤ 3)
KeyInRange (Structure n f) = (1 ≤ n) × (n ≤ 255)
KeyInRange ListKey = Unit {0}

-- where sorts are in range the group is told by the sort
pub same-by-sort : (k l : OptArgIndexKey) → SortInRange k → SortInRange l
    → same k l ≡ (eqb (sort_of k) (sort_of l) && (eqb (arity_of k) (arity_of l) && eqb (bits_of k) (bits_of l)))
same-by-sort None None h i = refl
same-by-sort None (Literal t c) h i = rw (ne_eqb 0 t (omega arith)) refl
same-by-sort None (Structure m g) h i = refl
same-by-sort None ListKey h i = refl
same-by-sort (Literal s b) None h i = rw (ne_eqb s 0 (omega arith)) refl
same-by-sort (Literal s b) (Literal t c) h i = refl
same-by-sort (Literal s b) (Structure m g) h i = rw (ne_eqb s 4 (omega arith)) refl
same-by-sort (Literal s b) ListKey h i = rw (ne_eqb s 5 (omega arith)) refl
same-by-sort (Structure n f) None h i = refl
same-by-sort (Structure n f) (Literal t c) h i = rw (ne_eqb 4 t (omega arith)) refl
same-by-sort (Structure n f) (Structure m g) h i = refl
same-by-sort (Structure n f) ListKey h i = refl
same-by-sort ListKey None h i = refl
same-by-sort ListKey (Literal t c) h i = rw (ne_eqb 5 t (omega arith)) refl
same-by-sort ListKey (Structure m g) h i = refl
same-by-sort ListKey ListKey h i = refl

-- the two numbers of a key tell its sort, its arity and its bits
pub same-by-numbers : (s n b t m c : ℕ) → n < 65536 → m < 65536 → same_bits (head_by s n) b (head_by t m) c ≡ (eqb s t && (eqb n m && eqb b c))
same-by-numbers s n b t m c h k = go (eqb s t) (eqb n m) refl refl
  where
    go : (x y : Bool) → eqb s t ≡ x → eqb n m ≡ y → same_bits (head_by s n) b (head_by t m) c ≡ (x && (y && eqb b c))
    go true true e f = rw (eqb-true s t e, eqb-true n m f, eq-eqb (head_by t m) (head_by t m) refl) refl
    go true false e f = rw (ne_eqb (head_by s n) (head_by t m) (λ q. eqb-false n m f (omega arith))) refl
    go false y e f = rw (ne_eqb (head_by s n) (head_by t m) (λ q. eqb-false s t e (omega arith))) refl
