-- Laws of pointers: joined and split they are as before, and growing leaves the tag. Assumes nothing.
use mathlib.Core.Path.{◌≡◌, refl, sym, ◌∙◌}
use mathlib.Core.Bool.{Bool, true, false}
use Prim.Native.Nat.{ℕ, ◌+◌, ◌/◌, ◌≤◌, ◌<◌}
use native.Mathlib.Omega.{arith}
use lib.Dec.{eqb}
use borrow.Author.Tests.{leb-true, leb-false, le-leb, lt-leb, eq-eqb, ne_eqb}
use Rattle.records.specs.Pointer.{internal_word, is_internal, distance_of}

-- the tag in terms of order
pub internal-true : (p : ℕ) → is_internal p ≡ true → 2147483648 ≤ p
unfolding is_internal
internal-true p e = leb-true 2147483648 p e

pub internal-false : (p : ℕ) → is_internal p ≡ false → p < 2147483648
unfolding is_internal
internal-false p e = leb-false 2147483648 p e

pub true-internal : (p : ℕ) → 2147483648 ≤ p → is_internal p ≡ true
unfolding is_internal
true-internal p h = le-leb 2147483648 p h

pub false-internal : (p : ℕ) → p < 2147483648 → is_internal p ≡ false
unfolding is_internal
false-internal p h = lt-leb 2147483648 p h

-- joined, then split: both parts come back
pub join-tag : (d : ℕ) → is_internal (internal_word d) ≡ true
join-tag d = true-internal (internal_word d) (omega arith)

pub join-distance : (d : ℕ) → d < 2147483648 → distance_of (internal_word d) ≡ d
join-distance d h = omega arith

-- split, then joined: the pointer comes back
pub split-join : (p : ℕ) → p < 4294967296 → is_internal p ≡ true → internal_word (distance_of p) ≡ p
split-join p h e = omega (arith, internal-true p e)

-- an external pointer is its own lower bits
pub split-external : (p : ℕ) → is_internal p ≡ false → distance_of p ≡ p
split-external p e = omega (arith, internal-false p e)

-- a distance that grows and stays below bit 31 leaves the tag
pub grown-tag : (p by : ℕ) → distance_of p + by < 2147483648 → is_internal (p + by) ≡ is_internal p
grown-tag p by h = by-tag (is_internal p) refl
  where
    by-tag : (t : Bool) → is_internal p ≡ t → is_internal (p + by) ≡ is_internal p
    by-tag true e = true-internal (p + by) (omega (arith, internal-true p e)) ∙ sym e
    by-tag false e = false-internal (p + by) (omega (arith, internal-false p e)) ∙ sym e

pub grown-distance : (p by : ℕ) → distance_of p + by < 2147483648 → distance_of (p + by) ≡ distance_of p + by
grown-distance p by h = omega arith

-- bit 31 by shift
pub shifted-tag : (p : ℕ) → p < 4294967296 → eqb (p / 2147483648) 1 ≡ is_internal p
shifted-tag p h = by-tag (is_internal p) refl
  where
    by-tag : (t : Bool) → is_internal p ≡ t → eqb (p / 2147483648) 1 ≡ is_internal p
    by-tag true e = let o = internal-true p e in let q : p / 2147483648 ≡ 1 = omega arith in eq-eqb (p / 2147483648) 1 q ∙ sym e
    by-tag false e = let o = internal-false p e in let q : p / 2147483648 ≡ 0 = omega arith in ne_eqb (p / 2147483648) 1 (λ f. omega arith) ∙ sym e
