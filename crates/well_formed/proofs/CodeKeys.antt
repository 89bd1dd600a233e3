-- The keys of checked code pass number 12's test of a switch's keys.
-- Assumes nothing.
use mathlib.Core.Path.{◌≡◌, refl}
use mathlib.Core.Bool.{Bool, true, false}
use mathlib.Core.List.{List, [], ◌∷◌}
use Prim.Native.Nat.{ℕ, suc}
use Rattle.std.proofs.lemmas.Bool.{both_ways, le-leb, or_parts, true≢false}
use Rattle.std.specs.Cmp.Derive.{both_true}
use lib.Dec.{eqb}
use Rattle.records.specs.declared.Rec.{Rec}
use Rattle.records.specs.Records.{records_of}
use Rattle.indexing_iter.specs.declared.OptArgIndexKey.{OptArgIndexKey as Key}
use Rattle.indexing_iter.specs.declared.OptArgIndexKey.TheVariants.{None, Literal, Structure, List as ListKey}
use Rattle.indexing_iter.specs.Refusals.{passed}
use Rattle.indexing_iter.specs.Checks.{check_code}
use Rattle.indexing_iter.specs.Clauses.{known, key_of, clause_at}
use Rattle.indexing_iter.specs.Keys.{is_open, key_in}
use Rattle.indexing_iter.proofs.SameKeys.{KeyInRange}
use Rattle.indexing_iter.proofs.KeyLaws.{key-of-range}
use Rattle.well_formed.specs.WellFormed.{key_ok}

-- no clause has an offset that is not known
no-clause : (rs : List Rec) (starts : List ℕ) (o : ℕ) → known starts o ≡ false → clause_at rs starts o ≡ []
unfolding known clause_at
no-clause rs [] o e = refl
no-clause rs (s ∷ ss) o e = let x = or_parts (eqb (suc s) o) (known ss o) e in rw x.0 (no-clause rs ss o x.1)

range-ok : (k : Key) → KeyInRange k → is_open k ≡ false → key_ok k ≡ true
range-ok None r e = absurd (true≢false e)
range-ok (Literal s b) r e = both_true (le-leb 1 s r.0) (le-leb s 3 r.1)
range-ok (Structure n f) r e = refl
range-ok ListKey r e = refl

no_key : (cls : ℕ → ℕ) (rs : List Rec) (starts : List ℕ) (o a : ℕ) → known starts o ≡ false → is_open (key_of cls rs starts o a) ≡ true
unfolding key_of key_in
no_key cls rs starts o a k = rw (no-clause rs starts o k)

-- a bound key of checked code passes the test of a switch's keys
pub code-keys : (cls : ℕ → ℕ) (arity : ℕ) (code starts : List ℕ) (o a : ℕ) → check_code cls arity code starts ≡ passed
    → is_open (key_of cls (records_of code) starts o a) ≡ false → key_ok (key_of cls (records_of code) starts o a) ≡ true
code-keys cls arity code starts o a p e = go (known starts o) refl
  where
    go : (t : Bool) → known starts o ≡ t → key_ok (key_of cls (records_of code) starts o a) ≡ true
    go true k = range-ok (key_of cls (records_of code) starts o a) (key-of-range cls arity code starts o a k p) e
    go false k = absurd (both_ways _ e (no_key cls (records_of code) starts o a k))
