-- What the tests of the pass tell of one record, and of those behind it.
-- Assumes nothing.
use mathlib.Core.Path.{◌≡◌, refl, sym}
use mathlib.Core.Bool.{Bool, true, false, cond, not, ◌&&◌, ◌||◌}
use mathlib.Core.List.{List, [], ◌∷◌}
use Prim.Native.Nat.{ℕ, suc, ◌-◌, ◌≤◌, ◌<◌}
use native.Mathlib.Omega.{arith}
use Rattle.std.specs.List.{list_any}
use Rattle.std.proofs.lemmas.Bool.{and_parts, eqb-true, false≢true, le-leb, leb-true, lt-ltb, ltb-false, ltb-true}
use Rattle.std.specs.Cmp.Derive.{both_true}
use lib.Dec.{eqb, leb, ltb}
use lib.ListN.{length}
use Rattle.records.specs.declared.Rec.{Rec}
use Rattle.records.specs.Records.{rec_of}
use Rattle.indexing_iter.specs.declared.OptArgIndexKey.{OptArgIndexKey as Key}
use Rattle.indexing_iter.specs.declared.OptArgIndexKey.TheVariants.{None, Literal, Structure, List as ListKey}
use Rattle.indexing_iter.specs.Keys.{sort_of, arity_of, bits_of, group_of, same}
use Rattle.indexing.specs.Lines.{Ptr, ext, int, Entry, Table, arg_of, word, entry_rec}
use Rattle.indexing.specs.Reading.{key_from, pointer_from, entry_from}
use Rattle.well_formed.specs.WellFormed.{rising_ok, args_ok, key_ok, keys_ok, entry_keys}
use Rattle.well_formed.specs.Pass.{first_arg, first_of, first_group, group_in, group_bound, group_by_sort, form_ok, idle, bare, rises, once}
use Rattle.well_formed.specs.declared.Waits.{Waits}

-- ---- tests joined

pub and3 : (a b c : Bool) → a && (b && c) ≡ true → (a ≡ true) × (b ≡ true) × (c ≡ true)
and3 a b c e = let x = and_parts a (b && c) e in let y = and_parts b c x.1 in (x.0, y.0, y.1)

pub and4 : (a b c d : Bool) → a && (b && (c && d)) ≡ true → (a ≡ true) × (b ≡ true) × (c ≡ true) × (d ≡ true)
and4 a b c d e = let x = and3 a b (c && d) e in let y = and_parts c d x.2 in (x.0, x.1, y.0, y.1)

pub and5 : (a b c d f : Bool) → a && (b && (c && (d && f))) ≡ true → (a ≡ true) × (b ≡ true) × (c ≡ true) × (d ≡ true) × (f ≡ true)
and5 a b c d f e = let x = and3 a b (c && (d && f)) e in let y = and3 c d f x.2 in (x.0, x.1, y.0, y.1, y.2)

pub and6 : (a b c d f g : Bool) → a && (b && (c && (d && (f && g)))) ≡ true
    → (a ≡ true) × (b ≡ true) × (c ≡ true) × (d ≡ true) × (f ≡ true) × (g ≡ true)
and6 a b c d f g e = let x = and5 a b c d (f && g) e in let y = and_parts f g x.4 in (x.0, x.1, x.2, x.3, y.0, y.1)

pub idle-told : (s : Waits) → idle s ≡ true → (eqb s.entries 0 ≡ true) × (eqb s.clause 0 ≡ true)
unfolding idle
idle-told s e = and_parts (eqb s.entries 0) (eqb s.clause 0) e

-- ---- what stands in a record

pub rec-is : (r : Rec) (k s h w l : ℕ) → r.kind ≡ k → r.sub ≡ s → r.half ≡ h → r.word ≡ w → r.long ≡ l → r ≡ rec_of k s h w l
rec-is r k s h w l a b c d e = λ i. record { kind = a i; sub = b i; half = c i; word = d i; long = e i }

pub bare-told : (r : Rec) → bare r ≡ true → (r.half ≡ 0) × (r.long ≡ 0)
unfolding bare
bare-told r e = let x = and_parts (eqb r.half 0) (eqb r.long 0) e in (eqb-true _ _ x.0, eqb-true _ _ x.1)

word_back : (w : ℕ) → word (pointer_from w) ≡ w
word_back w = go (ltb w 0x8000_0000) refl
  where
    go : (b : Bool) → ltb w 0x8000_0000 ≡ b → word (cond b (ext w) (int (w - 0x8000_0000))) ≡ w
    go true e = refl
    go false e = omega (arith, ltb-false w 0x8000_0000 e)

pub group-sort : (s n b : ℕ) → group_of (key_from s n b) ≡ group_by_sort s
group-sort s n b = go (eqb s 0) (eqb s 4) (eqb s 5)
  where
    go : (x y z : Bool) → group_of (cond x None (cond y (Structure n b) (cond z ListKey (Literal s b)))) ≡ cond x 0 (cond y 3 (cond z 2 1))
    go true y z = refl
    go false true z = refl
    go false false true = refl
    go false false false = refl

-- the fields of an entry are those of its key, and the key is bound
pub form-key : (s n b : ℕ) → form_ok s n b ≡ true
    → (key_ok (key_from s n b) ≡ true) × (sort_of (key_from s n b) ≡ s) × (arity_of (key_from s n b) ≡ n) × (bits_of (key_from s n b) ≡ b)
unfolding form_ok
form-key s n b e = go (eqb s 0) (eqb s 4) (eqb s 5) refl refl refl e
  where
    go : (x y z : Bool) → eqb s 0 ≡ x → eqb s 4 ≡ y → eqb s 5 ≡ z
        → cond y true (cond z (eqb n 0 && eqb b 0) (leb 1 s && (leb s 3 && eqb n 0))) ≡ true
        → let k = cond x None (cond y (Structure n b) (cond z ListKey (Literal s b))) in
        (key_ok k ≡ true) × (sort_of k ≡ s) × (arity_of k ≡ n) × (bits_of k ≡ b)
    go true true z p q r f = let u : s ≡ 0 = eqb-true _ _ p in let v : s ≡ 4 = eqb-true _ _ q in absurd (omega arith)
    go true false true p q r f = let u : s ≡ 0 = eqb-true _ _ p in let v : s ≡ 5 = eqb-true _ _ r in absurd (omega arith)
    go true false false p q r f =
        let u : s ≡ 0 = eqb-true _ _ p in
        let y = and_parts (leb 1 s) (leb s 3 && eqb n 0) f in absurd (omega (arith, leb-true 1 s y.0))
    go false true z p q r f = (refl, sym (eqb-true _ _ q), refl, refl)
    go false false true p q r f = let y = and_parts (eqb n 0) (eqb b 0) f in (refl, sym (eqb-true _ _ r), sym (eqb-true _ _ y.0), sym (eqb-true _ _ y.1))
    go false false false p q r f = let y = and3 (leb 1 s) (leb s 3) (eqb n 0) f in (both_true y.0 y.1, refl, sym (eqb-true _ _ y.2), refl)

pub entry-back : (r : Rec) → r.kind ≡ 5 → form_ok r.sub r.half r.long ≡ true → r ≡ entry_rec (entry_from r)
entry-back r k e =
    let f = form-key r.sub r.half r.long e in
    rec-is r 5 _ _ _ _ k (sym f.1) (sym f.2) (sym (word_back r.word)) (sym f.3)

-- ---- the first entry, dead clause, table and offset of the state

pub no_items : {A : Type 0} (xs : List A) → eqb (length xs) 0 ≡ true → xs ≡ []
no_items [] e = refl
no_items (x ∷ xs) e = let z : length (x ∷ xs) ≡ 0 = eqb-true _ _ e in absurd (omega arith)

pub no-offsets : (known : ℕ → Bool) (os : List ℕ) → rising_ok known 1 os ≡ true → eqb (first_of os) 0 ≡ true → os ≡ []
no-offsets known [] f e = refl
no-offsets known (o ∷ os) f e =
    let z : o ≡ 0 = eqb-true _ _ e in absurd (omega (arith, leb-true 1 o (and_parts (leb 1 o) (known o && rising_ok known (suc o) os) f).0))

pub no-tables : (m : ℕ) (ts : List Table) → m ≤ 32 → args_ok m 1 ts ≡ true → eqb (first_arg ts) 33 ≡ true → ts ≡ []
no-tables m [] h f e = refl
no-tables m (t ∷ ts) h f e =
    let z : arg_of t ≡ 33 = eqb-true _ _ e in
    let x = and3 (leb 1 (arg_of t)) (leb (arg_of t) m) (args_ok m (suc (arg_of t)) ts) f in absurd (omega (arith, leb-true (arg_of t) m x.1))

-- an offset in front of others
pub rises-front : (known : ℕ → Bool) (o : ℕ) (os : List ℕ) → (known o ≡ true → 1 ≤ o) → rises known o (first_of os) ≡ true → rising_ok known 1 os ≡ true
    → rising_ok known 1 (o ∷ os) ≡ true
unfolding rises
rises-front known o os good e f =
    let x = and_parts (known o) (eqb (first_of os) 0 || ltb o (first_of os)) e in
    both_true (le-leb 1 o (good x.0)) (both_true x.0 (go os x.1 f))
  where
    go : (os : List ℕ) → eqb (first_of os) 0 || ltb o (first_of os) ≡ true → rising_ok known 1 os ≡ true → rising_ok known (suc o) os ≡ true
    go [] e f = refl
    go (p ∷ os) e f =
        let y = and_parts (leb 1 p) (known p && rising_ok known (suc p) os) f in both_true (above (eqb p 0) refl e (leb-true 1 p y.0)) y.1
      where
        above : (b : Bool) → eqb p 0 ≡ b → b || ltb o p ≡ true → 1 ≤ p → leb (suc o) p ≡ true
        above true e f h = let z : p ≡ 0 = eqb-true _ _ e in absurd (omega arith)
        above false e f h = le-leb (suc o) p (ltb-true o p f)

pub front-rises : (known : ℕ → Bool) (n o : ℕ) (os : List ℕ) → rising_ok known n (o ∷ os) ≡ true → rises known o (first_of os) ≡ true
unfolding rises
front-rises known n o os e = let x = and3 (leb n o) (known o) (rising_ok known (suc o) os) e in both_true x.1 (go os x.2)
  where
    go : (os : List ℕ) → rising_ok known (suc o) os ≡ true → eqb (first_of os) 0 || ltb o (first_of os) ≡ true
    go [] e = refl
    go (p ∷ os) e =
        let h : o < p = leb-true (suc o) p (and_parts (leb (suc o) p) (known p && rising_ok known (suc p) os) e).0 in or (eqb p 0) (lt-ltb o p h)
      where
        or : (b : Bool) → ltb o p ≡ true → b || ltb o p ≡ true
        or true f = refl
        or false f = f

-- ---- the keys of a switch: by group, and each once

abbrev pub groups_ok : ℕ → List Key → Bool
groups_ok g [] = true
groups_ok g (k ∷ ks) = leb g (group_of k) && (key_ok k && groups_ok (group_of k) ks)

pub groups-keys : (g : ℕ) (ks : List Key) → groups_ok g ks ≡ true → once ks ≡ true → keys_ok g ks ≡ true
groups-keys g [] e f = refl
groups-keys g (k ∷ ks) e f =
    let x = and3 (leb g (group_of k)) (key_ok k) (groups_ok (group_of k) ks) e in
    let y = and_parts (not (list_any (same k) ks)) (once ks) f in
    both_true x.0 (both_true x.1 (both_true y.0 (groups-keys (group_of k) ks x.2 y.1)))

pub keys-once : (g : ℕ) (ks : List Key) → keys_ok g ks ≡ true → once ks ≡ true
keys-once g [] e = refl
keys-once g (k ∷ ks) e =
    let x = and_parts (leb g (group_of k)) (key_ok k && (not (list_any (same k) ks) && keys_ok (group_of k) ks)) e in
    let y = and3 (key_ok k) (not (list_any (same k) ks)) (keys_ok (group_of k) ks) x.1 in
    both_true y.1 (keys-once (group_of k) ks y.2)

-- a key's group as a bound
pub key-bound : (k : Key) → key_ok k ≡ true → group_bound (group_in (group_of k)) ≡ group_of k
key-bound None e = absurd (false≢true e)
key-bound (Literal s b) e = refl
key-bound (Structure n f) e = refl
key-bound ListKey e = refl

pub groups-front : (g : ℕ) (es : List (Entry Ptr)) → groups_ok 1 (entry_keys es) ≡ true → g ≤ group_bound (first_group es) → groups_ok g (entry_keys es) ≡ true
groups-front g [] e h = refl
groups-front g (x ∷ es) e h =
    let y = and_parts (leb 1 (group_of x.key)) (key_ok x.key && groups_ok (group_of x.key) (entry_keys es)) e in
    let k = and_parts (key_ok x.key) (groups_ok (group_of x.key) (entry_keys es)) y.1 in
    both_true (le-leb g (group_of x.key) (omega (arith, h, key-bound x.key k.0))) y.1

pub key-group : (k : Key) → key_ok k ≡ true → 1 ≤ group_of k
key-group None e = absurd (false≢true e)
key-group (Literal s b) e = omega arith
key-group (Structure n f) e = omega arith
key-group ListKey e = omega arith
