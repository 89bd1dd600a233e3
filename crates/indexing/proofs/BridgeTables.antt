-- The tables of a new line by columns (specs/Columns) are those of section 3 (specs/Build).
-- A bucket is taken by places: the clauses whose places pass a test.
-- Assumes nothing.
use mathlib.Core.Path.{◌≡◌, refl, sym, ap, ap₂, ◌∙◌}
use mathlib.Core.Bool.{Bool, true, false, cond, ◌||◌}
use mathlib.Core.List.{List, [], ◌∷◌, ◌++◌, map, append-nil, append_assoc}
use mathlib.Core.Option.{Option, none, some}
use Prim.Native.Nat.{ℕ, zero, suc, ◌+◌, ◌-◌, ◌*◌, ◌≤◌, ◌<◌}
use native.Mathlib.Decide.{dec_le}
use native.Mathlib.Omega.{arith}
use Rattle.std.specs.List.{filter}
use Rattle.std.proofs.lemmas.Bool.{lt-ltb}
use lib.Dec.{eqb, ltb}
use lib.ListN.{length, get_or, length-append, get_or-append}
use lib.Seq.{get_or-append-add}
use Rattle.records.specs.declared.Rec.{Rec}
use Rattle.records.specs.Records.{rec_of}
use Rattle.indexing_iter.specs.declared.OptArgIndexKey.{OptArgIndexKey as Key}
use Rattle.indexing_iter.specs.declared.Settings.{Settings}
use Rattle.indexing_iter.specs.Keys.{is_open}
use Rattle.std.specs.Int.{from_bool}
use Rattle.indexing.specs.Upto.{count_to, any_to, list_to}
use Rattle.indexing.specs.Columns.{open_row, opens_to, member, open_member, dead_clauses, table_at, tables_at}
use Rattle.indexing.specs.Expanding.{opens_of}
use Rattle.indexing.specs.Lines.{Table, dead, Choice, offs, dead_rec, table_recs, tables_recs}
use Rattle.indexing.specs.Build.{program_by, masked_at, cons_opt, open_at, new_table, later_table, later_tables}
use Rattle.indexing.proofs.BridgeLists.{list-cong, any-cong, length-each, get_or-each}
use Rattle.indexing.proofs.Expand.{add-offs}

-- ---- loops over the numbers below n, with the first turn taken apart

module _ {A : Type 0} where
  pub list-first : (f : ℕ → List A) (n : ℕ) → list_to f (suc n) ≡ f 0 ++ list_to (λ j. f (suc j)) n
  unfolding list_to
  list-first f zero = sym (append-nil (f 0))
  list-first f (suc n) = ap (λ (r : List A). r ++ f (suc n)) (list-first f n) ∙ append_assoc (f 0) (list_to (λ j. f (suc j)) n) (f (suc n))

pub any-first : (t : ℕ → Bool) (n : ℕ) → any_to t (suc n) ≡ t 0 || any_to (λ j. t (suc j)) n
unfolding any_to
any-first t zero = go (t 0)
  where
    go : (x : Bool) → cond x true false ≡ x || false
    go true = refl
    go false = refl
any-first t (suc n) = ap (cond (t (suc n)) true) (any-first t n) ∙ go (t (suc n)) (t 0) (any_to (λ j. t (suc j)) n)
  where
    go : (x y z : Bool) → cond x true (y || z) ≡ y || cond x true z
    go true true z = refl
    go true false z = refl
    go false y z = refl

pub count-first : (t : ℕ → Bool) (n : ℕ) → count_to t (suc n) ≡ from_bool (t 0) + count_to (λ j. t (suc j)) n
unfolding count_to
count-first t zero = omega arith
count-first t (suc n) = omega (arith, count-first t n)

-- ---- elements of columns

module _ {A : Type 0} (d : A) where
  length-rows : (f : ℕ → List A) → ((j : ℕ) → length (f j) ≡ 32) → (n : ℕ) → length (list_to f n) ≡ 32 * n
  unfolding list_to
  length-rows f h zero = refl
  length-rows f h (suc n) = omega (arith, length-append (list_to f n) (f n), length-rows f h n, h n)

  -- element b of row j of rows of 32
  pub row-element : (f : ℕ → List A) → ((j : ℕ) → length (f j) ≡ 32) → (n j b : ℕ) → j < n → b < 32
      → get_or (list_to f n) (32 * j + b) d ≡ get_or (f j) b d
  unfolding list_to
  row-element f h zero j b p q = absurd (omega arith)
  row-element f h (suc n) j b p q = go (dec_le n j) (λ r. row-element f h n j b r q)
    where
      go : Dec (n ≤ j) → (j < n → get_or (list_to f n) (32 * j + b) d ≡ get_or (f j) b d) → get_or (list_to f n ++ f n) (32 * j + b) d ≡ get_or (f j) b d
      go (yes r) ih =
          let e : j ≡ n = omega arith in
          let at : 32 * j + b ≡ length (list_to f n) + b = omega (arith, length-rows f h n) in
          rw (at, get_or-append-add (list_to f n) (f n) b d, e)
      go (no r) ih = get_or-append (list_to f n) (f n) d (32 * j + b) (omega (arith, length-rows f h n)) ∙ ih (omega arith)

one-is : (b : Bool) → eqb (from_bool b) 1 ≡ b
one-is true = refl
one-is false = refl

-- the column of the open arguments
pub opens_at : (K : ℕ → ℕ → Key) (arity : ℕ) (os : List ℕ) (n j b : ℕ) → j < n → 1 ≤ b → b ≤ arity → arity ≤ 32
    → eqb (get_or (opens_to K arity os n) (32 * j + (b - 1)) 0) 1 ≡ is_open (K (get_or os j 0) b)
unfolding opens_to open_row
opens_at K arity os n j b h p q r =
    let f : ℕ → ℕ → ℕ = λ j b. from_bool (cond (ltb b arity) (is_open (K (get_or os j 0) (b + 1))) false) in
    let inside : ltb (b - 1) arity ≡ true = lt-ltb (b - 1) arity (omega arith) in
    let back : b - 1 + 1 ≡ b = omega arith in
    ap (λ (x : ℕ). eqb x 1) (
    row-element 0 (λ j. open_row K arity (get_or os j 0)) (λ j. length-each (f j) 32) n j (b - 1) h (omega arith)
    ∙ get_or-each (f j) 32 (b - 1) 0 (omega arith))
    ∙ rw (inside, back) (one-is (is_open (K (get_or os j 0) b)))

-- ---- a bucket by places

module _ {A : Type 0} where
  abbrev pub occupied : List A → Bool
  occupied [] = false
  occupied (x ∷ xs) = true

  -- the elements whose places pass the test, in order
  abbrev pub chosen : (ℕ → Bool) → List A → List A
  chosen t [] = []
  chosen t (x ∷ xs) = cond (t 0) (x ∷ chosen (λ j. t (suc j)) xs) (chosen (λ j. t (suc j)) xs)

  pub chosen-all : (t : ℕ → Bool) (xs : List A) → ((j : ℕ) → j < length xs → t j ≡ true) → chosen t xs ≡ xs
  chosen-all t [] h = refl
  chosen-all t (x ∷ xs) h = rw (h 0 (omega arith), chosen-all (λ j. t (suc j)) xs (λ j k. h (suc j) (omega arith)))

  -- where the test is one of the elements
  pub chosen-keep : (t : ℕ → Bool) (p : A → Bool) (d : A) (xs : List A) → ((j : ℕ) → j < length xs → t j ≡ p (get_or xs j d)) → chosen t xs ≡ filter p xs
  chosen-keep t p d [] h = refl
  chosen-keep t p d (x ∷ xs) h =
      ap₂ (λ (b : Bool) (ys : List A). cond b (x ∷ ys) ys) (h 0 (omega arith)) (chosen-keep (λ j. t (suc j)) p d xs (λ j k. h (suc j) (omega arith)))

  pub length-chosen : (t : ℕ → Bool) (xs : List A) → length (chosen t xs) ≡ count_to t (length xs)
  unfolding count_to
  length-chosen t [] = refl
  length-chosen t (x ∷ xs) = go (t 0) (length-chosen (λ j. t (suc j)) xs) ∙ sym (count-first t (length xs))
    where
      go : (b : Bool) → length (chosen (λ j. t (suc j)) xs) ≡ count_to (λ j. t (suc j)) (length xs)
          → length (cond b (x ∷ chosen (λ j. t (suc j)) xs) (chosen (λ j. t (suc j)) xs)) ≡ from_bool b + count_to (λ j. t (suc j)) (length xs)
      go true ih = omega arith
      go false ih = omega arith

  -- of the chosen ones those that pass p
  module _ (p : A → Bool) (d : A) where
    abbrev pub passed : (ℕ → Bool) → List A → ℕ → Bool
    passed t xs j = cond (t j) (p (get_or xs j d)) false

    pub list-chosen : {B : Type 0} (f : A → B) (t : ℕ → Bool) (xs : List A)
        → list_to (λ j. cond (passed t xs j) (f (get_or xs j d) ∷ []) []) (length xs) ≡ map f (filter p (chosen t xs))
    unfolding list_to
    list-chosen f t [] = refl
    list-chosen {B} f t (x ∷ xs) =
        list-first (λ j. cond (passed t (x ∷ xs) j) (f (get_or (x ∷ xs) j d) ∷ []) []) (length xs)
        ∙ ap (λ (r : List B). cond (cond (t 0) (p x) false) (f x ∷ []) [] ++ r) (list-chosen f (λ j. t (suc j)) xs)
        ∙ go (t 0) (chosen (λ j. t (suc j)) xs)
      where
        kept : (y : Bool) (r : List A) → cond y (f x ∷ []) [] ++ map f r ≡ map f (cond y (x ∷ r) r)
        kept true r = refl
        kept false r = refl

        go : (b : Bool) (r : List A) → cond (cond b (p x) false) (f x ∷ []) [] ++ map f (filter p r) ≡ map f (filter p (cond b (x ∷ r) r))
        go true r = kept (p x) (filter p r)
        go false r = refl

    pub any-chosen : (t : ℕ → Bool) (xs : List A) → any_to (passed t xs) (length xs) ≡ occupied (filter p (chosen t xs))
    unfolding any_to
    any-chosen t [] = refl
    any-chosen t (x ∷ xs) =
        any-first (passed t (x ∷ xs)) (length xs)
        ∙ ap (λ (r : Bool). cond (t 0) (p x) false || r) (any-chosen (λ j. t (suc j)) xs)
        ∙ go (t 0) (chosen (λ j. t (suc j)) xs)
      where
        kept : (y : Bool) (r : List A) → y || occupied r ≡ occupied (cond y (x ∷ r) r)
        kept true r = refl
        kept false r = refl

        go : (b : Bool) (r : List A) → cond b (p x) false || occupied (filter p r) ≡ occupied (filter p (cond b (x ∷ r) r))
        go true r = kept (p x) (filter p r)
        go false r = refl

pub offs-chosen : (t : ℕ → Bool) (cs : List Choice) → offs (chosen t cs) ≡ chosen t (offs cs)
offs-chosen t [] = refl
offs-chosen t (c ∷ cs) =
    add-offs (t 0) c (chosen (λ j. t (suc j)) cs) ∙ ap (λ (os : List ℕ). cond (t 0) (c.offset ∷ os) os) (offs-chosen (λ j. t (suc j)) cs)

-- ---- the tables of the bucket i of a line of the clauses os

module _ (S : Settings) (K : ℕ → ℕ → Key) (os leaders : List ℕ) (small : S.arity ≤ 32) (whole : length leaders ≡ length os) (i : ℕ) where
  abbrev clauses : List ℕ
  clauses = chosen (member leaders i) os

  abbrev open_here : ℕ → ℕ → Bool
  open_here b o = is_open (K o b)

  pub open-member : (b j : ℕ) → 1 ≤ b → b ≤ S.arity → j < length os
      → open_member leaders (opens_of S K os) os i b j ≡ passed (open_here b) 0 (member leaders i) os j
  unfolding open_member
  open-member b j p q h = ap (λ (x : Bool). cond (member leaders i j) x false) (opens_at K S.arity os (length os) j b h p q small)

  pub dead-clauses : (b : ℕ) → 1 ≤ b → b ≤ S.arity → dead_clauses leaders (opens_of S K os) os i b ≡ map dead_rec (open_at (program_by S K) b clauses)
  unfolding dead_clauses
  dead-clauses b p q =
      ap (list_to (λ j. cond (open_member leaders (opens_of S K os) os i b j) (rec_of 7 0 0 (get_or os j 0) 0 ∷ []) [])) whole
      ∙ list-cong _ _ (length os) (λ j h. ap (λ (x : Bool). cond x (dead_rec (get_or os j 0) ∷ []) []) (open-member b j p q h))
      ∙ list-chosen (open_here b) 0 dead_rec (member leaders i) os

  pub any_open : (b : ℕ) → 1 ≤ b → b ≤ S.arity
      → any_to (open_member leaders (opens_of S K os) os i b) (length os) ≡ occupied (open_at (program_by S K) b clauses)
  any_open b p q =
      any-cong (open_member leaders (opens_of S K os) os i b) (passed (open_here b) 0 (member leaders i) os) (length os) (λ j h. open-member b j p q h)
      ∙ any-chosen (open_here b) 0 (member leaders i) os

  tables-cons : (t : Option Table) (ts : List Table) → tables_recs (cons_opt t ts) ≡ tables_recs (cons_opt t []) ++ tables_recs ts
  tables-cons none ts = refl
  tables-cons (some t) ts = ap (λ (r : List Rec). r ++ tables_recs ts) (sym (append-nil (table_recs t)))

  -- the table's records, by whether it is masked, whether a clause is open there, and the dead clauses
  abbrev table_by : ℕ → Bool → Bool → List Rec → List Rec
  table_by b masked opened deads = cond masked [] (cond opened (cond S.extensible (rec_of 4 0 b 0 0 ∷ deads) []) (rec_of 3 0 b 0 0 ∷ []))

  -- one argument's table
  table-at : (b : ℕ) → 1 ≤ b → b ≤ S.arity
      → table_at leaders (opens_of S K os) os S.mask S.extensible i b ≡ tables_recs (cons_opt (later_table (program_by S K) b clauses) [])
  unfolding table_at
  table-at b p q =
      ap₂ (table_by b (masked_at S.mask b)) (ap (any_to (open_member leaders (opens_of S K os) os i b)) whole ∙ any_open b p q) (dead-clauses b p q)
      ∙ masks (masked_at S.mask b) (open_at (program_by S K) b clauses)
    where
      extends : (e : Bool) (o : ℕ) (r : List ℕ)
          → cond e (rec_of 4 0 b 0 0 ∷ map dead_rec (o ∷ r)) [] ≡ tables_recs (cons_opt (cond e (some (dead b (o ∷ r))) none) [])
      extends true o r = ap (λ (x : List Rec). rec_of 4 0 b 0 0 ∷ x) (sym (append-nil (map dead_rec (o ∷ r))))
      extends false o r = refl

      opened : (r : List ℕ) → table_by b false (occupied r) (map dead_rec r) ≡ tables_recs (cons_opt (new_table (program_by S K) b r) [])
      opened [] = refl
      opened (o ∷ r) = extends S.extensible o r

      masks : (m : Bool) (r : List ℕ) → table_by b m (occupied r) (map dead_rec r) ≡ tables_recs (cons_opt (cond m none (new_table (program_by S K) b r)) [])
      masks true r = refl
      masks false r = opened r

  -- the tables of k arguments from b on
  pub tables-at : (k b : ℕ) → 1 ≤ b → b + k ≤ suc S.arity
      → tables_at leaders (opens_of S K os) os S.mask S.extensible i b k ≡ tables_recs (later_tables (program_by S K) k b clauses)
  unfolding tables_at list_to
  tables-at zero b p q = refl
  tables-at (suc k) b p q =
      let at : ℕ → List Rec = table_at leaders (opens_of S K os) os S.mask S.extensible i in
      let here : b + 0 ≡ b = omega arith in
      list-first (λ t. at (b + t)) k
      ∙ ap₂ (λ (x y : List Rec). x ++ y) (ap at here ∙ table-at b p (omega arith))
      (list-cong (λ t. at (b + suc t)) (λ t. at (suc b + t)) k (λ t h. (let e : b + suc t ≡ suc b + t = omega arith in ap at e))
      ∙ tables-at k (suc b) (omega arith) (omega arith))
      ∙ sym (tables-cons (later_table (program_by S K) b clauses) (later_tables (program_by S K) k (suc b) clauses))
