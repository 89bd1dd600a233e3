-- Laws of the loops that read a line's columns: leaders, sizes, keys, open arguments, offsets and tags.
-- Assumes nothing.
use mathlib.Core.Path.{◌≡◌, refl, sym, ap, ap₂, ◌∙◌}
use Prim.Native.Nat.{ℕ, zero, suc, ◌+◌, ◌-◌, ◌*◌, ◌≤◌, ◌<◌}
use native.Mathlib.Nat.{not-suc-le-zero, le_of_suc-le-suc}
use native.Mathlib.Numerals.{add-one}
use native.Mathlib.Decide.{ℕ_discrete}
use native.Mathlib.Omega.{arith}
use mathlib.Core.Bool.{Bool, true, false, cond}
use mathlib.Core.List.{List, [], ◌∷◌, ◌++◌, map, append_assoc}
use Rattle.std.proofs.lemmas.Bool.{eq-eqb, ltb-true, ne_eqb}
use Rattle.std.proofs.Math.Bool.{or-true}
use lib.Dec.{eqb, ltb}
use lib.ListN.{length, get_or, take, drop, set, replicate, length-set, length-map, length-replicate, length-append, length-drop, get_or-replicate}
use lib.Seq.{slice, ext_get_or, get_or-set_same, get_or-set_other, get_or-take, get_or-drop, take_all, take_at, length-take-le, length-slice}
use borrow.Rule.Slice.PartMut.{mid_of, post_of, put_mid, same_len_mid}
use Rattle.records.specs.declared.Rec.{Rec}
use Rattle.records.specs.Records.{records_of, zero_rec}
use Rattle.records.proofs.Filled.{Filled}
use Rattle.indexing_iter.specs.declared.OptArgIndexKey.{OptArgIndexKey as Key}
use Rattle.indexing_iter.specs.declared.OptArgIndexKey.TheVariants.{List as ListKey, Literal, None, Structure}
use Rattle.indexing_iter.specs.Refusals.{passed}
use Rattle.indexing_iter.specs.Keys.{is_open}
use Rattle.indexing_iter.specs.Clauses.{key_of, known, offsets_of}
use Rattle.indexing_iter.specs.Rows.{head_of, keys_of}
use Rattle.indexing_iter.specs.Checks.{check_code, rising_below}
use Rattle.indexing_iter.proofs.CheckLaws.{rising-tail, rising-head, end_below}
use Rattle.indexing_iter.proofs.SameKeys.{KeyInRange}
use Rattle.indexing_iter.proofs.KeyLaws.{key-of-range, collected-at, CodeOk, code_ok}
use Rattle.indexing.proofs.BridgeLists.{list-cong, length-each, get_or-each}
use Rattle.indexing.proofs.BridgeColumns.{leader-first}
use Rattle.std.specs.Int.{from_bool}
use Rattle.indexing.specs.Upto.{count_to, list_to}
use Rattle.indexing.specs.Columns.{same_at, first_same, leader_of, leaders_to, member, size_of, sizes_to, open_row, opens_to}
use Rattle.index_writer.specs.Choices.{NumbersBelow, AllKnown, open_numbers}
use Rattle.index_writer.proofs.Upto.{count-le}

-- a slice that was filled to its end is the list
pub fill-whole : {A : Type 0} {s l₀ l : List A} {i : ℕ} → Filled s l₀ l i → length l₀ ≡ length s → length s ≤ i → l ≡ s
fill-whole {A} {s} {l₀} {l} {i} F e h =
    let u : length l ≤ i = omega (arith, F.same) in
    sym (take_all i l u) ∙ F.done ∙ take_all i s h

-- the lengths of a column, of what fills it, and of the clauses are one number
pub column-room : {m n k : ℕ} → m ≡ n → k ≡ n → m ≤ k
column-room e f = omega arith

pub column-in : {m n i : ℕ} → m ≡ n → i < n → i < m
column-in e h = omega arith

pub column-done : {m n i : ℕ} → m ≡ n → n ≤ i → m ≤ i
column-done e h = omega arith

-- an element of what a function makes of a list
get_or-map-in : {A B : Type 0} (f : A → B) (l : List A) (i : ℕ) (d : A) (e : B) → i < length l → get_or (map f l) i e ≡ f (get_or l i d)
get_or-map-in f [] i d e h = absurd (not-suc-le-zero h)
get_or-map-in f (x ∷ l) zero d e h = refl
get_or-map-in f (x ∷ l) (suc i) d e h = get_or-map-in f l i d e (le_of_suc-le-suc h)

-- ---- leaders

module _ (heads bits : List ℕ) where
  pub leader-start : (j : ℕ) → first_same heads bits j 0 (j - 0) ≡ leader_of heads bits j
  unfolding leader_of
  leader-start j =
      let e : j - 0 ≡ j = omega arith in
      rw e refl

  -- one place more: it has the key of clause j, or the first that has it comes later
  pub leader-step : (j i : ℕ) → i < j
      → first_same heads bits j i (j - i) ≡ cond (same_at heads bits i j) i (first_same heads bits j (i + 1) (j - (i + 1)))
  unfolding first_same
  leader-step j i h =
      let e : j - i ≡ suc (j - (i + 1)) = omega arith in
      rw (e, add-one i) refl

  pub leader-none : (j i : ℕ) → j ≤ i → first_same heads bits j i (j - i) ≡ j
  unfolding first_same
  leader-none j i h =
      let e : j - i ≡ 0 = omega arith in
      rw e refl

  pub length-leaders : (n : ℕ) → length (leaders_to heads bits n) ≡ n
  unfolding leaders_to
  length-leaders n = length-each (λ j. leader_of heads bits j) n

  pub get_or-leaders : (n j : ℕ) → j < n → get_or (leaders_to heads bits n) j 0 ≡ leader_of heads bits j
  unfolding leaders_to
  get_or-leaders n j h = get_or-each (λ j. leader_of heads bits j) n j 0 h

  -- each leader is a place
  pub leaders-below : (leaders : List ℕ) (n : ℕ) → leaders ≡ leaders_to heads bits n → NumbersBelow (length leaders) leaders
  leaders-below leaders n e i h =
      let l : length leaders ≡ n = ap length e ∙ length-leaders n in
      let g : get_or leaders i 0 ≡ leader_of heads bits i = ap (λ (x : List ℕ). get_or x i 0) e ∙ get_or-leaders n i (omega arith) in
      omega (arith, (leader-first heads bits i).high)

-- ---- sizes

module _ (leaders : List ℕ) (n : ℕ) where
  -- the sizes of the first n buckets by the first j clauses
  pub sizes_by : ℕ → List ℕ
  sizes_by j = list_to (λ i. count_to (member leaders i) j ∷ []) n

  pub length-sizes : (j : ℕ) → length (sizes_by j) ≡ n
  unfolding sizes_by
  length-sizes j = length-each (λ i. count_to (member leaders i) j) n

  get_or-sizes : (j i : ℕ) → i < n → get_or (sizes_by j) i 0 ≡ count_to (member leaders i) j
  unfolding sizes_by
  get_or-sizes j i h = get_or-each (λ i. count_to (member leaders i) j) n i 0 h

  pub sizes-small : (j i : ℕ) → i < n → get_or (sizes_by j) i 0 ≤ j
  sizes-small j i h = omega (arith, get_or-sizes j i h, count-le (member leaders i) j)

  pub sizes-none : replicate n 0 ≡ sizes_by 0
  unfolding count_to
  sizes-none =
      ext_get_or 0 (replicate n 0) (sizes_by 0) (length-replicate n 0 ∙ sym (length-sizes 0))
      (λ i h. let k : i < n = omega (arith, length-replicate {A = ℕ} n 0) in get_or-replicate n i 0 0 k ∙ sym (get_or-sizes 0 i k))

  -- one clause more: the size of its leader's bucket grows by one
  pub sizes-more : (j : ℕ) → get_or leaders j 0 < n
      → set (sizes_by j) (get_or leaders j 0) (get_or (sizes_by j) (get_or leaders j 0) 0 + 1) ≡ sizes_by (j + 1)
  unfolding count_to member
  sizes-more j h =
      ext_get_or 0 (set l m (get_or l m 0 + 1)) (sizes_by (j + 1)) (length-set l m (get_or l m 0 + 1) ∙ length-sizes j ∙ sym (length-sizes (j + 1)))
      (λ i k.
      let q : i < n = omega (arith, length-set l m (get_or l m 0 + 1), length-sizes j) in
      go i (ℕ_discrete i m) q ∙ sym (get_or-sizes (j + 1) i q ∙ ap (count_to (member leaders i)) (add-one j)))
    where
      m : ℕ
      m = get_or leaders j 0

      l : List ℕ
      l = sizes_by j

      go : (i : ℕ) → Dec (i ≡ m) → i < n → get_or (set l m (get_or l m 0 + 1)) i 0 ≡ count_to (member leaders i) j + from_bool (eqb m i)
      go i (yes e) q =
          rw (e, get_or-set_same l m (get_or l m 0 + 1) 0 (omega (arith, length-sizes j)), eq-eqb m m refl, get_or-sizes j m h)
      go i (no e) q =
          let w : eqb m i ≡ false = ne_eqb _ _ (λ x. e (sym x)) in
          rw (get_or-set_other l m i (get_or l m 0 + 1) 0 e, w, get_or-sizes j i q) (omega arith)

pub sizes-all : (leaders : List ℕ) (n j : ℕ) → j ≡ length leaders → sizes_by leaders n j ≡ sizes_to leaders n
unfolding sizes_by sizes_to size_of
sizes-all leaders n j e = rw e refl

-- ---- open arguments

pub length-open : (heads : List ℕ) (arity : ℕ) → length (open_numbers heads arity) ≡ 32
unfolding open_numbers
length-open heads arity = length-each (λ b. from_bool (cond (ltb b arity) (eqb (get_or heads b 0) 0) false)) 32

pub get_or-open : (heads : List ℕ) (arity b : ℕ) → b < 32 → get_or (open_numbers heads arity) b 0 ≡ from_bool (cond (ltb b arity) (eqb (get_or heads b 0) 0) false)
unfolding open_numbers
get_or-open heads arity b h = get_or-each (λ b. from_bool (cond (ltb b arity) (eqb (get_or heads b 0) 0) false)) 32 b 0 h

-- a key in range has head 0 if it is none
open-head : (k : Key) → KeyInRange k → eqb (head_of k) 0 ≡ is_open k
open-head None h = refl
open-head (Literal s b) h = ne_eqb (s * 65536 + 0) 0 (omega arith)
open-head (Structure n f) h = ne_eqb (4 * 65536 + n) 0 (omega arith)
open-head ListKey h = refl

-- the open arguments of a clause are told by the heads of its keys
pub open_row_lem : (K : ℕ → ℕ → Key) (arity o : ℕ) (heads : List ℕ) → ((b : ℕ) → b < arity → get_or heads b 0 ≡ head_of (K o (b + 1)))
    → ((b : ℕ) → KeyInRange (K o b)) → open_numbers heads arity ≡ open_row K arity o
unfolding open_numbers open_row
open_row_lem K arity o heads h r =
    list-cong (λ b. from_bool (cond (ltb b arity) (eqb (get_or heads b 0) 0) false) ∷ []) (λ b. from_bool (cond (ltb b arity) (is_open (K o (b + 1))) false) ∷ []) 32
    (λ b k. ap (λ (t : Bool). from_bool t ∷ []) (go b (ltb b arity) refl))
  where
    go : (b : ℕ) (t : Bool) → ltb b arity ≡ t → cond t (eqb (get_or heads b 0) 0) false ≡ cond t (is_open (K o (b + 1))) false
    go b true e = ap (λ (x : ℕ). eqb x 0) (h b (ltb-true b arity e)) ∙ open-head (K o (b + 1)) (r (b + 1))
    go b false e = refl

length-row : (K : ℕ → ℕ → Key) (arity o : ℕ) → length (open_row K arity o) ≡ 32
unfolding open_row
length-row K arity o = length-each (λ b. from_bool (cond (ltb b arity) (is_open (K o (b + 1))) false)) 32

-- a list that begins with what f makes of a clause's keys has that of the key at argument a
pub row_at : (f : Key → ℕ) (cls : ℕ → ℕ) (rs : List Rec) (starts : List ℕ) (o arity : ℕ) (l rest : List ℕ) (a : ℕ)
    → l ≡ map f (keys_of cls rs starts o arity) ++ rest → 1 ≤ a → a ≤ arity → get_or l (a - 1) 0 ≡ f (key_of cls rs starts o a)
row_at f cls rs starts o arity l rest a e h k = ap (λ (x : List ℕ). get_or x (a - 1) 0) e ∙ collected-at f cls rs starts o arity rest a h k

-- the open arguments of a clause of checked code, by a list that begins with the heads of its keys
pub row_open : (cls : ℕ → ℕ) (code starts : List ℕ) (o arity : ℕ) (l rest : List ℕ) → known starts o ≡ true → check_code cls arity code starts ≡ passed
    → l ≡ map head_of (keys_of cls (records_of code) starts o arity) ++ rest → open_numbers l arity ≡ open_row (key_of cls (records_of code) starts) arity o
row_open cls code starts o arity l rest k c e =
    open_row_lem (key_of cls (records_of code) starts) arity o l
    (λ b h.
    let q : b + 1 - 1 ≡ b = omega arith in
    ap (λ (x : ℕ). get_or l x 0) (sym q) ∙ row_at head_of cls (records_of code) starts o arity l rest (b + 1) e (omega arith) (omega arith))
    (λ b. key-of-range cls arity code starts o b k c)

-- the rows of the first i clauses stand at the front of the list
pub record Rows (K : ℕ → ℕ → Key) (arity : ℕ) (offs l₀ l : List ℕ) (i : ℕ) : Type 0 where
  pub same : length l ≡ length l₀
  pub done : take (32 * i) l ≡ opens_to K arity offs i

pub rows_start : (K : ℕ → ℕ → Key) (arity : ℕ) (offs l : List ℕ) → Rows K arity offs l l 0
unfolding opens_to list_to
rows_start K arity offs l = record { same = refl; done = refl }

-- a row is 32 numbers, and there is room for that of clause i
pub row-wide : (i : ℕ) → 32 * i + 32 - 32 * i ≡ 32
row-wide i = omega arith

pub row_room : {n i m : ℕ} → i < n → m ≡ 32 * n → 32 * i + 32 ≤ m
row_room h e = omega arith

-- the row of one clause more
pub rows_more : {K : ℕ → ℕ → Key} {arity : ℕ} {offs l₀ l : List ℕ} {i : ℕ} (k : ℕ) (row : List ℕ) → Rows K arity offs l₀ l i → 32 * i + 32 ≤ length l₀ → k ≡ 32
    → row ≡ open_row K arity (get_or offs i 0) → Rows K arity offs l₀ (put_mid (32 * i) k l row) (i + 1)
unfolding opens_to list_to
rows_more {K} {arity} {offs} {l₀} {l} {i} k row R h q e =
    let m : length row ≡ 32 = ap length e ∙ length-row K arity (get_or offs i 0) in
    let t : length (take (32 * i) l) ≡ 32 * i = length-take-le (32 * i) l (omega (arith, R.same)) in
    let p : length (mid_of (32 * i) k l) ≡ k = length-take-le k (drop (32 * i) l) (omega (arith, R.same, length-drop (32 * i) l)) in
    let u : length (take (32 * i) l ++ row) ≡ 32 * (i + 1) = omega (arith, length-append (take (32 * i) l) row) in
    record {
      same = same_len_mid (32 * i) k l row (omega arith) ∙ R.same;
      done = ap (take (32 * (i + 1))) (sym (append_assoc (take (32 * i) l) row (post_of (32 * i) k l)))
          ∙ take_at (take (32 * i) l ++ row) (post_of (32 * i) k l) (32 * (i + 1)) u
          ∙ ap₂ (λ (x y : List ℕ). x ++ y) R.done e
          ∙ ap (opens_to K arity offs) (sym (add-one i));
    }

pub rows_end : {K : ℕ → ℕ → Key} {arity : ℕ} {offs l₀ l : List ℕ} {i : ℕ} (n : ℕ) → Rows K arity offs l₀ l i → length l₀ ≡ 32 * n → n ≡ i
    → l ≡ opens_to K arity offs n
rows_end {K} {arity} {offs} {l₀} {l} {i} n R e q =
    let u : length l ≤ 32 * i = omega (arith, R.same) in
    sym (take_all (32 * i) l u) ∙ R.done ∙ ap (opens_to K arity offs) (sym q)

-- ---- offsets and tags

get_or-slice : (rs : List Rec) (f t i : ℕ) → f + i < t → get_or (slice f t rs) i zero_rec ≡ get_or rs (f + i) zero_rec
get_or-slice rs f t i h = get_or-drop f (take t rs) i zero_rec ∙ get_or-take t rs (f + i) zero_rec h

-- one field of the records from place f up to place t
pub length-field : (g : Rec → ℕ) (rs : List Rec) (f t : ℕ) → t ≤ length rs → length (map g (slice f t rs)) ≡ t - f
length-field g rs f t h = length-map (slice f t rs) g ∙ length-slice f t rs h

pub get_or-field : (g : Rec → ℕ) (rs : List Rec) (f t i : ℕ) → t ≤ length rs → f + i < t → get_or (map g (slice f t rs)) i 0 ≡ g (get_or rs (f + i) zero_rec)
get_or-field g rs f t i k h = get_or-map-in g (slice f t rs) i zero_rec 0 (omega (arith, length-slice f t rs k)) ∙ ap g (get_or-slice rs f t i h)

pub get_or-offsets : (starts : List ℕ) (i : ℕ) → i < length starts → get_or (offsets_of starts) i 0 ≡ get_or starts i 0 + 1
get_or-offsets starts i h = get_or-map-in suc starts i 0 0 h ∙ sym (add-one (get_or starts i 0))

-- the clauses' own offsets are known
pub offsets-known : (starts : List ℕ) → AllKnown starts (offsets_of starts)
unfolding known
offsets-known [] i h = absurd (not-suc-le-zero h)
offsets-known (s ∷ ss) zero h = rw (eq-eqb (suc s) _ refl) refl
offsets-known (s ∷ ss) (suc i) h = rw (offsets-known ss i (le_of_suc-le-suc h)) (or-true (eqb (suc s) (get_or (offsets_of ss) i 0)))

rising-below : (n : ℕ) (starts : List ℕ) → rising_below n starts ≡ true → NumbersBelow n starts
rising-below n [] e i h = absurd (not-suc-le-zero h)
rising-below n (s ∷ ss) e zero h = omega (arith, rising-head n s ss e, end_below n ss (rising-tail n s ss e))
rising-below n (s ∷ ss) e (suc i) h = rising-below n ss (rising-tail n s ss e) i (le_of_suc-le-suc h)

-- the starts of checked code are below 32768
pub starts-below : (cls : ℕ → ℕ) (arity : ℕ) (code starts : List ℕ) → check_code cls arity code starts ≡ passed → NumbersBelow 32768 starts
starts-below cls arity code starts e i h =
    let k : CodeOk cls arity (records_of code) starts = code_ok cls arity code starts e in
    omega (arith, k.size, rising-below (length (records_of code)) starts k.rising i h)
