-- A walk's place in the records of a stored index: each step over the records leads from one table or line to the next as in the lines
-- that the records are those of.
-- Assumes nothing.
use mathlib.Core.Path.{◌≡◌, refl, sym, ap, ap₂, ◌∙◌, subst}
use mathlib.Core.Bool.{Bool, false, not, ◌||◌}
use mathlib.Core.List.{List, [], ◌∷◌, ◌++◌, map, append_assoc, append-nil}
use Prim.Native.Nat.{ℕ, zero, suc, ◌+◌, ◌-◌, ◌≤◌, ◌<◌}
use native.Mathlib.Nat.{add-zero, zero-add}
use native.Mathlib.Numerals.{add-one}
use native.Mathlib.Omega.{arith}
use Rattle.std.proofs.lemmas.Bool.{both_ways}
use Rattle.std.specs.List.{AllByRecursion}
use lib.Dec.{eqb}
use lib.ListN.{length, get_or, take, drop, length-append, length-drop, length-map}
use lib.Seq.{slice, length-take-le, take-take, take-add, take_at, drop_at, drop-drop, drop-append-add, drop-append_seam, take-append_seam, get_or-drop}
use Rattle.records.specs.declared.Rec.{Rec}
use Rattle.records.specs.Records.{zero_rec}
use Rattle.indexing.proofs.Lists.{all_append}
use Rattle.indexing.proofs.Reading.{FitEntry}
use Rattle.indexing.specs.Build.{Program}
use Rattle.indexing.specs.Columns.{words_of}
use Rattle.indexing.specs.Lines.{Ptr, Entry, Table, switch, on_demand, dead, Choice, Line, Index, no_line, line_at, offs}
use Rattle.indexing.specs.Lines.{entry_rec, dead_rec, table_recs, tables_recs, choice_rec, line_rec, records}
use Rattle.indexing_iter.specs.declared.OptArgIndexKey.{OptArgIndexKey as Key}
use Rattle.indexing_scan.proofs.ChooseLaws.{choose-entries}
use Rattle.indexing_scan.proofs.Turns.{line-zero}
use Rattle.indexing_scan.specs.Walk.{choose}
use Rattle.indexing_scan.specs.Places.{is_item, is_table, is_tables, is_offset, leaves, up_to, through_line, behind_table, behind_line, first_offset, offsets_at, head_rec, At}
use Rattle.indexing_scan.specs.Places.{choose_rec, choice_of}

-- ---- runs

upto-pass : (t : Rec → Bool) (xs ys : List Rec) → AllByRecursion (λ r. t r ≡ false) xs → up_to t (xs ++ ys) ≡ length xs + up_to t ys
unfolding up_to
upto-pass t [] ys f = sym (zero-add (up_to t ys))
upto-pass t (x ∷ xs) ys f = rw f.0 (omega (arith, upto-pass t xs ys f.1))

through-pass : (d : ℕ) (xs ys : List Rec) → AllByRecursion (λ r. eqb r.kind 1 ≡ false) xs
    → through_line (suc d) (xs ++ ys) ≡ length xs + through_line (suc d) ys
unfolding through_line
through-pass d [] ys f = sym (zero-add (through_line (suc d) ys))
through-pass d (x ∷ xs) ys f = rw f.0 (omega (arith, through-pass d xs ys f.1))

all_map : {A : Type 0} (Φ : Rec → Type 0) (g : A → Rec) → ((x : A) → Φ (g x)) → (xs : List A) → AllByRecursion Φ (map g xs)
all_map Φ g f [] = tt
all_map Φ g f (x ∷ xs) = (f x, all_map Φ g f xs)

-- the records of a table behind its own
abbrev pub item_recs : Table → List Rec
item_recs (switch a es) = map entry_rec es
item_recs (on_demand a) = []
item_recs (dead a os) = map dead_rec os

table-recs : (t : Table) → table_recs t ≡ head_rec t ∷ item_recs t
table-recs (switch a es) = refl
table-recs (on_demand a) = refl
table-recs (dead a os) = refl

-- what holds of the kinds of items, and of those of tables
items-kinds : (Ψ : ℕ → Type 0) → Ψ 5 → Ψ 7 → (t : Table) → AllByRecursion (λ r. Ψ r.kind) (item_recs t)
items-kinds Ψ e d (switch a es) = all_map (λ r. Ψ r.kind) entry_rec (λ x. e) es
items-kinds Ψ e d (on_demand a) = tt
items-kinds Ψ e d (dead a os) = all_map (λ r. Ψ r.kind) dead_rec (λ x. d) os

tables-kinds : (Ψ : ℕ → Type 0) → Ψ 2 → Ψ 3 → Ψ 4 → Ψ 5 → Ψ 7 → (ts : List Table) → AllByRecursion (λ r. Ψ r.kind) (tables_recs ts)
tables-kinds Ψ a b c e d [] = tt
tables-kinds Ψ a b c e d (t ∷ ts) = all_append (λ r. Ψ r.kind) (table_recs t) (tables_recs ts) (go t) (tables-kinds Ψ a b c e d ts)
  where
    go : (t : Table) → AllByRecursion (λ r. Ψ r.kind) (table_recs t)
    go (switch x es) = (a, items-kinds Ψ e d (switch x es))
    go (on_demand x) = (b, tt)
    go (dead x os) = (c, items-kinds Ψ e d (dead x os))

choices-kinds : (Ψ : ℕ → Type 0) → Ψ 6 → (cs : List Choice) → AllByRecursion (λ r. Ψ r.kind) (map choice_rec cs)
choices-kinds Ψ e cs = all_map (λ r. Ψ r.kind) choice_rec (λ x. e) cs

-- where the three runs end
items-end : (ts : List Table) (cs : List Choice) (m n : ℕ) (xs : Index) → up_to (leaves is_item) (tables_recs ts ++ (map choice_rec cs ++ records m n xs)) ≡ 0
unfolding up_to leaves
items-end (switch a es ∷ ts) cs m n xs = refl
items-end (on_demand a ∷ ts) cs m n xs = refl
items-end (dead a os ∷ ts) cs m n xs = refl
items-end [] (c ∷ cs) m n xs = refl
items-end [] [] m n [] = refl
items-end [] [] m n (x ∷ xs) = refl

tables_end : (cs : List Choice) (m n : ℕ) (xs : Index) → up_to (leaves is_tables) (map choice_rec cs ++ records m n xs) ≡ 0
unfolding up_to leaves
tables_end (c ∷ cs) m n xs = refl
tables_end [] m n [] = refl
tables_end [] m n (x ∷ xs) = refl

offsets-end : (m n : ℕ) (xs : Index) → up_to (leaves is_offset) (records m n xs) ≡ 0
unfolding up_to leaves
offsets-end m n [] = refl
offsets-end m n (x ∷ xs) = refl

-- ---- to a later line

-- the rest of a line is passed
line-pass : (d : ℕ) (ts : List Table) (cs : List Choice) (zs : List Rec)
    → through_line (suc d) (tables_recs ts ++ (map choice_rec cs ++ zs)) ≡ length (tables_recs ts) + (length (map choice_rec cs) + through_line (suc d) zs)
line-pass d ts cs zs =
    through-pass d (tables_recs ts) (map choice_rec cs ++ zs) (tables-kinds (λ k. eqb k 1 ≡ false) refl refl refl refl refl ts)
    ∙ ap (λ (k : ℕ). length (tables_recs ts) + k) (through-pass d (map choice_rec cs) zs (choices-kinds (λ k. eqb k 1 ≡ false) refl cs))

drop-two : (xs ys zs : List Rec) (k : ℕ) → drop (length xs + (length ys + k)) (xs ++ (ys ++ zs)) ≡ drop k zs
drop-two xs ys zs k = drop-append-add xs (ys ++ zs) (length ys + k) ∙ drop-append-add ys zs k

-- what stands behind the record of line d
lands : (m n d : ℕ) (xs : Index) → d < length xs
    → (through_line (suc d) (records m n xs) ≤ length (records m n xs))
    × (drop (through_line (suc d) (records m n xs)) (records m n xs)
    ≡ tables_recs (line_at xs d).tables ++ (map choice_rec (line_at xs d).choices ++ records m (suc n + d) (drop (suc d) xs)))
unfolding through_line
lands m n d [] h = absurd (omega arith)
lands m n zero (x ∷ xs) h =
    let rest : List Rec = tables_recs x.tables ++ (map choice_rec x.choices ++ records m (suc n) xs) in
    let e : through_line zero rest + 1 ≡ 1 = omega (arith, line-zero rest) in
    (omega arith, ap (λ (k : ℕ). drop k (line_rec m n ∷ rest)) e ∙ rw (add-zero (suc n)))
lands m n (suc d) (x ∷ xs) h =
    let ts : List Rec = tables_recs x.tables in
    let cs : List Rec = map choice_rec x.choices in
    let zs : List Rec = records m (suc n) xs in
    let k : ℕ = through_line (suc d) zs in
    let w = lands m (suc n) d xs (omega arith) in
    let e : through_line (suc d) (ts ++ (cs ++ zs)) ≡ length ts + (length cs + k) = line-pass d x.tables x.choices zs in
    let i : suc (suc n) + d ≡ suc n + suc d = omega arith in (
      omega (arith, w.0, length-append ts (cs ++ zs), length-append cs zs),
      ap (λ (j : ℕ). drop j (line_rec m n ∷ (ts ++ (cs ++ zs)))) (add-one (through_line (suc d) (ts ++ (cs ++ zs))))
          ∙ ap (λ (j : ℕ). drop j (ts ++ (cs ++ zs))) e ∙ drop-two ts cs zs k ∙ rw i at w.1,
    )

-- ---- parts of lists

-- a part, cut out from its start
part-is : (l : List Rec) (p k : ℕ) → p ≤ length l → slice p (p + k) l ≡ take k (drop p l)
part-is l p k h = ap (drop p) (take-add p k l) ∙ drop_at (take p l) (take k (drop p l)) p (length-take-le p l h)

-- a part of the first n is a part of the whole
part-first : (l : List Rec) (f t n : ℕ) → t ≤ n → slice f t l ≡ slice f t (take n l)
part-first l f t n h = ap (drop f) (sym (take-take t n l h))

-- the record at a place is the first of those from there on
front-is : (l : List Rec) (p : ℕ) → get_or l p zero_rec ≡ get_or (drop p l) 0 zero_rec
front-is l p = ap (λ (k : ℕ). get_or l k zero_rec) (sym (add-zero p)) ∙ sym (get_or-drop p l 0 zero_rec)

-- ---- what is known at a place

-- the records of the tables ts of line l, of the line's offsets, and of the later lines
abbrev pub left : ℕ → Index → ℕ → List Table → List Rec
left m idx l ts = tables_recs ts ++ (map choice_rec (line_at idx l).choices ++ records m (suc l) (drop (suc l) idx))

module _ {m : ℕ} {idx : Index} {rs : List Rec} {l : ℕ} where
  pub left-length : {ts : List Table} {p : ℕ} → At m idx rs l ts p → length (left m idx l ts) ≡ length rs - p
  left-length {ts} {p} at = ap length (sym at.rest) ∙ length-drop p rs

  -- k records on
  further : {ts us : List Table} {p : ℕ} (k : ℕ) (passed : List Table) → At m idx rs l ts p → k ≤ length (left m idx l ts) → drop k (left m idx l ts) ≡ left m idx l us
      → passed ++ us ≡ (line_at idx l).tables → At m idx rs l us (p + k)
  further {ts} {us} {p} k passed at h e f = record {
    line = at.line;
    within = omega (arith, at.within, left-length at);
    passed = passed;
    tables = f;
    rest = sym (drop-drop k p rs) ∙ ap (drop k) at.rest ∙ e;
  }

  module _ {t : Table} {ts : List Table} {p : ℕ} (at : At m idx rs l (t ∷ ts) p) where
    pub starts : left m idx l (t ∷ ts) ≡ head_rec t ∷ (item_recs t ++ left m idx l ts)
    starts = append_assoc (table_recs t) (tables_recs ts) (map choice_rec (line_at idx l).choices ++ records m (suc l) (drop (suc l) idx))
        ∙ ap (λ (x : List Rec). x ++ left m idx l ts) (table-recs t)

    -- 5: a table's own record stands there
    pub at-below : p < length rs
    at-below = omega (arith, left-length at, ap length starts)

    pub at-record : get_or rs p zero_rec ≡ head_rec t
    at-record = front-is rs p ∙ ap (λ (x : List Rec). get_or x 0 zero_rec) (at.rest ∙ starts)

    items-run : up_to (leaves is_item) (drop (p + 1) rs) ≡ length (item_recs t)
    unfolding leaves
    items-run =
        ap (up_to (leaves is_item)) (sym (drop-drop 1 p rs) ∙ ap (drop 1) (at.rest ∙ starts))
        ∙ upto-pass (leaves is_item) (item_recs t) (left m idx l ts) (items-kinds (λ k. not (is_item k) ≡ false) refl refl t)
        ∙ ap (λ (k : ℕ). length (item_recs t) + k) (items-end ts (line_at idx l).choices m (suc l) (drop (suc l) idx))
        ∙ add-zero (length (item_recs t))

    behind-is : behind_table rs p ≡ p + suc (length (item_recs t))
    unfolding behind_table
    behind-is = omega (arith, items-run)

    -- 1: behind a table the others are left
    pub at-skip : (q : ℕ) → q ≡ behind_table rs p → At m idx rs l ts q
    at-skip q e = subst (At m idx rs l ts) (sym (e ∙ behind-is))
        (further (suc (length (item_recs t))) (at.passed ++ (t ∷ [])) at
        (omega (arith, ap length starts, length-append (item_recs t) (left m idx l ts)))
        (ap (drop (suc (length (item_recs t)))) starts ∙ drop-append_seam (item_recs t) (left m idx l ts))
        (append_assoc at.passed (t ∷ []) ts ∙ at.tables))

    -- 6: its items stand between its record and the next table
    pub at-items : (q : ℕ) → q ≡ behind_table rs p → slice (p + 1) q rs ≡ item_recs t
    at-items q e =
        let n : q ≡ p + 1 + length (item_recs t) = omega (arith, e, behind-is) in
        ap (λ (x : ℕ). slice (p + 1) x rs) n ∙ part-is rs (p + 1) (length (item_recs t)) (omega (arith, at-below))
        ∙ ap (take (length (item_recs t))) (sym (drop-drop 1 p rs) ∙ ap (drop 1) (at.rest ∙ starts)) ∙ take-append_seam (item_recs t) (left m idx l ts)

  module _ {ts : List Table} {p : ℕ} (at : At m idx rs l ts p) where
    tables-run : first_offset rs p ≡ p + length (tables_recs ts)
    unfolding first_offset leaves
    tables-run = ap (λ (k : ℕ). p + k)
        (ap (up_to (leaves is_tables)) at.rest
        ∙ upto-pass (leaves is_tables) (tables_recs ts) (left m idx l []) (tables-kinds (λ k. not (is_table k || is_item k) ≡ false) refl refl refl refl refl ts)
        ∙ ap (λ (k : ℕ). length (tables_recs ts) + k) (tables_end (line_at idx l).choices m (suc l) (drop (suc l) idx))
        ∙ add-zero (length (tables_recs ts)))

    -- 3: behind all tables none is left
    pub at-offsets : (q : ℕ) → q ≡ first_offset rs p → At m idx rs l [] q
    at-offsets q e = subst (At m idx rs l []) (sym (e ∙ tables-run))
        (further (length (tables_recs ts)) (line_at idx l).tables at
        (omega (arith, length-append (tables_recs ts) (left m idx l [])))
        (drop-append_seam (tables_recs ts) (left m idx l []))
        (append-nil (line_at idx l).tables))

    -- 2: behind the d-th line record all tables of that line are left
    pub at-line : (d q : ℕ) → 1 ≤ d → l + d < length idx → q ≡ behind_line rs p d → At m idx rs (l + d) (line_at idx (l + d)).tables q
    unfolding behind_line
    at-line d q h k e =
        let xs : Index = drop (suc l) idx in
        let zs : List Rec = records m (suc l) xs in
        let cs : List Rec = map choice_rec (line_at idx l).choices in
        let j : ℕ = through_line (suc (d - 1)) zs in
        let s : d ≡ suc (d - 1) = omega arith in
        let w = lands m (suc l) (d - 1) xs (omega (arith, length-drop (suc l) idx)) in
        let n : suc l + (d - 1) ≡ l + d = omega arith in
        let n' : suc l + suc (d - 1) ≡ suc (l + d) = omega arith in
        let n'' : suc (suc l) + (d - 1) ≡ suc (l + d) = omega arith in
        let v : line_at xs (d - 1) ≡ line_at idx (l + d) = get_or-drop (suc l) idx (d - 1) no_line ∙ ap (line_at idx) n in
        let u : through_line d (drop p rs) ≡ length (tables_recs ts) + (length cs + j) =
        ap₂ through_line s at.rest ∙ line-pass (d - 1) ts (line_at idx l).choices zs in
        record {
          line = k;
          within = omega (arith, w.0, at.within, left-length at, length-append (tables_recs ts) (cs ++ zs), length-append cs zs);
          passed = [];
          tables = refl;
          rest =
              ap (λ (x : ℕ). drop x rs) (e ∙ ap (λ (x : ℕ). p + x) u) ∙ sym (drop-drop (length (tables_recs ts) + (length cs + j)) p rs)
              ∙ ap (drop (length (tables_recs ts) + (length cs + j))) at.rest ∙ drop-two (tables_recs ts) cs zs j
              ∙ w.1 ∙ ap₂ (λ (x : Line) (y : List Rec). tables_recs x.tables ++ (map choice_rec x.choices ++ y)) v
              (ap₂ (records m) n'' (drop-drop (suc (d - 1)) (suc l) idx ∙ ap (λ (x : ℕ). drop x idx) n'));
        }

  module _ {q : ℕ} (at : At m idx rs l [] q) where
    offsets_run : offsets_at rs q ≡ length (line_at idx l).choices
    unfolding offsets_at leaves
    offsets_run =
        ap (up_to (leaves is_offset)) at.rest
        ∙ upto-pass (leaves is_offset) (map choice_rec (line_at idx l).choices) (records m (suc l) (drop (suc l) idx))
        (choices-kinds (λ k. not (eqb k 6) ≡ false) refl (line_at idx l).choices)
        ∙ ap (λ (k : ℕ). length (map choice_rec (line_at idx l).choices) + k) (offsets-end m (suc l) (drop (suc l) idx))
        ∙ add-zero (length (map choice_rec (line_at idx l).choices)) ∙ length-map (line_at idx l).choices choice_rec

    -- 3: where no table is left, the offsets of the line stand
    pub at_count : (k : ℕ) → k ≡ offsets_at rs q → k ≡ length (line_at idx l).choices
    at_count k e = e ∙ offsets_run

    pub at-choices : (k : ℕ) → k ≡ offsets_at rs q → slice q (q + k) rs ≡ map choice_rec (line_at idx l).choices
    at-choices k e =
        let cs : List Rec = map choice_rec (line_at idx l).choices in
        part-is rs q k at.within ∙ ap₂ take (e ∙ offsets_run) at.rest
        ∙ take_at cs (records m (suc l) (drop (suc l) idx)) (length (line_at idx l).choices) (length-map (line_at idx l).choices choice_rec)

    pub at_none : is_table (get_or rs q zero_rec).kind ≡ false
    at_none = go (line_at idx l).choices (drop (suc l) idx) at.rest
      where
        go : (cs : List Choice) (xs : Index) → drop q rs ≡ map choice_rec cs ++ records m (suc l) xs → is_table (get_or rs q zero_rec).kind ≡ false
        go (c ∷ cs) xs e = ap (λ (x : Rec). is_table x.kind) (front-is rs q ∙ ap (λ (x : List Rec). get_or x 0 zero_rec) e)
        go [] (x ∷ xs) e = ap (λ (x : Rec). is_table x.kind) (front-is rs q ∙ ap (λ (x : List Rec). get_or x 0 zero_rec) e)
        go [] [] e = ap (λ (x : Rec). is_table x.kind) (front-is rs q ∙ ap (λ (x : List Rec). get_or x 0 zero_rec) e)

-- ---- what the record at a place tells of the tables left

-- the first table left is a switch, on demand, or dead, for argument a
pub record LeftSwitch (ts : List Table) (a : ℕ) : Type 0 where
  pub entries : List (Entry Ptr)
  pub later : List Table
  pub is : ts ≡ switch a entries ∷ later

pub record LeftDemand (ts : List Table) (a : ℕ) : Type 0 where
  pub later : List Table
  pub is : ts ≡ on_demand a ∷ later

pub record LeftDead (ts : List Table) (a : ℕ) : Type 0 where
  pub clauses : List ℕ
  pub later : List Table
  pub is : ts ≡ dead a clauses ∷ later

module _ {m : ℕ} {idx : Index} {rs : List Rec} {l : ℕ} {p : ℕ} where
  -- a kind that is none of a table's, and one that is: what is left
  other-kind : {t : Table} {ts : List Table} (k : ℕ) → At m idx rs l (t ∷ ts) p → (get_or rs p zero_rec).kind ≡ k → (head_rec t).kind ≡ k
  other-kind k at e = sym (ap (λ (r : Rec). r.kind) (at-record at)) ∙ e

  half_is : {t : Table} {ts : List Table} → At m idx rs l (t ∷ ts) p → (get_or rs p zero_rec).half ≡ (head_rec t).half
  half_is at = ap (λ (r : Rec). r.half) (at-record at)

  -- kind 2
  pub at-switch : (ts : List Table) → At m idx rs l ts p → (get_or rs p zero_rec).kind ≡ 2 → LeftSwitch ts (get_or rs p zero_rec).half
  at-switch [] at e = absurd (both_ways _ (at_none at) (ap is_table e))
  at-switch (switch a es ∷ ts) at e = record { entries = es; later = ts; is = ap (λ (x : ℕ). switch x es ∷ ts) (sym (half_is at)) }
  at-switch (on_demand a ∷ ts) at e = absurd (omega (arith, other-kind 2 at e))
  at-switch (dead a os ∷ ts) at e = absurd (omega (arith, other-kind 2 at e))

  -- kind 3
  pub at-demand : (ts : List Table) → At m idx rs l ts p → (get_or rs p zero_rec).kind ≡ 3 → LeftDemand ts (get_or rs p zero_rec).half
  at-demand [] at e = absurd (both_ways _ (at_none at) (ap is_table e))
  at-demand (switch a es ∷ ts) at e = absurd (omega (arith, other-kind 3 at e))
  at-demand (on_demand a ∷ ts) at e = record { later = ts; is = ap (λ (x : ℕ). on_demand x ∷ ts) (sym (half_is at)) }
  at-demand (dead a os ∷ ts) at e = absurd (omega (arith, other-kind 3 at e))

  -- kind 4
  pub at_dead : (ts : List Table) → At m idx rs l ts p → (get_or rs p zero_rec).kind ≡ 4 → LeftDead ts (get_or rs p zero_rec).half
  at_dead [] at e = absurd (both_ways _ (at_none at) (ap is_table e))
  at_dead (switch a es ∷ ts) at e = absurd (omega (arith, other-kind 4 at e))
  at_dead (on_demand a ∷ ts) at e = absurd (omega (arith, other-kind 4 at e))
  at_dead (dead a os ∷ ts) at e = record { clauses = os; later = ts; is = ap (λ (x : ℕ). dead x os ∷ ts) (sym (half_is at)) }

  -- any other kind
  pub at_last : (ts : List Table) → At m idx rs l ts p → is_table (get_or rs p zero_rec).kind ≡ false → ts ≡ []
  at_last [] at e = refl
  at_last (switch a es ∷ ts) at e = absurd (both_ways _ e (ap (λ (r : Rec). is_table r.kind) (at-record at)))
  at_last (on_demand a ∷ ts) at e = absurd (both_ways _ e (ap (λ (r : Rec). is_table r.kind) (at-record at)))
  at_last (dead a os ∷ ts) at e = absurd (both_ways _ e (ap (λ (r : Rec). is_table r.kind) (at-record at)))

-- ---- the same in the buffer, whose first n records are the index's

pub words-choices : (cs : List Choice) → words_of (map choice_rec cs) ≡ offs cs
unfolding words_of
words-choices [] = refl
words-choices (c ∷ cs) = ap (λ (os : List ℕ). c.offset ∷ os) (words-choices cs)

module _ (R : List Rec) (n : ℕ) (fits : n ≤ length R) {m : ℕ} {idx : Index} {l : ℕ} where
  pub place-within : {ts : List Table} {p : ℕ} → At m idx (take n R) l ts p → p ≤ n
  place-within at = omega (arith, at.within, length-take-le n R fits)

  pub place-below : {t : Table} {ts : List Table} {p : ℕ} → At m idx (take n R) l (t ∷ ts) p → p < n
  place-below at = omega (arith, at-below at, length-take-le n R fits)

  -- 4: the words copied are the offsets of the line
  pub at-copied : {q : ℕ} → At m idx (take n R) l [] q → (k : ℕ) → k ≡ offsets_at (take n R) q → q + k ≤ n
      → words_of (slice q (q + k) R) ≡ offs (line_at idx l).choices
  at-copied {q} at k e h = ap words_of (part-first R q (q + k) n h ∙ at-choices at k e) ∙ words-choices (line_at idx l).choices

  -- 6: what is chosen among the records behind a switch is what the walk chooses among its entries
  pub at-chosen : (P : Program) (key : Key) {a : ℕ} {es : List (Entry Ptr)} {ts : List Table} {p : ℕ} → At m idx (take n R) l (switch a es ∷ ts) p
      → AllByRecursion FitEntry es
      → (q : ℕ) → q ≡ behind_table (take n R) p → q ≤ n → choice_of (choose_rec key (slice (p + 1) q R)) ≡ choose P key es
  at-chosen P key {es = es} {p = p} at f q e h = choose-entries P key es (slice (p + 1) q R) f (part-first R (p + 1) q n h ∙ at-items at q e)
