-- What a well-formed index is told to be: orderly, and its records those of the index that they stand for.
-- Assumes nothing.
use mathlib.Core.Path.{◌≡◌, refl, subst}
use mathlib.Core.Bool.{Bool, true, false, cond, ◌&&◌}
use mathlib.Core.List.{List, [], ◌∷◌}
use mathlib.Core.Option.{some}
use Prim.Native.Nat.{ℕ, zero, suc, ◌+◌, ◌<◌}
use native.Mathlib.Nat.{add-zero, zero-add}
use native.Mathlib.Omega.{arith}
use Rattle.std.specs.List.{list_all}
use Rattle.std.proofs.lemmas.Bool.{and_parts, eqb-true, leb-true, ltb-true}
use lib.Dec.{eqb, leb, ltb}
use lib.ListN.{length, get_or}
use Rattle.records.specs.declared.Rec.{Rec}
use Rattle.indexing.proofs.Linked.{Linked, linked-nil, linked-cons}
use Rattle.indexing.proofs.Order.{Args, Beyond, beyond-ext, beyond-int, Orderly}
use Rattle.indexing.specs.Build.{Program}
use Rattle.indexing.specs.Lines.{Ptr, ext, int, Entry, Table, switch, Choice, Line, Index, no_line, line_at, arg_of, find, mode_of, records}
use Rattle.indexing.specs.Reading.{parse}
use Rattle.well_formed.specs.WellFormed.{args_ok, keys_ok, entry_keys, choices_ok, pointer_ok, table_ok, line_ok, lines_ok, index_ok, rec_ok, recs_ok}
use Rattle.well_formed.specs.WellFormed.{well_formed}

pub args_of : (m n : ℕ) (ts : List Table) → args_ok m n ts ≡ true → Args m n ts
args_of m n [] e = tt
args_of m n (t ∷ ts) e =
    let x = and_parts (leb n (arg_of t)) (leb (arg_of t) m && args_ok m (suc (arg_of t)) ts) e in
    let y = and_parts (leb (arg_of t) m) (args_ok m (suc (arg_of t)) ts) x.1 in
    (leb-true n (arg_of t) x.0, leb-true (arg_of t) m y.0, args_of m (suc (arg_of t)) ts y.1)

rec-equal : (r s : Rec) → rec_ok r s ≡ true → r ≡ s
rec-equal r s e =
    let a = and_parts (eqb r.kind s.kind) (eqb r.sub s.sub && (eqb r.half s.half && (eqb r.word s.word && eqb r.long s.long))) e in
    let b = and_parts (eqb r.sub s.sub) (eqb r.half s.half && (eqb r.word s.word && eqb r.long s.long)) a.1 in
    let c = and_parts (eqb r.half s.half) (eqb r.word s.word && eqb r.long s.long) b.1 in
    let d = and_parts (eqb r.word s.word) (eqb r.long s.long) c.1 in
    let k : r.kind ≡ s.kind = eqb-true _ _ a.0 in
    let u : r.sub ≡ s.sub = eqb-true _ _ b.0 in
    let h : r.half ≡ s.half = eqb-true _ _ c.0 in
    let w : r.word ≡ s.word = eqb-true _ _ d.0 in
    let l : r.long ≡ s.long = eqb-true _ _ d.1 in
    λ i. record { kind = k i; sub = u i; half = h i; word = w i; long = l i }

pub recs-equal : (rs ss : List Rec) → recs_ok rs ss ≡ true → rs ≡ ss
recs-equal [] [] e = refl
recs-equal [] (s ∷ ss) e = let z : ◌≡◌ {A = ℕ} 0 1 = cc in absurd (omega arith)
recs-equal (r ∷ rs) [] e = let z : ◌≡◌ {A = ℕ} 0 1 = cc in absurd (omega arith)
recs-equal (r ∷ rs) (s ∷ ss) e =
    let x = and_parts (rec_ok r s) (recs_ok rs ss) e in
    λ i. rec-equal r s x.0 i ∷ recs-equal rs ss x.1 i

module _ (P : Program) (known : ℕ → Bool) (idx : Index) where
  pointers-of : (l a : ℕ) (es : List (Entry Ptr)) → list_all (λ e. pointer_ok P.arity P.dynamic known idx l a e.to) es ≡ true
      → Linked (Beyond P.arity idx l a) es es
  pointers-of l a [] e = linked-nil
  pointers-of l a (x ∷ xs) e =
      let y = and_parts (pointer_ok P.arity P.dynamic known idx l a x.to) (list_all (λ e. pointer_ok P.arity P.dynamic known idx l a e.to) xs) e in
      linked-cons (go x.to y.0) (pointers-of l a xs y.1)
    where
      go : (x : Ptr) → pointer_ok P.arity P.dynamic known idx l a x ≡ true → Beyond P.arity idx l a x x
      go (ext o) e = beyond-ext
      go (int d) e =
          let y = and_parts (leb 1 d) (ltb (l + d) (length idx) && args_ok P.arity (suc a) (line_at idx (l + d)).tables) e in
          let z = and_parts (ltb (l + d) (length idx)) (args_ok P.arity (suc a) (line_at idx (l + d)).tables) y.1 in
          beyond-int (leb-true 1 d y.0) (ltb-true (l + d) (length idx) z.0) (args_of P.arity (suc a) (line_at idx (l + d)).tables z.1)

  -- the table found for b is a switch on b, and its pointers are good
  tables-of : (l b c : ℕ) (es : List (Entry Ptr)) (ts : List Table) → list_all (table_ok P.arity P.dynamic known idx l) ts ≡ true
      → find b ts ≡ some (switch c es)
      → Linked (Beyond P.arity idx l b) es es
  tables-of l b c es [] e f = let z : ◌≡◌ {A = ℕ} 0 1 = cc in absurd (omega arith)
  tables-of l b c es (t ∷ ts) e f =
      go (eqb (arg_of t) b) refl f (and_parts (table_ok P.arity P.dynamic known idx l t) (list_all (table_ok P.arity P.dynamic known idx l) ts) e)
      (tables-of l b c es ts)
    where
      go : (x : Bool) → eqb (arg_of t) b ≡ x → cond x (some t) (find b ts) ≡ some (switch c es)
          → (table_ok P.arity P.dynamic known idx l t ≡ true) × (list_all (table_ok P.arity P.dynamic known idx l) ts ≡ true)
          → (list_all (table_ok P.arity P.dynamic known idx l) ts ≡ true → find b ts ≡ some (switch c es) → Linked (Beyond P.arity idx l b) es es)
          → Linked (Beyond P.arity idx l b) es es
      go true x f y ih =
          let g : t ≡ switch c es = cc in
          let w : table_ok P.arity P.dynamic known idx l (switch c es) ≡ true = rw g at y.0 in
          let v : c ≡ b = eqb-true _ _ (rw g at x) in
          subst (λ (d : ℕ). Linked (Beyond P.arity idx l d) es es) v
          (pointers-of l c es (and_parts (keys_ok 1 (entry_keys es)) (list_all (λ e. pointer_ok P.arity P.dynamic known idx l c e.to) es) w).1)
      go false x f y ih = ih y.1 f

  pub lines_of : (n l : ℕ) (xs : List Line) → lines_ok P.arity P.dynamic known idx n xs ≡ true → l < length xs → line_ok P.arity P.dynamic known idx (n + l) (get_or xs l no_line) ≡ true
  lines_of n l [] e h = absurd (omega arith)
  lines_of n zero (x ∷ xs) e h = rw (add-zero n) (and_parts (line_ok P.arity P.dynamic known idx n x) (lines_ok P.arity P.dynamic known idx (suc n) xs) e).0
  lines_of n (suc l) (x ∷ xs) e h =
      let k : suc n + l ≡ n + suc l = omega arith in
      rw k at (lines_of (suc n) l xs (and_parts (line_ok P.arity P.dynamic known idx n x) (lines_ok P.arity P.dynamic known idx (suc n) xs) e).1 (omega arith))

-- a sound index is orderly
pub well-orderly : (P : Program) (known : ℕ → Bool) (idx : Index) → index_ok P.arity P.dynamic known idx ≡ true → Orderly P idx
well-orderly P known idx e = record {
  rises = λ l h. args_of P.arity 1 (line_at idx l).tables (split l h).0;
  leads = record { within = λ l b c es h f. tables-of P known idx l b c es (line_at idx l).tables (split l h).1 f };
}
  where
    split : (l : ℕ) → l < length idx
        → (args_ok P.arity 1 (line_at idx l).tables ≡ true) × (list_all (table_ok P.arity P.dynamic known idx l) (line_at idx l).tables ≡ true)
    split l h =
        let o : line_ok P.arity P.dynamic known idx l (line_at idx l) ≡ true =
        rw (zero-add l) at (lines_of P known idx 0 l idx (and_parts (ltb 0 (length idx)) (lines_ok P.arity P.dynamic known idx 0 idx) e).1 h) in
        let ts : List Table = (line_at idx l).tables in
        let cs : List Choice = (line_at idx l).choices in
        let x = and_parts (args_ok P.arity 1 ts) (list_all (table_ok P.arity P.dynamic known idx l) ts && choices_ok P.dynamic known cs) o in
        (x.0, (and_parts (list_all (table_ok P.arity P.dynamic known idx l) ts) (choices_ok P.dynamic known cs) x.1).0)

-- writing what was read gives the records back
pub well-records : (P : Program) (known : ℕ → Bool) (rs : List Rec) → well_formed P.arity P.dynamic known rs ≡ true → records (mode_of P.dynamic) 0 (parse rs) ≡ rs
well-records P known rs e =
    recs-equal (records (mode_of P.dynamic) 0 (parse rs)) rs
    (and_parts (recs_ok (records (mode_of P.dynamic) 0 (parse rs)) rs) (index_ok P.arity P.dynamic known (parse rs)) e).0

pub well-index : (P : Program) (known : ℕ → Bool) (rs : List Rec) → well_formed P.arity P.dynamic known rs ≡ true → index_ok P.arity P.dynamic known (parse rs) ≡ true
well-index P known rs e = (and_parts (recs_ok (records (mode_of P.dynamic) 0 (parse rs)) rs) (index_ok P.arity P.dynamic known (parse rs)) e).1
