-- A sound index told line by line, each line by the lines behind it: the check goes from the last record to the first.
-- Assumes nothing.
use mathlib.Core.Path.{◌≡◌, refl, sym, ◌∙◌, ap}
use mathlib.Core.Bool.{Bool, true, false, cond, not, ◌&&◌}
use mathlib.Core.List.{List, [], ◌∷◌}
use Prim.Native.Nat.{ℕ, zero, suc, ◌+◌, ◌≤◌, ◌<◌}
use native.Mathlib.Numerals.{add-one}
use native.Mathlib.Omega.{arith}
use Rattle.std.specs.List.{list_all, AllByRecursion}
use Rattle.std.proofs.lemmas.Bool.{and_parts, false≢true, le-leb, leb-true, lt-ltb, ltb-false, ltb-true}
use Rattle.std.specs.Cmp.Derive.{both_true}
use lib.Dec.{leb, ltb}
use lib.ListN.{length, drop}
use lib.Seq.{get_or-drop, drop-drop}
use Rattle.indexing.specs.Lines.{Ptr, ext, int, Entry, Table, switch, on_demand, dead, arg_of, Line, Index, no_line, line_at}
use Rattle.well_formed.specs.WellFormed.{rising_ok, args_ok, keys_ok, entry_keys, choices_ok, pointer_ok, table_ok, line_ok, lines_ok}
use Rattle.well_formed.specs.Pass.{first_arg, lower, reach, least}

-- ---- the first argument of some tables

pub args-above : (m a : ℕ) (ts : List Table) → args_ok m 1 ts ≡ true → a < first_arg ts → args_ok m (suc a) ts ≡ true
args-above m a [] e h = refl
args-above m a (t ∷ ts) e h =
    let x = and_parts (leb 1 (arg_of t)) (leb (arg_of t) m && args_ok m (suc (arg_of t)) ts) e in both_true (le-leb (suc a) (arg_of t) h) x.1

pub args-first : (m a : ℕ) (ts : List Table) → a ≤ 32 → args_ok m (suc a) ts ≡ true → a < first_arg ts
args-first m a [] h e = omega arith
args-first m a (t ∷ ts) h e = leb-true (suc a) (arg_of t) (and_parts (leb (suc a) (arg_of t)) (leb (arg_of t) m && args_ok m (suc (arg_of t)) ts) e).0

-- ---- the lower of two numbers

lower-both : (a m n : ℕ) → a < lower m n → (a < m) × (a < n)
lower-both a m n = go (ltb m n) refl
  where
    go : (b : Bool) → ltb m n ≡ b → a < cond b m n → (a < m) × (a < n)
    go true e h = omega (arith, ltb-true m n e)
    go false e h = omega (arith, ltb-false m n e)

both-lower : (a m n : ℕ) → a < m → a < n → a < lower m n
both-lower a m n h k = go (ltb m n)
  where
    go : (b : Bool) → a < cond b m n
    go true = h
    go false = k

module _ (arity : ℕ) (dynamic : Bool) (known : ℕ → Bool) where
  -- a table, a line, the lines from one on: the argument of a switch is below the bounds of its pointers
  abbrev pub FineTable : Index → Table → Type 0
  FineTable ls (switch a es) = (keys_ok 1 (entry_keys es) ≡ true) × (a < least dynamic known ls es)
  FineTable ls (on_demand a) = Unit {0}
  FineTable ls (dead a os) = rising_ok known 1 os ≡ true

  abbrev pub FineLine : Index → Line → Type 0
  FineLine ls x = (args_ok arity 1 x.tables ≡ true) × AllByRecursion (FineTable ls) x.tables × (choices_ok dynamic known x.choices ≡ true)

  abbrev pub Fine : Index → Type 0
  Fine [] = Unit {0}
  Fine (x ∷ ls) = FineLine ls x × Fine ls

  fine-at : (ls : Index) (d : ℕ) → Fine ls → d < length ls → args_ok arity 1 (line_at ls d).tables ≡ true
  fine-at [] d f h = absurd (omega arith)
  fine-at (x ∷ ls) zero f h = f.0.0
  fine-at (x ∷ ls) (suc d) f h = fine-at ls d f.1 (omega arith)

  -- ---- in line l of an index, ls the lines behind it

  module _ (idx : Index) (l : ℕ) (ls : Index) (behind : drop (suc l) idx ≡ ls) (count : suc l + length ls ≡ length idx) where
    target : (d : ℕ) → line_at idx (l + suc d) ≡ line_at ls d
    target d =
        let e : l + suc d ≡ suc l + d = omega arith in
        ap (line_at idx) e ∙ sym (get_or-drop (suc l) idx d no_line) ∙ ap (λ (xs : Index). line_at xs d) behind

    pointer-reach : (a : ℕ) (p : Ptr) → a ≤ 32 → pointer_ok arity dynamic known idx l a p ≡ true → a < reach dynamic known ls p
    pointer-reach a (ext o) h e = rw e (omega arith)
    pointer-reach a (int zero) h e = absurd (false≢true e)
    pointer-reach a (int (suc d)) h e =
        let y = and_parts (leb 1 (suc d)) (ltb (l + suc d) (length idx) && args_ok arity (suc a) (line_at idx (l + suc d)).tables) e in
        let x = and_parts (ltb (l + suc d) (length idx)) (args_ok arity (suc a) (line_at idx (l + suc d)).tables) y.1 in
        let k : d < length ls = omega (arith, ltb-true (l + suc d) (length idx) x.0) in
        rw (lt-ltb d (length ls) k) (args-first arity a (line_at ls d).tables h (rw (target d) at x.1))

    reach-pointer : (a : ℕ) (p : Ptr) → Fine ls → a < reach dynamic known ls p → pointer_ok arity dynamic known idx l a p ≡ true
    reach-pointer a (ext o) f h = go (not dynamic && known o) refl h
      where
        go : (b : Bool) → not dynamic && known o ≡ b → a < cond b 33 0 → not dynamic && known o ≡ true
        go true e h = e
        go false e h = absurd (omega arith)
    reach-pointer a (int zero) f h = absurd (omega arith)
    reach-pointer a (int (suc d)) f h = go (ltb d (length ls)) refl h
      where
        go : (b : Bool) → ltb d (length ls) ≡ b → a < cond b (first_arg (line_at ls d).tables) 0 → pointer_ok arity dynamic known idx l a (int (suc d)) ≡ true
        go true e h =
            let k : d < length ls = ltb-true d (length ls) e in
            both_true (le-leb 1 (suc d) (omega arith)) (both_true (lt-ltb (l + suc d) (length idx) (omega arith))
            (rw (target d) (args-above arity a (line_at ls d).tables (fine-at ls d f k) h)))
        go false e h = absurd (omega arith)

    pointers-least : (a : ℕ) (es : List (Entry Ptr)) → a ≤ 32 → list_all (λ e. pointer_ok arity dynamic known idx l a e.to) es ≡ true
        → a < least dynamic known ls es
    pointers-least a [] h e = omega arith
    pointers-least a (x ∷ es) h e =
        let y = and_parts (pointer_ok arity dynamic known idx l a x.to) (list_all (λ e. pointer_ok arity dynamic known idx l a e.to) es) e in
        both-lower a (reach dynamic known ls x.to) (least dynamic known ls es) (pointer-reach a x.to h y.0) (pointers-least a es h y.1)

    least-pointers : (a : ℕ) (es : List (Entry Ptr)) → Fine ls → a < least dynamic known ls es
        → list_all (λ e. pointer_ok arity dynamic known idx l a e.to) es ≡ true
    least-pointers a [] f h = refl
    least-pointers a (x ∷ es) f h =
        let y = lower-both a (reach dynamic known ls x.to) (least dynamic known ls es) h in
        both_true (reach-pointer a x.to f y.0) (least-pointers a es f y.1)

    module _ (small : arity ≤ 32) where
      tables-fine : (n : ℕ) (ts : List Table) → args_ok arity n ts ≡ true → list_all (table_ok arity dynamic known idx l) ts ≡ true
          → AllByRecursion (FineTable ls) ts
      tables-fine n [] a e = tt
      tables-fine n (t ∷ ts) a e =
          let x = and_parts (leb n (arg_of t)) (leb (arg_of t) arity && args_ok arity (suc (arg_of t)) ts) a in
          let y = and_parts (leb (arg_of t) arity) (args_ok arity (suc (arg_of t)) ts) x.1 in
          let z = and_parts (table_ok arity dynamic known idx l t) (list_all (table_ok arity dynamic known idx l) ts) e in
          let h : arg_of t ≤ 32 = omega (arith, leb-true (arg_of t) arity y.0) in
          (go t h z.0, tables-fine (suc (arg_of t)) ts y.1 z.1)
        where
          go : (t : Table) → arg_of t ≤ 32 → table_ok arity dynamic known idx l t ≡ true → FineTable ls t
          go (switch a es) h e =
              let x = and_parts (keys_ok 1 (entry_keys es)) (list_all (λ e. pointer_ok arity dynamic known idx l a e.to) es) e in
              (x.0, pointers-least a es h x.1)
          go (on_demand a) h e = tt
          go (dead a os) h e = e

    fine-tables : (ts : List Table) → Fine ls → AllByRecursion (FineTable ls) ts → list_all (table_ok arity dynamic known idx l) ts ≡ true
    fine-tables [] f g = refl
    fine-tables (t ∷ ts) f g = both_true (go t g.0) (fine-tables ts f g.1)
      where
        go : (t : Table) → FineTable ls t → table_ok arity dynamic known idx l t ≡ true
        go (switch a es) g = both_true g.0 (least-pointers a es f g.1)
        go (on_demand a) g = refl
        go (dead a os) g = g

  -- ---- all lines

  next : (idx : Index) (l : ℕ) (x : Line) (xs : Index) → drop l idx ≡ x ∷ xs → drop (suc l) idx ≡ xs
  next idx l x xs e = ap (λ (k : ℕ). drop k idx) (sym (add-one l)) ∙ sym (drop-drop 1 l idx) ∙ ap (drop 1) e

  pub lines-fine : arity ≤ 32 → (idx : Index) (l : ℕ) (xs : Index) → drop l idx ≡ xs → l + length xs ≡ length idx
      → lines_ok arity dynamic known idx l xs ≡ true → Fine xs
  lines-fine small idx l [] e c o = tt
  lines-fine small idx l (x ∷ xs) e c o =
      let y = and_parts (line_ok arity dynamic known idx l x) (lines_ok arity dynamic known idx (suc l) xs) o in
      let u = and_parts (args_ok arity 1 x.tables) (list_all (table_ok arity dynamic known idx l) x.tables && choices_ok dynamic known x.choices) y.0 in
      let v = and_parts (list_all (table_ok arity dynamic known idx l) x.tables) (choices_ok dynamic known x.choices) u.1 in
      let b : drop (suc l) idx ≡ xs = next idx l x xs e in
      let n : suc l + length xs ≡ length idx = omega arith in
      ((u.0, tables-fine idx l xs b n small 1 x.tables u.0 v.0, v.1), lines-fine small idx (suc l) xs b n y.1)

  pub fine-lines : (idx : Index) (l : ℕ) (xs : Index) → drop l idx ≡ xs → l + length xs ≡ length idx → Fine xs
      → lines_ok arity dynamic known idx l xs ≡ true
  fine-lines idx l [] e c f = refl
  fine-lines idx l (x ∷ xs) e c f =
      let b : drop (suc l) idx ≡ xs = next idx l x xs e in
      let n : suc l + length xs ≡ length idx = omega arith in
      both_true (both_true f.0.0 (both_true (fine-tables idx l xs b n x.tables f.1 f.0.1) f.0.2)) (fine-lines idx (suc l) xs b n f.1)
