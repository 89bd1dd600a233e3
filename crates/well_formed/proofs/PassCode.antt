-- The pass as the code makes it: its state is that of the reading, and each turn reads one record more.
-- Assumes nothing.
use mathlib.Core.Path.{◌≡◌, refl, sym, ◌∙◌, ap}
use mathlib.Core.Bool.{Bool, true, false, cond, ◌&&◌}
use mathlib.Core.List.{List, [], ◌∷◌, ◌++◌}
use Prim.Native.Nat.{ℕ, zero, suc, ◌+◌, ◌-◌, ◌≤◌, ◌<◌}
use native.Mathlib.Omega.{arith}
use Rattle.std.proofs.lemmas.Bool.{and_parts, both_ways, false_from_ne_true, le-ltb, lt-ltb, ltb-false, ltb-true}
use Rattle.std.specs.Cmp.Derive.{both_true}
use lib.Dec.{eqb, ltb}
use lib.ListN.{length, get_or, take, drop, set, take-append-drop}
use Rattle.std.proofs.lemmas.List.{length-drop}
use lib.Seq.{get_or-set_same, get_or-set_other}
use Rattle.records.specs.declared.Rec.{Rec}
use Rattle.records.specs.Records.{zero_rec}
use Rattle.indexing.specs.Lines.{Ptr, ext, int, Line, Index, line_at}
use Rattle.indexing.specs.Reading.{pointer_from, Waiting, read, read_all}
use Rattle.well_formed.specs.declared.Waits.{Waits}
use Rattle.well_formed.specs.Pass.{first_arg, reach, waits, step_ok, fresh, after, reach_in, noted, distinct_keys, keys_once, passed_by}
use Rattle.well_formed.specs.Pass.{closed, nothing, pass, checked}
use Rattle.well_formed.proofs.KeyParts.{drop_back, once-behind}
use Rattle.well_formed.proofs.Turns.{turn-of, turn_lines, turn-after, all-bound, pass-behind}

-- ---- the first arguments of the lines behind

abbrev pub Noted : List ℕ → Index → Type 0
Noted firsts ls = (d : ℕ) → d < length ls → get_or firsts (length ls - suc d) 0 ≡ first_arg (line_at ls d).tables

noted_more : (firsts : List ℕ) (x : Line) (ls : Index) → length ls < length firsts → Noted firsts ls
    → Noted (set firsts (length ls) (first_arg x.tables)) (x ∷ ls)
noted_more firsts x ls h n zero k =
    let e : suc (length ls) - 1 ≡ length ls = omega arith in
    ap (λ (i : ℕ). get_or (set firsts (length ls) (first_arg x.tables)) i 0) e ∙ get_or-set_same firsts (length ls) (first_arg x.tables) 0 h
noted_more firsts x ls h n (suc d) k =
    let e : suc (length ls) - suc (suc d) ≡ length ls - suc d = omega arith in
    ap (λ (i : ℕ). get_or (set firsts (length ls) (first_arg x.tables)) i 0) e
    ∙ get_or-set_other firsts (length ls) (length ls - suc d) (first_arg x.tables) 0 (omega arith) ∙ n d (omega arith)

noted-turn : (b : Bool) (firsts : List ℕ) (x : Line) (ls : Index) → length ls < length firsts → Noted firsts ls
    → Noted (cond b (set firsts (length ls) (first_arg x.tables)) firsts) (cond b (x ∷ ls) ls)
noted-turn true firsts x ls h n = noted_more firsts x ls h n
noted-turn false firsts x ls h n = n

reach-noted : (dynamic : Bool) (known : ℕ → Bool) (firsts : List ℕ) (ls : Index) (p : Ptr) → Noted firsts ls
    → reach_in dynamic known firsts (length ls) p ≡ reach dynamic known ls p
unfolding reach_in
reach-noted dynamic known firsts ls (ext o) n = refl
reach-noted dynamic known firsts ls (int zero) n = refl
reach-noted dynamic known firsts ls (int (suc d)) n =
    rw (le-ltb (suc d) 1 (omega arith)) (go (ltb d (length ls)) refl)
  where
    go : (b : Bool) → ltb d (length ls) ≡ b
        → cond (ltb (length ls) (suc d)) 0 (get_or firsts (length ls - suc d) 0) ≡ cond b (first_arg (line_at ls d).tables) 0
    go true e = let h : d < length ls = ltb-true d (length ls) e in rw (le-ltb (length ls) (suc d) h) (n d h)
    go false e = let h : length ls < suc d = omega (arith, ltb-false d (length ls) e) in rw (lt-ltb (length ls) (suc d) h)

module _ (arity : ℕ) (dynamic : Bool) (known : ℕ → Bool) (total : ℕ) where
  -- the records rs have passed; s and firsts are what the code keeps of the reading
  pub record Met (rs : List Rec) (s : Waits) (firsts : List ℕ) : Type 0 where
    pub passed : pass arity dynamic known total nothing rs ≡ true
    pub state : s ≡ waits dynamic known (read_all rs nothing)
    pub first : Noted firsts (read_all rs nothing).lines

  pub met_start : (firsts : List ℕ) (rs : List Rec) (s : Waits) → rs ≡ [] → s ≡ fresh 0 → Met rs s firsts
  unfolding pass
  met_start firsts rs s e f = record { passed = rw e; state = f ∙ rw e; first = rw e (λ d h. absurd (omega arith)) }

  met-bound : {rs : List Rec} {s : Waits} {firsts : List ℕ} → Met rs s firsts → (s.lines ≤ length rs) × (s.entries ≤ length rs)
  met-bound {rs} {s} m =
      let b = all-bound rs in
      let l : s.lines ≡ length (read_all rs nothing).lines = ap (λ (t : Waits). t.lines) m.state in
      let e : s.entries ≡ length (read_all rs nothing).entries = ap (λ (t : Waits). t.entries) m.state in
      omega (arith, b)

  module _ {rs : List Rec} {s : Waits} {firsts : List ℕ} (m : Met rs s firsts) (r : Rec) where
    -- the tests of a turn are those of the pass
    keys-are : keys_once r.kind (read_all rs nothing).entries ≡ cond (eqb r.kind 2) (distinct_keys (take s.entries rs)) true
    unfolding keys_once
    keys-are =
        let w = read_all rs nothing in
        let e : s.entries ≡ length w.entries = ap (λ (t : Waits). t.entries) m.state in
        ap (λ (b : Bool). cond (eqb r.kind 2) b true)
        (once-behind w.entries rs (pass-behind arity dynamic known total rs m.passed) ∙ ap (λ (n : ℕ). distinct_keys (take n rs)) (sym e))

    met-pass : pass arity dynamic known total nothing (r ∷ rs)
        ≡ step_ok arity dynamic known total r.kind r s && cond (eqb r.kind 2) (distinct_keys (take s.entries rs)) true
    unfolding pass
    met-pass = rw (m.passed, ← m.state, keys-are) (last _)
      where
        last : (b : Bool) → b && true ≡ b
        last true = refl
        last false = refl

    met-more : (rs' : List Rec) (s' : Waits) (firsts' : List ℕ) → rs' ≡ r ∷ rs → s.lines < length firsts
        → step_ok arity dynamic known total r.kind r s ≡ true → cond (eqb r.kind 2) (distinct_keys (take s.entries rs)) true ≡ true
        → s' ≡ after r.kind r s (reach_in dynamic known firsts s.lines (pointer_from r.word))
        → firsts' ≡ noted r.kind s.lines s.first firsts → Met rs' s' firsts'
    unfolding noted
    met-more rs' s' firsts' e h t k f g =
        let w = read_all rs nothing in
        let v = read r.kind r w in
        let l : s.lines ≡ length w.lines = ap (λ (t : Waits). t.lines) m.state in
        let a : s.first ≡ first_arg w.tables = ap (λ (t : Waits). t.first) m.state in
        let p : Ptr = pointer_from r.word in
        let n : reach_in dynamic known firsts s.lines p ≡ reach dynamic known w.lines p =
        ap (λ (i : ℕ). reach_in dynamic known firsts i p) l ∙ reach-noted dynamic known firsts w.lines p m.first in
        let q : Met (r ∷ rs) s' firsts' =
        record {
          passed = met-pass ∙ both_true t k;
          state = f ∙ rw (n, m.state) (turn-after dynamic known (turn-of r.kind r w));
          first = rw (g, turn_lines (turn-of r.kind r w), l, a)
              (noted-turn (eqb r.kind 1) firsts (record { tables = w.tables; choices = w.choices }) w.lines (omega arith) m.first);
        } in
        rw e q

  -- ---- a record that fails

  behind-passes : (w : Waiting) (xs ys : List Rec) → pass arity dynamic known total w (xs ++ ys) ≡ true → pass arity dynamic known total w ys ≡ true
  unfolding pass
  behind-passes w [] ys e = e
  behind-passes w (x ∷ xs) ys e =
      let v = read_all (xs ++ ys) w in
      behind-passes w xs ys (and_parts (step_ok arity dynamic known total x.kind x (waits dynamic known v) && keys_once x.kind v.entries)
      (pass arity dynamic known total w (xs ++ ys)) e).1

  all-fail : (rs : List Rec) (i : ℕ) → pass arity dynamic known total nothing (drop i rs) ≡ false → pass arity dynamic known total nothing rs ≡ false
  all-fail rs i e =
      false_from_ne_true _ (λ f. both_ways _ e (behind-passes nothing (take i rs) (drop i rs)
      (ap (pass arity dynamic known total nothing) (take-append-drop i rs) ∙ f)))

  -- ---- a turn of the loop

  -- the records from i on have passed, and r is the one in front of them
  pub record Here (R : List Rec) (i : ℕ) (r : Rec) (s : Waits) (firsts : List ℕ) : Type 0 where
    pub met : Met (drop i R) s firsts
    pub some : 0 < i
    pub low : i ≤ length R
    pub is : r ≡ get_or R (i - 1) zero_rec

  module _ {R : List Rec} {i : ℕ} {r : Rec} {s : Waits} {firsts : List ℕ} (h : Here R i r s firsts) where
    front : drop (i - 1) R ≡ r ∷ drop i R
    front =
        let next : i - 1 + 1 ≡ i = omega (arith, h.some) in
        drop_back R i (i - 1) next h.low ∙ ap (λ (q : Rec). q ∷ drop i R) (sym h.is)

    -- the tests of a record of kind k
    abbrev pub Tests : ℕ → Bool
    Tests k = passed_by arity dynamic known total k r s (drop i R)

    pub refused : (k : ℕ) → r.kind ≡ k → Tests k ≡ false → checked arity dynamic known total R ≡ false
    unfolding checked
    refused k e t =
        let u : Tests r.kind ≡ false = ap Tests e ∙ t in
        let f : pass arity dynamic known total nothing (drop (i - 1) R) ≡ false =
        ap (pass arity dynamic known total nothing) front ∙ met-pass h.met r ∙ u in
        rw (all-fail R (i - 1) f)

    pub met-turn : (k : ℕ) → r.kind ≡ k → (s' : Waits) (firsts' : List ℕ) → s.lines < length firsts → Tests k ≡ true
        → s' ≡ after k r s (reach_in dynamic known firsts s.lines (pointer_from r.word))
        → firsts' ≡ noted k s.lines s.first firsts → Met (drop (i - 1) R) s' firsts'
    met-turn k e s' firsts' l t f g =
        let x = and_parts (step_ok arity dynamic known total r.kind r s) (cond (eqb r.kind 2) (distinct_keys (take s.entries (drop i R))) true)
        (ap Tests e ∙ t) in
        met-more h.met r (drop (i - 1) R) s' firsts' front l x.0 x.1
        (f ∙ ap (λ (n : ℕ). after n r s (reach_in dynamic known firsts s.lines (pointer_from r.word))) (sym e))
        (g ∙ ap (λ (n : ℕ). noted n s.lines s.first firsts) (sym e))

  pub met-within : (R : List Rec) (i : ℕ) (s : Waits) (firsts : List ℕ) → i ≤ length R → Met (drop i R) s firsts
      → (s.lines + i ≤ length R) × (s.entries + i ≤ length R)
  met-within R i s firsts k m = omega (arith, k, met-bound m, length-drop i R)

  pub met-end : (R : List Rec) (i : ℕ) (s : Waits) (firsts : List ℕ) → i ≡ 0 → Met (drop i R) s firsts
      → closed s ≡ checked arity dynamic known total R
  unfolding checked
  met-end R i s firsts e m =
      let n : Met R s firsts = rw e at m in
      rw (n.passed, ← n.state)
