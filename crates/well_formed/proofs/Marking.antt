-- Lines counted and offsets marked, one turn more; and the answer over both.
-- Assumes nothing.
use mathlib.Core.Path.{◌≡◌, refl, sym, ◌∙◌, ap}
use mathlib.Core.Bool.{Bool, true, false, cond, ◌||◌}
use mathlib.Core.List.{List, [], ◌∷◌, ◌++◌}
use Prim.Native.Nat.{ℕ, zero, suc, ◌+◌, ◌≤◌, ◌<◌}
use native.Mathlib.Numerals.{add-one}
use native.Mathlib.Nat.{add-zero}
use native.Mathlib.Omega.{arith}
use Rattle.std.proofs.lemmas.Bool.{and_parts, eqb-false, eqb-true, lt-ltb, ltb-true}
use Rattle.std.specs.Cmp.Derive.{both_true}
use lib.Dec.{eqb, ltb}
use lib.ListN.{length, get_or, take, drop, set, replicate}
use Rattle.std.proofs.lemmas.List.{take_more}
use lib.Seq.{get_or-set_same, get_or-set_other}
use Rattle.records.specs.declared.Rec.{Rec}
use Rattle.records.specs.Records.{zero_rec}
use Rattle.indexing_iter.specs.Checks.{rising_below}
use Rattle.indexing_iter.specs.Clauses.{known}
use Rattle.indexing_iter.proofs.CheckLaws.{start-known, known-range}
use Rattle.indexing.specs.Lines.{Line, Index}
use Rattle.indexing.specs.Reading.{Waiting, read_all, parse}
use Rattle.well_formed.specs.WellFormed.{well_formed}
use Rattle.well_formed.specs.Pass.{one_line, marked, Marks, nothing, checked}
use Rattle.indexing.specs.Chains.{Cleared}
use Rattle.well_formed.proofs.KeyParts.{drop_back}
use Rattle.well_formed.proofs.PassIs.{pass-is}
use Rattle.well_formed.proofs.Turns.{turn-of, turn_lines}

-- ---- lines

pub lines_more : (R : List Rec) (i j n : ℕ) (r : Rec) → j + 1 ≡ i → i ≤ length R → r ≡ get_or R j zero_rec
    → n ≡ length (parse (drop i R)) → n + one_line r.kind ≡ length (parse (drop j R))
lines_more R i j n r next low here e =
    let w : Waiting = read_all (drop i R) nothing in
    let f : drop j R ≡ r ∷ drop i R = drop_back R i j next low ∙ ap (λ (q : Rec). q ∷ drop i R) (sym here) in
    rw (f, turn_lines (turn-of r.kind r w), e) (go (eqb r.kind 1) (record { tables = w.tables; choices = w.choices }) w.lines)
  where
    go : (b : Bool) (x : Line) (ls : Index) → length ls + cond b 1 0 ≡ length (cond b (x ∷ ls) ls)
    go true x ls = add-one (length ls)
    go false x ls = add-zero (length ls)

-- ---- offsets

pub get_or-zeros : (n o : ℕ) → ◌≡◌ {A = ℕ} (get_or (replicate n 0) o 0) 0
get_or-zeros zero o = refl
get_or-zeros (suc n) zero = refl
get_or-zeros (suc n) (suc o) = get_or-zeros n o

-- one offset more at the end
known_push : (starts : List ℕ) (s o : ℕ) → known (starts ++ s ∷ []) o ≡ known starts o || eqb (suc s) o
unfolding known
known_push [] s o = or_none (eqb (suc s) o)
  where
    or_none : (b : Bool) → b || false ≡ b
    or_none true = refl
    or_none false = refl
known_push (t ∷ ts) s o = ap (λ (b : Bool). eqb (suc t) o || b) (known_push ts s o) ∙ or_assoc (eqb (suc t) o) (known ts o) (eqb (suc s) o)
  where
    or_assoc : (a b c : Bool) → a || (b || c) ≡ (a || b) || c
    or_assoc true b c = refl
    or_assoc false b c = refl

pub marks-none : (marks : List ℕ) → Cleared marks → Marks marks []
unfolding marked known
marks-none marks c o = rw (c o)

pub marks-more : (marks starts : List ℕ) (i : ℕ) → i < length starts → get_or starts i 0 + 1 < length marks → Marks marks (take i starts)
    → Marks (set marks (get_or starts i 0 + 1) 1) (take (i + 1) starts)
unfolding marked
marks-more marks starts i l h m o =
    let n : ℕ = get_or starts i 0 in
    rw (take_more starts i 0 l, known_push (take i starts) n o, add-one n) (go n (omega arith) (eqb (suc n) o) refl)
  where
    last : (b : Bool) → true ≡ b || true
    last true = refl
    last false = refl

    same : (b : Bool) → b ≡ b || false
    same true = refl
    same false = refl

    go : (n : ℕ) → suc n < length marks → (b : Bool) → eqb (suc n) o ≡ b → marked (set marks (suc n) 1) o ≡ known (take i starts) o || b
    go n h true e =
        let q : suc n ≡ o = eqb-true (suc n) o e in
        rw (← q, get_or-set_same marks (suc n) 1 0 h) (last (known (take i starts) (suc n)))
    go n h false e = rw (get_or-set_other marks (suc n) o 1 0 (λ q. eqb-false (suc n) o e (sym q))) (m o ∙ same (known (take i starts) o))

pub start-below : (n : ℕ) (starts : List ℕ) (j : ℕ) → rising_below n starts ≡ true → j < length starts → get_or starts j 0 < n
start-below n starts j e h = omega (arith, known-range n starts (suc (get_or starts j 0)) e (start-known starts j h))

pub rising-higher : (m n : ℕ) (starts : List ℕ) → n ≤ m → rising_below n starts ≡ true → rising_below m starts ≡ true
unfolding rising_below
rising-higher m n [] h e = refl
rising-higher m n (s ∷ []) h e = lt-ltb s m (omega (arith, ltb-true s n e))
rising-higher m n (s ∷ (t ∷ ts)) h e =
    let x = and_parts (ltb s t) (rising_below n (t ∷ ts)) e in both_true x.0 (rising-higher m n (t ∷ ts) h x.1)

-- the check over marks and counted lines answers as number 12's definition over the starts
pub answer : (arity : ℕ) (dynamic : Bool) (marks starts : List ℕ) (n total : ℕ) (rs : List Rec) → Marks marks starts → rising_below n starts ≡ true → n ≤ 32768
    → arity ≤ 32 → total ≡ length (parse rs) → checked arity dynamic (marked marks) total rs ≡ well_formed arity dynamic (known starts) rs
answer arity dynamic marks starts n total rs m e h small f =
    let k : marked marks ≡ known starts = λ i o. m o i in
    ap (λ (g : ℕ → Bool). checked arity dynamic g total rs) k
    ∙ ap (λ (t : ℕ). checked arity dynamic (known starts) t rs) f
    ∙ pass-is arity dynamic (known starts) small (λ o p. omega (arith, known-range n starts o e p)) rs
