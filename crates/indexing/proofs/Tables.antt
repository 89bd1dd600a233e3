-- The table for an argument: found, replaced, and the tables before and behind it.
-- Assumes nothing.
use mathlib.Core.Path.{◌≡◌, refl, sym, ◌∙◌, ap}
use mathlib.Core.Logic.{◌≢◌}
use mathlib.Core.Bool.{Bool, true, false, cond}
use mathlib.Core.List.{List, [], ◌∷◌, ◌++◌}
use mathlib.Core.Option.{some}
use Prim.Native.Nat.{ℕ}
use native.Mathlib.Omega.{arith}
use Rattle.std.proofs.lemmas.Bool.{eq-eqb, eqb-true, ne_eqb}
use lib.Dec.{eqb}
use Rattle.indexing.specs.Expanding.{front}
use Rattle.indexing.specs.Lines.{Table, arg_of, find, swap}

pub find-swap-other : (a b : ℕ) (u : Table) (ts : List Table) → arg_of u ≡ a → b ≢ a → find b (swap a u ts) ≡ find b ts
find-swap-other a b u [] e h = refl
find-swap-other a b u (t ∷ ts) e h = go (eqb (arg_of t) a) refl (find-swap-other a b u ts e h)
  where
    go : (x : Bool) → eqb (arg_of t) a ≡ x → find b (swap a u ts) ≡ find b ts → find b (cond x (u ∷ ts) (t ∷ swap a u ts)) ≡ find b (t ∷ ts)
    go true y ih = rw (ne_eqb (arg_of u) b (λ z. h (sym z ∙ e)), ne_eqb (arg_of t) b (λ z. h (sym z ∙ eqb-true _ _ y)))
    go false y ih = rw ih

pub find-swap-same : (a : ℕ) (u t : Table) (ts : List Table) → arg_of u ≡ a → find a ts ≡ some t → find a (swap a u ts) ≡ some u
find-swap-same a u t [] e h = let z : ◌≡◌ {A = ℕ} 0 1 = cc in absurd (omega arith)
find-swap-same a u t (v ∷ ts) e h = go (eqb (arg_of v) a) refl (find-swap-same a u t ts e)
  where
    go : (x : Bool) → eqb (arg_of v) a ≡ x → (find a ts ≡ some t → find a (swap a u ts) ≡ some u) → find a (cond x (u ∷ ts) (v ∷ swap a u ts)) ≡ some u
    go true y ih = rw (e, eq-eqb a a refl)
    go false y ih = rw y (ih (rw y at h))

-- the tables behind the one for a
abbrev pub back : ℕ → List Table → List Table
back a [] = []
back a (t ∷ ts) = cond (eqb (arg_of t) a) ts (back a ts)

pub split-tables : (a : ℕ) (t : Table) (ts : List Table) → find a ts ≡ some t → ts ≡ front a ts ++ (t ∷ back a ts)
split-tables a t [] e = let z : ◌≡◌ {A = ℕ} 0 1 = cc in absurd (omega arith)
split-tables a t (u ∷ ts) e = go (eqb (arg_of u) a) e (split-tables a t ts)
  where
    go : (x : Bool) → cond x (some u) (find a ts) ≡ some t → (find a ts ≡ some t → ts ≡ front a ts ++ (t ∷ back a ts))
        → u ∷ ts ≡ cond x [] (u ∷ front a ts) ++ (t ∷ cond x ts (back a ts))
    go true f ih = let g : u ≡ t = cc in ap (λ (v : Table). v ∷ ts) g
    go false f ih = ap (λ (us : List Table). u ∷ us) (ih f)

pub swap-tables : (a : ℕ) (t v : Table) (ts : List Table) → find a ts ≡ some t → swap a v ts ≡ front a ts ++ (v ∷ back a ts)
swap-tables a t v [] e = let z : ◌≡◌ {A = ℕ} 0 1 = cc in absurd (omega arith)
swap-tables a t v (u ∷ ts) e = go (eqb (arg_of u) a) e (swap-tables a t v ts)
  where
    go : (x : Bool) → cond x (some u) (find a ts) ≡ some t → (find a ts ≡ some t → swap a v ts ≡ front a ts ++ (v ∷ back a ts))
        → cond x (v ∷ ts) (u ∷ swap a v ts) ≡ cond x [] (u ∷ front a ts) ++ (v ∷ cond x ts (back a ts))
    go true f ih = refl
    go false f ih = ap (λ (us : List Table). u ∷ us) (ih f)
