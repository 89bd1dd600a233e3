-- What a chain over the places of some records says of the records.
-- Assumes nothing.
use mathlib.Core.Path.{◌≡◌, refl, sym, ap, ap₂, ◌∙◌, subst}
use mathlib.Core.Bool.{Bool, true, false, cond}
use mathlib.Core.List.{List, [], ◌∷◌, map}
use Prim.Native.Nat.{ℕ, ◌+◌, ◌-◌, ◌≤◌, ◌<◌}
use native.Mathlib.Numerals.{add-one}
use native.Mathlib.Omega.{arith}
use Rattle.std.proofs.lemmas.List.Folds.{list_all-map}
use lib.ListN.{length, get_or}
use Rattle.std.specs.Range.{range_inclusive_steps, range_inclusive_left}
use Rattle.std.specs.declared.ops.RangeInclusive.{RangeInclusive}
use Rattle.std.specs.Prelude.{Option, Some}
use Rattle.std.proofs.lemmas.Iterator.{YieldsList}
use Rattle.std.proofs.lemmas.Iterator.Consumers.{YieldsList-from_shown}
use Rattle.std.specs.List.{filter, list_all, range_with_len}
use Rattle.std.proofs.lemmas.List.FromFn.{fill_by_all, length-range_with_len, get_or-range_with_len}
use Rattle.records.specs.declared.Rec.{Rec}
use Rattle.records.specs.Records.{zero_rec}
use Rattle.indexing_scan.specs.Places.{count_of}

module _ (t : Rec → Bool) where
  count-map : (f : ℕ → Rec) (is : List ℕ) → length (filter (λ i. t (f i)) is) ≡ count_of t (map f is)
  unfolding count_of
  count-map f [] = refl
  count-map f (i ∷ is) = go (t (f i)) (count-map f is)
    where
      go : (b : Bool) → length (filter (λ i. t (f i)) is) ≡ count_of t (map f is)
          → length (cond b (i ∷ filter (λ i. t (f i)) is) (filter (λ i. t (f i)) is)) ≡ cond b (count_of t (map f is) + 1) (count_of t (map f is))
      go true e = omega arith
      go false e = e

  module _ (rs : List Rec) where
    places : map (λ i. get_or rs i zero_rec) (range_with_len 0 (length rs)) ≡ rs
    places = sym (fill_by_all (λ i. get_or rs i zero_rec) rs (length rs) zero_rec refl (λ k h. refl))

    pub all-records : list_all (λ i. t (get_or rs i zero_rec)) (range_with_len 0 (length rs)) ≡ list_all t rs
    all-records = sym (list_all-map t (λ i. get_or rs i zero_rec) (range_with_len 0 (length rs))) ∙ ap (list_all t) places

    pub count-records : length (filter (λ i. t (get_or rs i zero_rec)) (range_with_len 0 (length rs))) ≡ count_of t rs
    count-records = count-map (λ i. get_or rs i zero_rec) (range_with_len 0 (length rs)) ∙ ap (count_of t) places

-- the numbers of a range with its end
abbrev Steps : RangeInclusive ℕ → Option ℕ → RangeInclusive ℕ → Type 0
Steps = range_inclusive_steps (λ a b. b - a) (λ a b. b ≡ a + 1)

abbrev left : RangeInclusive ℕ → ℕ
left s = range_inclusive_left (λ a b. b - a) s

lists : (s : RangeInclusive ℕ) → YieldsList Steps (λ x. x) s (range_with_len s.start (left s))
lists =
    YieldsList-from_shown Steps (λ x. x) (λ s. range_with_len s.start (left s)) (λ s t e. ap (λ (n : ℕ). length (range_with_len s.start n)) e.1.0) go
  where
    go : (s : RangeInclusive ℕ) (x : ℕ) (t : RangeInclusive ℕ) → Steps s (Some x) t → range_with_len s.start (left s) ≡ x ∷ range_with_len t.start (left t)
    go s x t e =
        ap (range_with_len s.start) (sym e.1.1 ∙ add-one (left t))
        ∙ ap₂ (λ (y : ℕ) (l : List ℕ). y ∷ l) (sym e.1.0) (rest t.exhausted refl)
      where
        rest : (b : Bool) → t.exhausted ≡ b → range_with_len (s.start + 1) (left t) ≡ range_with_len t.start (left t)
        rest true f = rw f refl
        rest false f = ap (λ (k : ℕ). range_with_len k (left t)) (sym (e.1.2 f))

-- those of `1..=n`
pub one-to : {s : RangeInclusive ℕ} (n : ℕ) → s.start ≡ 1 → s.end ≡ n → s.exhausted ≡ false → YieldsList Steps (λ x. x) s (range_with_len 1 n)
one-to {s} n e f g =
    let m : left s ≡ n = rw (e, f, g) (omega arith) in
    subst (YieldsList Steps (λ x. x) s) (ap₂ range_with_len e m) (lists s)

pub in-one-to : (n k x : ℕ) → k < length (range_with_len 1 n) → x ≡ get_or (range_with_len 1 n) k x → (1 ≤ x) × (x ≤ n)
in-one-to n k x h e =
    let l = length-range_with_len 1 n in
    let g = get_or-range_with_len 1 n k x (omega (arith, l)) in
    (omega (arith, e, g), omega (arith, e, g, l))
