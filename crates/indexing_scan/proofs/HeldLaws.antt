-- The list of clauses in place: what the loops over it leave, a bucket at its front, and what stands in it then.
-- Assumes nothing.
use mathlib.Core.Path.{◌≡◌, refl, sym, ap, ap₂, ◌∙◌}
use mathlib.Core.Bool.{Bool, true, false, cond, ◌&&◌}
use mathlib.Core.List.{List, [], ◌∷◌, ◌++◌, append-nil}
use Prim.Native.Nat.{ℕ, zero, suc, ◌+◌, ◌≤◌, ◌<◌}
use native.Mathlib.Omega.{arith}
use Rattle.std.proofs.lemmas.Bool.{eqb-true, ne_eqb}
use Rattle.std.proofs.lemmas.List.Elements.{filter_more}
use Rattle.std.proofs.lemmas.List.Sums.{AllPass-from_list_all, count_by-le-length, length-filter}
use lib.Dec.{eqb}
use lib.ListN.{length, take, drop, get_or, set, length-append}
use lib.Seq.{drop-cons, append_snoc, get_or-take, set_at, take_at}
use native.Mathlib.Numerals.{add-one}
use Rattle.std.proofs.lemmas.List.{take_all}
use Rattle.std.specs.List.{filter, list_all}
use Rattle.indexing_iter.specs.declared.OptArgIndexKey.{OptArgIndexKey as Key}
use Rattle.indexing_iter.specs.Keys.{group_of}
use Rattle.indexing_iter.specs.Clauses.{known}
use Rattle.indexing.specs.Build.{single}
use Rattle.indexing.proofs.Lists.{every-keep}
use Rattle.indexing_scan.specs.Walk.{stop, goto, unstored, enter}
use Rattle.indexing_scan.specs.Unstored.{step_number, move_of, Held, alike, like_to, entered_by, empty_by}
use Rattle.indexing_scan.specs.declared.unstored.Step.{Step}
use Rattle.indexing_scan.specs.declared.unstored.Step.TheVariants.{Only}
use Rattle.indexing_scan.specs.declared.unstored.Narrowed.TheVariants.{Failed, Single, Bucket}

-- ---- a list kept in place: the elements before place i that pass the test stand at the front, k of them

module _ (t : ℕ → Bool) (l₀ : List ℕ) where
  pub record Kept (i k : ℕ) (l : List ℕ) : Type 0 where
    pub count : k ≡ length (filter t (take i l₀))
    pub few : k ≤ i
    pub list : l ≡ filter t (take i l₀) ++ drop k l₀

  pub kept-yes : (i k : ℕ) (l : List ℕ) (o : ℕ) → Kept i k l → i < length l₀ → o ≡ get_or l₀ i 0 → t o ≡ true → Kept (i + 1) (k + 1) (set l k o)
  kept-yes i k l o s h e f =
      let front : List ℕ = filter t (take i l₀) in
      let n : filter t (take (i + 1) l₀) ≡ front ++ (o ∷ []) =
      filter_more t l₀ i 0 h ∙ ap (λ (x : ℕ). front ++ filter t (x ∷ [])) (sym e) ∙ ap (λ (b : Bool). front ++ cond b (o ∷ []) []) f in
      record {
        count = omega (arith, s.count, ap length n, length-append front (o ∷ []));
        few = omega (arith, s.few);
        list =
            ap (λ (x : List ℕ). set x k o) (s.list ∙ ap (λ (x : List ℕ). front ++ x) (drop-cons l₀ k 0 (omega (arith, s.few))))
            ∙ set_at front (get_or l₀ k 0) (drop (suc k) l₀) o k (sym s.count)
            ∙ sym (append_snoc front o (drop (suc k) l₀))
            ∙ ap₂ (λ (x : List ℕ) (y : ℕ). x ++ drop y l₀) (sym n) (sym (add-one k));
      }

  pub kept-no : (i k : ℕ) (l : List ℕ) → Kept i k l → i < length l₀ → t (get_or l₀ i 0) ≡ false → Kept (i + 1) k l
  kept-no i k l s h f =
      let front : List ℕ = filter t (take i l₀) in
      let n : filter t (take (i + 1) l₀) ≡ front =
      filter_more t l₀ i 0 h ∙ ap (λ (b : Bool). front ++ cond b (get_or l₀ i 0 ∷ []) []) f ∙ append-nil front in
      record {
        count = s.count ∙ ap length (sym n);
        few = omega (arith, s.few);
        list = s.list ∙ ap (λ (x : List ℕ). x ++ drop k l₀) (sym n);
      }

  -- no element is left
  pub kept-all : (i k : ℕ) (l : List ℕ) → Kept i k l → length l₀ ≤ i → (k ≡ length (filter t l₀)) × (l ≡ filter t l₀ ++ drop k l₀)
  kept-all i k l s h =
      let n : filter t (take i l₀) ≡ filter t l₀ = ap (filter t) (take_all i l₀ h) in
      (s.count ∙ ap length n, s.list ∙ ap (λ (x : List ℕ). x ++ drop k l₀) n)

-- ---- known offsets, and what holds of some or of every clause

pub known_in : (p : ℕ → Bool) (l : List ℕ) (x k : ℕ) → list_all p l ≡ true → k < length l → x ≡ get_or l k x → p x ≡ true
known_in p l x k e h f = ap p f ∙ AllPass-from_list_all p l e k x h

-- ---- a bucket at the front of the list

-- the first n clauses of the list are those of G
pub record Front (G : List ℕ) (n : ℕ) (list : List ℕ) : Type 0 where
  pub count : n ≡ length G
  pub room : n ≤ length list
  pub front : take n list ≡ G

pub front_kept : (G rest list : List ℕ) (n : ℕ) → n ≡ length G → list ≡ G ++ rest → Front G n list
front_kept G rest list n e f = record {
  count = e;
  room = omega (arith, ap length f, length-append G rest);
  front = ap (take n) f ∙ take_at G rest n (sym e);
}

pub front-first : (G list : List ℕ) (n : ℕ) → Front G n list → 0 < n → get_or list 0 0 ≡ get_or G 0 0
front-first G list n s h = sym (get_or-take n list 0 0 h) ∙ ap (λ (l : List ℕ). get_or l 0 0) s.front

pub length-like : (K : ℕ → ℕ → Key) (g : Bool) (a : ℕ) (q : Key) (os : List ℕ) → length (like_to K g a q os) ≤ length os
unfolding like_to
length-like K g a q os = omega (arith, length-filter (λ o. alike g q (K o a)) os, count_by-le-length (λ o. alike g q (K o a)) os)

pub known-like : (p : ℕ → Bool) (K : ℕ → ℕ → Key) (g : Bool) (a : ℕ) (q : Key) (os : List ℕ) → list_all p os ≡ true → list_all p (like_to K g a q os) ≡ true
unfolding like_to
known-like p K g a q os e = every-keep p (λ o. alike g q (K o a)) os e

-- the move of a bucket at the front
entered-list : (dynamic : Bool) (h : Step) (k : ℕ) (list : List ℕ) → k ≤ length list
    → move_of (entered_by dynamic h k (get_or list 0 0)) list ≡ enter (step_number h) (single dynamic (take k list)) (take k list)
unfolding entered_by
entered-list true h k list e = refl
entered-list false h zero list e = refl
entered-list false h (suc zero) [] e = absurd (omega arith)
entered-list false h (suc zero) (x ∷ list) e = refl
entered-list false h (suc (suc k)) [] e = absurd (omega arith)
entered-list false h (suc (suc k)) (x ∷ []) e = absurd (omega arith)
entered-list false h (suc (suc k)) (x ∷ (y ∷ list)) e = rw (ne_eqb (suc (suc k)) 1 (λ z. absurd (omega arith))) refl

pub entered-move : (dynamic : Bool) (h : Step) (k : ℕ) (G list : List ℕ) → Front G k list
    → move_of (entered_by dynamic h k (get_or list 0 0)) list ≡ enter (step_number h) (single dynamic G) G
entered-move dynamic h k G list s = entered-list dynamic h k list s.room ∙ ap (λ (l : List ℕ). enter (step_number h) (single dynamic l) l) s.front

pub empty-move : (dynamic : Bool) (q : Key) (list : List ℕ) → move_of (empty_by dynamic q) list ≡ cond (dynamic && eqb (group_of q) 2) (goto 4 (unstored [])) stop
unfolding empty_by
empty-move dynamic q list = go (dynamic && eqb (group_of q) 2)
  where
    go : (b : Bool) → move_of (cond b (Bucket Only 0) Failed) list ≡ cond b (goto 4 (unstored [])) stop
    go true = refl
    go false = refl

-- ---- what stands in the list

pub held_none : (starts old new : List ℕ) → Held starts old new Failed
held_none starts old new = record { front = refl; within = omega arith; offsets = refl }

pub held-empty : (starts old new : List ℕ) (dynamic : Bool) (q : Key) → Held starts old new (empty_by dynamic q)
unfolding empty_by
held-empty starts old new dynamic q = go (dynamic && eqb (group_of q) 2)
  where
    go : (b : Bool) → Held starts old new (cond b (Bucket Only 0) Failed)
    go true = record { front = refl; within = omega arith; offsets = refl }
    go false = held_none starts old new

pub held-entered : (starts old new : List ℕ) (dynamic : Bool) (h : Step) (k : ℕ) → k ≤ length new → k ≤ length old
    → list_all (known starts) (take k new) ≡ true → Held starts old new (entered_by dynamic h k (get_or new 0 0))
unfolding entered_by
held-entered starts old new dynamic h k s e f = go dynamic
  where
    line : Held starts old new (Bucket h k)
    line = record { front = refl; within = e; offsets = f }

    head : (l : List ℕ) → 1 ≤ length l → take 1 l ≡ get_or l 0 0 ∷ []
    head [] z = absurd (omega arith)
    head (x ∷ l) z = refl

    one : (b : Bool) → eqb k 1 ≡ b → Held starts old new (cond b (Single h (get_or new 0 0)) (Bucket h k))
    one true z =
        let n : k ≡ 1 = eqb-true k 1 z in
        record {
          front = head new (omega arith);
          within = omega arith;
          offsets = ap (λ (x : ℕ). list_all (known starts) (take x new)) (sym n) ∙ f;
        }
    one false z = line

    go : (b : Bool) → Held starts old new (cond b (Bucket h k) (cond (eqb k 1) (Single h (get_or new 0 0)) (Bucket h k)))
    go true = line
    go false = one (eqb k 1) refl
