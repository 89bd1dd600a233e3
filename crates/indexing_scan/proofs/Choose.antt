-- The choice in a switch: two lists of entries with the same keys, whose pointers are related, choose related pointers in the same way.
-- Assumes nothing.
use mathlib.Core.Bool.{Bool, true, false, cond}
use mathlib.Core.List.{List, ◌∷◌}
use mathlib.Core.Option.{Option, none, some}
use Prim.Native.Nat.{ℕ}
use Rattle.std.specs.List.{filter}
use lib.Dec.{eqb}
use Rattle.indexing_iter.specs.Keys.{group_of, same}
use Rattle.indexing_iter.specs.declared.OptArgIndexKey.{OptArgIndexKey as Key}
use Rattle.indexing.proofs.Linked.{Linked, linked-nil, linked-cons}
use Rattle.indexing.specs.Build.{Program}
use Rattle.indexing.specs.Lines.{Entry}
use Rattle.indexing_scan.specs.Walk.{Chosen, equal, marked, pick, choose}

module _ {X Y : Type 0} (D : X → Y → Type 0) where
  pub data Both : Option X → Option Y → Type 0 where
    both-none : Both none none
    both_some : {x : X} {y : Y} → D x y → Both (some x) (some y)

  -- chosen in the same way
  pub data Ways : Option (Chosen X) → Option (Chosen Y) → Type 0 where
    ways-none : Ways none none
    ways-some : {h : ℕ} {x : X} {y : Y} → D x y → Ways (some (record { how = h; to = x })) (some (record { how = h; to = y }))

  marked-ways : (h : ℕ) {x : Option X} {y : Option Y} → Both x y → Ways (marked h x) (marked h y)
  marked-ways h both-none = ways-none
  marked-ways h (both_some d) = ways-some d

  add-linked : (b : Bool) (k : Key) {x : X} {y : Y} {es : List (Entry X)} {fs : List (Entry Y)} → D x y → Linked D es fs
      → Linked D (cond b (record { key = k; to = x } ∷ es) es) (cond b (record { key = k; to = y } ∷ fs) fs)
  add-linked true k d l = linked-cons d l
  add-linked false k d l = l

  keep-linked : (p : Key → Bool) {es : List (Entry X)} {fs : List (Entry Y)} → Linked D es fs → Linked D (filter (λ e. p e.key) es) (filter (λ e. p e.key) fs)
  keep-linked p linked-nil = linked-nil
  keep-linked p (linked-cons {k = k} d l) = add-linked (p k) k d (keep-linked p l)

  cond_both : (b : Bool) {x : X} {y : Y} {u : Option X} {v : Option Y} → D x y → Both u v → Both (cond b (some x) u) (cond b (some y) v)
  cond_both true d l = both_some d
  cond_both false d l = l

  pub equal-linked : (q : Key) {es : List (Entry X)} {fs : List (Entry Y)} → Linked D es fs → Both (equal q es) (equal q fs)
  equal-linked q linked-nil = both-none
  equal-linked q (linked-cons {k = k} d l) = cond_both (same k q) d (equal-linked q l)

  pick-linked : (P : Program) (q : Key) {es : List (Entry X)} {fs : List (Entry Y)} → Linked D es fs → Ways (pick P q es) (pick P q fs)
  pick-linked P q linked-nil = ways-none
  pick-linked P q (linked-cons d linked-nil) = ways-some d
  pick-linked P q (linked-cons {k = k} d (linked-cons {k = k'} d' l)) = marked-ways 5 (equal-linked q (linked-cons {k = k} d (linked-cons {k = k'} d' l)))

  pub choose-linked : (P : Program) (q : Key) {es : List (Entry X)} {fs : List (Entry Y)} → Linked D es fs → Ways (choose P q es) (choose P q fs)
  choose-linked P q l = pick-linked P q (keep-linked (λ k. eqb (group_of q) (group_of k)) l)
