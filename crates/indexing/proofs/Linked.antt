-- Two lists of entries with the same keys, whose pointers are related.
-- Assumes nothing.
use mathlib.Core.List.{List, [], ◌∷◌, ◌++◌}
use Rattle.indexing_iter.specs.declared.OptArgIndexKey.{OptArgIndexKey as Key}
use Rattle.indexing.specs.Lines.{Entry}

module _ {X Y : Type 0} (D : X → Y → Type 0) where
  pub data Linked : List (Entry X) → List (Entry Y) → Type 0 where
    linked-nil : Linked [] []
    linked-cons : {k : Key} {x : X} {y : Y} {es : List (Entry X)} {fs : List (Entry Y)} → D x y → Linked es fs
        → Linked (record { key = k; to = x } ∷ es) (record { key = k; to = y } ∷ fs)

  pub linked-append : {es : List (Entry X)} {fs : List (Entry Y)} {es' : List (Entry X)} {fs' : List (Entry Y)} → Linked es fs → Linked es' fs'
      → Linked (es ++ es') (fs ++ fs')
  linked-append linked-nil l = l
  linked-append (linked-cons d k) l = linked-cons d (linked-append k l)

-- with a weaker relation
pub linked-map : {X Y : Type 0} {D E : X → Y → Type 0} → ((x : X) (y : Y) → D x y → E x y) → {es : List (Entry X)} {fs : List (Entry Y)}
    → Linked D es fs → Linked E es fs
linked-map f linked-nil = linked-nil
linked-map f (linked-cons {x = x} {y = y} d l) = linked-cons (f x y d) (linked-map f l)

-- the left lists alone
pub linked-left : {X Y : Type 0} {D : X → Y → Type 0} {E : X → X → Type 0} → ((x : X) (y : Y) → D x y → E x x)
    → {es : List (Entry X)} {fs : List (Entry Y)} → Linked D es fs → Linked E es es
linked-left f linked-nil = linked-nil
linked-left f (linked-cons {x = x} {y = y} d l) = linked-cons (f x y d) (linked-left f l)
