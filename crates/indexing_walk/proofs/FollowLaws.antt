-- A pointer followed, and what a switch leads to.
-- Assumes nothing.
use mathlib.Core.Path.{◌≡◌, refl, ap, ◌∙◌}
use mathlib.Core.Bool.{true, false}
use mathlib.Core.List.{List, [], ◌∷◌}
use native.Mathlib.Omega.{arith}
use lib.ListN.{length, take, set}
use Prim.Native.Nat.{ℕ, ◌+◌, ◌≤◌, ◌<◌}
use Rattle.indexing_scan.proofs.ChooseLaws.{pointer_parts}
use lib.Seq.{slice}
use Rattle.records.specs.declared.Rec.{Rec}
use Rattle.records.specs.Pointer.{is_internal, distance_of}
use Rattle.indexing_iter.specs.declared.OptArgIndexKey.{OptArgIndexKey as Key}
use Rattle.indexing_scan.specs.Places.{behind_table, behind_line, choose_rec}
use Rattle.indexing_scan.specs.declared.stored.Chosen.{Chosen}
use Rattle.indexing_scan.specs.declared.stored.Chosen.TheVariants.{Only, Equal}
use mathlib.Core.Logic.{◌⊎◌, inl, inr}
use Rattle.indexing_walk.specs.declared.Looked.{Looked}
use Rattle.indexing_walk.specs.declared.Looked.TheVariants.{External, Enter}
use Rattle.indexing_walk.specs.Walking.{followed_by, looked_by}

pub followed-in : (rs : List Rec) (p l w d r : ℕ) → w < 4294967296 → is_internal w ≡ true → d ≡ distance_of w → r ≡ behind_line rs p d → Enter (l + d) r ≡ followed_by rs p l w
unfolding followed_by
followed-in rs p l w d r h e f g = rw (pointer_parts w h, e, ← f, ← g) refl

pub followed-out : (rs : List Rec) (p l w : ℕ) → w < 4294967296 → is_internal w ≡ false → External w ≡ followed_by rs p l w
unfolding followed_by
followed-out rs p l w h e = rw (pointer_parts w h, e) refl

pub looked : (rs bs : List Rec) (p l end : ℕ) (q : Key) (c : Chosen) (r : Looked) → end ≡ behind_table rs p → c ≡ choose_rec q (slice (p + 1) end bs)
    → r ≡ looked_by rs p l c → r ≡ looked_by rs p l (choose_rec q (slice (p + 1) (behind_table rs p) bs))
looked rs bs p l end q c r e f g = g ∙ ap (looked_by rs p l) (f ∙ ap (λ (x : ℕ). choose_rec q (slice (p + 1) x bs)) e)

-- an entry was chosen in one way or the other
pub chosen : (rs : List Rec) (p l w : ℕ) (c : Chosen) (r : Looked) → (c ≡ Only w) ⊎ (c ≡ Equal w) → r ≡ followed_by rs p l w → r ≡ looked_by rs p l c
unfolding followed_by
chosen rs p l w c r (inl e) f = rw e f
chosen rs p l w c r (inr e) f = rw e f

-- an offset put at the front
pub put_front : (list : List ℕ) (o : ℕ) → 1 ≤ length list → take 1 (set list 0 o) ≡ o ∷ []
put_front [] o h = absurd (omega arith)
put_front (x ∷ list) o h = refl
