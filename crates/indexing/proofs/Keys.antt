-- The groups of a switch (document 01, section 3); the laws of equal keys are those of indexing_iter.
-- Assumes nothing.
use mathlib.Core.Path.{◌≡◌, refl}
use mathlib.Core.Bool.{false}
use Rattle.std.proofs.lemmas.Bool.{true≢false}
use Rattle.indexing_iter.specs.Keys.{group_of, is_open}
use Rattle.indexing_iter.specs.declared.OptArgIndexKey.{OptArgIndexKey as Key}
use Rattle.indexing_iter.specs.declared.OptArgIndexKey.TheVariants.{None, Literal, Structure, List as ListKey}
pub use Rattle.indexing_iter.proofs.SameKeys.{same_refl, same-eq}

-- a bound key is a literal, the list or a structure
pub by-group : (k : Key) → is_open k ≡ false → (A : Type 0) → (group_of k ≡ 1 → A) → (k ≡ ListKey → A) → (group_of k ≡ 3 → A) → A
by-group None e A f g h = absurd (true≢false e)
by-group (Literal s b) e A f g h = f refl
by-group ListKey e A f g h = g refl
by-group (Structure n x) e A f g h = h refl
