-- An index that comes of another by expansions that fit, and what it keeps.
-- Assumes nothing.
use mathlib.Core.Path.{◌≡◌}
use mathlib.Core.Option.{some}
use Prim.Native.Nat.{ℕ, ◌≤◌, ◌<◌}
use native.Mathlib.Omega.{arith}
use lib.ListN.{length}
use Rattle.indexing.proofs.Expand.{length-expand}
use Rattle.indexing.proofs.Order.{Orderly, orderly-expand}
use Rattle.indexing.proofs.Pointers.{Closed, closed-expand}
use Rattle.indexing.proofs.Size.{size-expand}
use Rattle.indexing.specs.Build.{Program}
use Rattle.indexing.specs.Expand.{expand}
use Rattle.indexing.specs.Lines.{on_demand, Index, line_at, find, size}

module _ (P : Program) (cap : ℕ) where
  -- an index that comes of another by expansions that fit
  pub data Grown : Index → Index → Type 0 where
    grown-same : {idx : Index} → Grown idx idx
    grown-more : {idx idx' : Index} (l a c : ℕ) → l < length idx → find a (line_at idx l).tables ≡ some (on_demand c) → size (expand P idx l a) ≤ cap
        → Grown (expand P idx l a) idx' → Grown idx idx'

  pub grown-trans : {idx idx' idx'' : Index} → Grown idx idx' → Grown idx' idx'' → Grown idx idx''
  grown-trans grown-same g = g
  grown-trans (grown-more l a c h d f k) g = grown-more l a c h d f (grown-trans k g)

  pub grown-closed : {idx idx' : Index} → Grown idx idx' → Closed idx → Closed idx'
  grown-closed grown-same z = z
  grown-closed (grown-more {idx = idx} l a c h d f k) z = grown-closed k (closed-expand P idx l a c h d z)

  pub grown-length : {idx idx' : Index} → Grown idx idx' → length idx ≤ length idx'
  grown-length grown-same = omega arith
  grown-length (grown-more {idx = idx} l a c h d f k) = omega (arith, length-expand P idx l a, grown-length k)

-- ---- the record count never falls, and stays within the capacity

module _ (P : Program) (cap : ℕ) where
  pub grown-size : {idx idx' : Index} → Grown P cap idx idx' → size idx ≤ size idx'
  grown-size grown-same = omega arith
  grown-size (grown-more {idx = idx} l a c h d f g) = omega (arith, size-expand P idx l a c h d, grown-size g)

  pub grown-fits : {idx idx' : Index} → Grown P cap idx idx' → size idx ≤ cap → size idx' ≤ cap
  grown-fits grown-same k = k
  grown-fits (grown-more l a c h d f g) k = grown-fits g f

-- ---- order stays

pub grown-orderly : (P : Program) (cap : ℕ) {idx idx' : Index} → Grown P cap idx idx' → Orderly P idx → Orderly P idx'
grown-orderly P cap grown-same o = o
grown-orderly P cap (grown-more {idx = idx} l a c h d f g) o = grown-orderly P cap g (orderly-expand P idx l a c h d o)
