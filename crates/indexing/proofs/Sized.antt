-- The size call tells the builder's number and count: the checks are the same, and they refuse with 1 to 8 alone.
-- Assumes nothing.
use mathlib.Core.Path.{◌≡◌, refl}
use mathlib.Core.Bool.{Bool, true, false}
use mathlib.Core.List.{List}
use Prim.Native.Nat.{ℕ}
use native.Mathlib.Omega.{arith}
use borrow.Author.Tests.{ltb-true, ltb-false}
use lib.Dec.{ltb}
use Rattle.indexing_iter.specs.declared.Settings.{Settings}
use Rattle.indexing_iter.specs.declared.refusal.Refusal.TheVariants.{NoRoom}
use Rattle.indexing_iter.specs.Refusals.{Checked}
use Rattle.std.specs.Prelude.{Ok, Err}
use Rattle.indexing_iter.specs.Checks.{otherwise, refuse, check_build}
use Rattle.indexing_iter.proofs.Numbers.{Within, build-number}
use Rattle.indexing.specs.Lines.{Index, size}
use Rattle.indexing.specs.Builder.{capacity_of, built_by, index_of, build_call, sized_by, size_call}
use Rattle.indexing.specs.Sized.{Tells, SizeTells}

by-checks : (a : Checked) → Within 1 8 a → (S : Settings) (idx : Index) (b : List ℕ) (t : Bool) → ltb (capacity_of b) (size idx) ≡ t
    → Tells (built_by (otherwise a (refuse t NoRoom)) S idx b) (capacity_of b) (sized_by a idx)
by-checks (Ok u) p S idx b true e = record {
  lacked = λ q. (refl, ltb-true (capacity_of b) (size idx) e);
  lacks = λ q h. refl;
  same = λ q. absurd (q refl);
}
by-checks (Ok u) p S idx b false e = record {
  lacked = λ q. absurd (omega arith);
  lacks = λ q h. absurd (omega (arith, ltb-false (capacity_of b) (size idx) e));
  same = λ q. (refl, refl);
}
by-checks (Err n) p S idx b t e = record {
  lacked = λ q. absurd (omega (arith, p));
  lacks = λ q h. absurd (omega (arith, p));
  same = λ q. (refl, refl);
}

pub size-tells : (cls : ℕ → ℕ) → SizeTells cls
unfolding build_call size_call
size-tells cls code starts S c b =
    by-checks (check_build cls S.arity c code starts) (build-number cls S.arity c code starts) S (index_of cls code starts S c) b
    (ltb (capacity_of b) (size (index_of cls code starts S c))) refl
