-- The arguments of the tables looked at rise strictly, so no two tables looked at are for one argument.
-- Assumes nothing.
use mathlib.Core.List.{List, [], ◌∷◌}
use Prim.Native.Nat.{ℕ, zero, suc, ◌≤◌}
use native.Mathlib.Nat.{le_refl}
use native.Mathlib.Omega.{arith}
use Rattle.indexing_iter.proofs.CheckLaws.{Rising}
use Rattle.indexing.specs.Build.{Program}
use Rattle.indexing.specs.Lines.{Index}
use Rattle.indexing_scan.specs.Agree.{Call}
use Rattle.indexing_scan.specs.ByArgument.{act, move, answer_from}
use Rattle.indexing_scan.specs.Walk.{Step, Place, Move, skip, stop, pass, out, goto, Answer, look}

-- the arguments of the tables looked at
abbrev pub args : List Step → List ℕ
args [] = []
args (x ∷ xs) = x.arg ∷ args xs

pub rising-weaken : (m n : ℕ) (xs : List ℕ) → m ≤ n → Rising n xs → Rising m xs
rising-weaken m n [] h r = tt
rising-weaken m n (x ∷ xs) h r = (omega (arith, r.0), r.1)

act-rising : (a : ℕ) (p : Place) (m : Move) (k : Place → Answer) → ((q : Place) → Rising (suc a) (args (k q).path))
    → Rising a (args (act (λ r. r) look a p m k).path)
act-rising a p skip k h = rising-weaken a (suc a) (args (k p).path) (omega arith) (h p)
act-rising a p (pass z) k h = (le_refl a, h p)
act-rising a p stop k h = (le_refl a, tt)
act-rising a p (out z o) k h = (le_refl a, tt)
act-rising a p (goto z q) k h = (le_refl a, h q)

pub path-rising : (P : Program) (Q : Call) (n a : ℕ) (idx : Index) (p : Place) → Rising a (args (answer_from P Q n a idx p).path)
unfolding answer_from
path-rising P Q zero a idx p = tt
path-rising P Q (suc n) a idx p = act-rising a p (move P idx p a (Q a)) (λ q. answer_from P Q n (suc a) idx q) (λ q. path-rising P Q n (suc a) idx q)
