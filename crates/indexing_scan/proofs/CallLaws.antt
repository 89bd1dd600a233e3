-- What a check of a call that passed says.
-- Assumes nothing.
use Prim.Native.Nat.{ℕ, ◌*◌}
use mathlib.Core.Path.{◌≡◌}
use mathlib.Core.Bool.{Bool, not, ◌&&◌}
use mathlib.Core.List.{List}
use native.Mathlib.Omega.{arith}
use Rattle.std.specs.List.{list_all}
use lib.Dec.{eqb}
use lib.ListN.{length}
use borrow.Author.Tests.{eqb-true, not-false}
use Rattle.records.specs.Records.{records_of}
use Rattle.records.proofs.Laws.{length-records_of}
use Rattle.indexing_iter.specs.declared.refusal.Refusal.TheVariants.{Call as CallOf}
use Rattle.indexing_iter.specs.Refusals.{passed}
use Rattle.indexing_iter.proofs.SameKeys.{and_left}
use Rattle.indexing_iter.proofs.KeyLaws.{not-refused}
use Rattle.indexing_scan.specs.Calls.{argument_ok, check_call}

-- it has as many records as the arity says
pub call-records : (arity : ℕ) (call : List ℕ) → check_call arity call ≡ passed → length (records_of call) ≡ arity
call-records arity call e =
    let whole : Bool = eqb (length call) (16 * arity) in
    let right : Bool = list_all argument_ok (records_of call) in
    let t = (not-refused (not (whole && right)) CallOf passed e).0 in
    let s = and_left whole right (not-false (whole && right) t) in
    omega (arith, length-records_of call, eqb-true (length call) (16 * arity) s)
