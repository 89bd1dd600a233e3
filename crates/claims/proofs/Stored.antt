-- An index that comes of the built one by expansions that fit, stored in the buffer: it is read back, and is well formed.
-- Assumes nothing.
use mathlib.Core.Path.{◌≡◌, ◌∙◌, ap}
use mathlib.Core.Bool.{Bool, true}
use mathlib.Core.List.{List, [], ◌∷◌}
use Prim.Native.Nat.{ℕ, ◌≤◌}
use native.Mathlib.Omega.{arith}
use lib.ListN.{length, take}
use Rattle.records.specs.Records.{records_of, AllFit}
use Rattle.indexing.proofs.Grown.{Grown, grown-fits}
use Rattle.indexing.proofs.Size.{lines-size}
use Rattle.indexing.proofs.Stored.{stored-capacity, stored-records}
use Rattle.indexing.specs.Build.{Program, open_at, build}
use Rattle.indexing.specs.Builder.{capacity_of, stored}
use Rattle.indexing.specs.Lines.{Index, size, mode_of, records}
use Rattle.indexing.specs.Reading.{parse}
use Rattle.well_formed.proofs.Fields.{narrow-built, narrow-grown, fit-index}
use Rattle.well_formed.proofs.Sound.{ok-parse, ok-well, grown-ok, built-ok}
use Rattle.well_formed.specs.WellFormed.{rising_ok, index_ok, well_formed}
use Rattle.claims.proofs.Accepted.{Ready}

module _ (P : Program) (kn : ℕ → Bool) (c : ℕ) (os : List ℕ) (ready : Ready P kn c os) where
  built-sound : (os : List ℕ) → 1 ≤ length os → open_at P c os ≡ [] → rising_ok kn 1 os ≡ true → index_ok P.arity P.dynamic kn (build P c os) ≡ true
  built-sound [] h keyed r = absurd (omega arith)
  built-sound (o ∷ os) h keyed r = built-ok P kn ready.keys c o os ready.low ready.high keyed r

  module _ (cap : ℕ) (idx : Index) (came : Grown P cap (build P c os) idx) where
    pub came-sound : index_ok P.arity P.dynamic kn idx ≡ true
    came-sound = grown-ok P kn ready.keys cap came (built-sound os ready.some ready.keyed ready.offsets)

    pub came-fits : size (build P c os) ≤ cap → cap ≤ 65535 → AllFit (records (mode_of P.dynamic) 0 idx)
    came-fits room few =
        fit-index kn ready.small P.arity P.dynamic idx ready.arity (omega (arith, grown-fits P cap came room, lines-size idx)) came-sound
        (narrow-grown P ready.narrow cap came (narrow-built P ready.narrow c os ready.keyed))

  module _ (b : List ℕ) (room : size (build P c os) ≤ capacity_of b) (idx : Index) (came : Grown P (capacity_of b) (build P c os) idx) where
    came-records : take (size idx) (records_of (stored P.dynamic idx b)) ≡ records (mode_of P.dynamic) 0 idx
    came-records = stored-records P.dynamic idx b (came-fits (capacity_of b) idx came room (omega arith))

    -- it is read back
    pub came-parse : parse (take (size idx) (records_of (stored P.dynamic idx b))) ≡ idx
    came-parse = ap parse came-records ∙ ok-parse P kn ready.small idx (came-sound (capacity_of b) idx came)

    -- and is well formed
    pub came-well : well_formed P.arity P.dynamic kn (take (size idx) (records_of (stored P.dynamic idx b))) ≡ true
    came-well = rw came-records (ok-well P kn ready.small idx (came-sound (capacity_of b) idx came))

    pub came-capacity : capacity_of (stored P.dynamic idx b) ≡ capacity_of b
    came-capacity = stored-capacity P.dynamic idx b (grown-fits P (capacity_of b) came room)
