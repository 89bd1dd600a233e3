-- The tags of a line's offsets as numbers (document 01, section 3), and back.
-- Assumes nothing.
use Rattle.std.specs.Prelude.{ℕ, cond, eqb, Result, Ok, Err}
use Rattle.indexing.specs.declared.tags.Tag.{Tag}
use Rattle.indexing.specs.declared.tags.Tag.TheVariants.{Try, Retry, DefaultRetry, Trust, DefaultTrust, A, Z}
use Rattle.indexing.specs.declared.kinds.UnknownByte.{UnknownByte}

-- the number that an offset's record has for a tag
abbrev pub tag_number : Tag → ℕ
tag_number Try = 1
tag_number Retry = 2
tag_number DefaultRetry = 3
tag_number Trust = 4
tag_number DefaultTrust = 5
tag_number A = 6
tag_number Z = 7

-- the tag of a number
abbrev pub tag_from : ℕ → Result Tag UnknownByte
tag_from n =
    cond (eqb n 1) (Ok Try)
    (cond (eqb n 2) (Ok Retry)
    (cond (eqb n 3) (Ok DefaultRetry)
    (cond (eqb n 4) (Ok Trust)
    (cond (eqb n 5) (Ok DefaultTrust)
    (cond (eqb n 6) (Ok A)
    (cond (eqb n 7) (Ok Z) (Err (record { 0 = n }))))))))
