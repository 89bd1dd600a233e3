-- A record is sixteen bytes: kind, sub, half, word, long.
use Rattle.std.specs.Prelude.{◌≡◌, ℕ, zero, suc, ◌*◌, ◌/◌, ◌<◌, List, [], ◌∷◌, ◌++◌, length, get_or, take, drop}
use Rattle.records.specs.Bytes.{le16, le32, le64, bytes16, bytes32, bytes64}
use Rattle.records.specs.declared.Rec.{Rec}

-- a record from its five fields
abbrev pub rec_of : ℕ → ℕ → ℕ → ℕ → ℕ → Rec
rec_of k s h w l = record { kind = k; sub = s; half = h; word = w; long = l }

-- what stands past the end
abbrev pub zero_rec : Rec
zero_rec = rec_of 0 0 0 0 0

-- the record at the front of a list of bytes
unfoldable pub decode : List ℕ → Rec
decode b = rec_of (get_or b 0 0) (get_or b 1 0) (le16 b 2) (le32 b 4) (le64 b 8)

-- the sixteen bytes of a record
unfoldable pub encode_rec : Rec → List ℕ
encode_rec r = r.kind ∷ r.sub ∷ (bytes16 r.half ++ (bytes32 r.word ++ bytes64 r.long))

-- the first n records of a list of bytes
unfoldable pub recs : ℕ → List ℕ → List Rec
recs zero b = []
recs (suc n) b = decode (take 16 b) ∷ recs n (drop 16 b)

-- all the whole records of a list of bytes
unfoldable pub records_of : List ℕ → List Rec
records_of b = recs (length b / 16) b

-- the bytes of records, one after the other
unfoldable pub encode : List Rec → List ℕ
encode [] = []
encode (r ∷ rs) = encode_rec r ++ encode rs

-- the odd bytes after the last whole record
unfoldable pub odd_of : List ℕ → List ℕ
odd_of b = drop (16 * (length b / 16)) b

-- b' has the records rs, as many as b has, and b's odd bytes
pub record Wrote (b b' : List ℕ) (rs : List Rec) : Type 0 where
  pub records : records_of b' ≡ rs
  pub count : length (records_of b') ≡ length (records_of b)
  pub odd : odd_of b' ≡ odd_of b

-- every field of a record is in its range
pub record Fits (r : Rec) : Type 0 where
  pub kind : r.kind < 256
  pub sub : r.sub < 256
  pub half : r.half < 65536
  pub word : r.word < 4294967296
  pub long : r.long < 18446744073709551616

-- every record of a list fits
abbrev pub AllFit : List Rec → Type 0
AllFit rs = (i : ℕ) → Fits (get_or rs i zero_rec)
