-- Records whose fields are in their ranges: they are read back from their bytes, and what is read from bytes is of this kind. Assumes nothing.
use mathlib.Core.Path.{◌≡◌, refl, ap, ap₂, ◌∙◌}
use Prim.Native.Nat.{ℕ, zero, suc, ◌/◌, ◌%◌}
use native.Mathlib.Omega.{arith}
use mathlib.Core.List.{List, [], ◌∷◌, ◌++◌, append_assoc}
use lib.ListN.{length, take, drop}
use Rattle.records.specs.Bytes.{bytes16, bytes32, bytes64}
use Rattle.records.specs.declared.Rec.{Rec}
use Rattle.records.specs.Records.{decode, encode_rec, encode, recs, records_of, zero_rec, Fits, AllFit}
use Rattle.records.proofs.Laws.{length-encode_rec, take-encode_rec, decode-encode, one-record, records_of-append}
use Rattle.records.proofs.Whole.{Bytes, bytes_take, bytes_drop, low16, low32, low64}

pub fit_none : Fits zero_rec
fit_none = record { kind = omega arith; sub = omega arith; half = omega arith; word = omega arith; long = omega arith }

pub fit-cons : (r : Rec) (rs : List Rec) → Fits r → AllFit rs → AllFit (r ∷ rs)
fit-cons r rs f h zero = f
fit-cons r rs f h (suc i) = h i

pub fit_append : (a b : List Rec) → AllFit a → AllFit b → AllFit (a ++ b)
fit_append [] b f h i = h i
fit_append (r ∷ a) b f h zero = f 0
fit_append (r ∷ a) b f h (suc i) = fit_append a b (λ k. f (suc k)) h i

-- the record in bytes fits
pub fit-decode : (x : List ℕ) → Bytes x → Fits (decode x)
unfolding decode
fit-decode x h = record { kind = h 0; sub = h 1; half = low16 x 2 h; word = low32 x 4 h; long = low64 x 8 h }

fit-recs : (n : ℕ) (b : List ℕ) → Bytes b → AllFit (recs n b)
unfolding recs
fit-recs zero b h i = fit_none
fit-recs (suc n) b h zero = fit-decode (take 16 b) (bytes_take 16 b h)
fit-recs (suc n) b h (suc i) = fit-recs n (drop 16 b) (bytes_drop 16 b h) i

-- the records of a buffer fit
pub fit-records_of : (b : List ℕ) → Bytes b → AllFit (records_of b)
unfolding records_of
fit-records_of b h = fit-recs (length b / 16) b h

-- records are read back from their bytes, and then what follows
pub records_of-encode : (rs : List Rec) (rest : List ℕ) → AllFit rs → records_of (encode rs ++ rest) ≡ rs ++ records_of rest
unfolding encode
records_of-encode [] rest h = refl
records_of-encode (r ∷ rs) rest h =
    let f : Fits r = h 0 in
    ap records_of (append_assoc (encode_rec r) (encode rs) rest)
    ∙ records_of-append 1 (encode_rec r) (encode rs ++ rest) (length-encode_rec r)
    ∙ ap₂ (λ (x y : List Rec). x ++ y)
    (one-record (encode_rec r) (length-encode_rec r)
    ∙ ap (λ (x : Rec). x ∷ []) (ap decode (take-encode_rec r) ∙ decode-encode r f.half f.word f.long))
    (records_of-encode rs rest (λ i. h (suc i)))

pub bytes-append : (a b : List ℕ) → Bytes a → Bytes b → Bytes (a ++ b)
bytes-append [] b f h i = h i
bytes-append (x ∷ a) b f h zero = f 0
bytes-append (x ∷ a) b f h (suc i) = bytes-append a b (λ k. f (suc k)) h i

bytes-16 : (v : ℕ) → Bytes (bytes16 v)
bytes-16 v zero = omega arith
bytes-16 v (suc zero) = omega arith
bytes-16 v (suc (suc i)) = omega arith

bytes-32 : (v : ℕ) → Bytes (bytes32 v)
bytes-32 v = bytes-append (bytes16 (v % 65536)) (bytes16 (v / 65536)) (bytes-16 (v % 65536)) (bytes-16 (v / 65536))

bytes-64 : (v : ℕ) → Bytes (bytes64 v)
bytes-64 v = bytes-append (bytes32 (v % 4294967296)) (bytes32 (v / 4294967296)) (bytes-32 (v % 4294967296)) (bytes-32 (v / 4294967296))

bytes-encode_rec : (r : Rec) → Fits r → Bytes (encode_rec r)
unfolding encode_rec
bytes-encode_rec r f zero = f.kind
bytes-encode_rec r f (suc zero) = f.sub
bytes-encode_rec r f (suc (suc i)) =
    bytes-append (bytes16 r.half) (bytes32 r.word ++ bytes64 r.long) (bytes-16 r.half)
    (bytes-append (bytes32 r.word) (bytes64 r.long) (bytes-32 r.word) (bytes-64 r.long)) i

-- the bytes of records that fit are bytes
pub bytes-encode : (rs : List Rec) → AllFit rs → Bytes (encode rs)
unfolding encode
bytes-encode [] f i = omega arith
bytes-encode (r ∷ rs) f i = bytes-append (encode_rec r) (encode rs) (bytes-encode_rec r (f 0)) (bytes-encode rs (λ k. f (suc k))) i
