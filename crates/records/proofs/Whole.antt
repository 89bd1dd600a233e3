-- From records back to bytes: a buffer is the encoding of its records, and its odd bytes. Cited where a public contract speaks of bytes. Assumes nothing.
use mathlib.Core.Path.{◌≡◌, refl, sym, ap, ap₂, ◌∙◌}
use Prim.Native.Nat.{ℕ, zero, suc, ◌+◌, ◌-◌, ◌*◌, ◌/◌, ◌%◌, ◌≤◌, ◌<◌}
use native.Mathlib.Nat.{suc-ne-zero}
use native.Mathlib.Omega.{arith}
use mathlib.Core.List.{List, [], ◌∷◌, ◌++◌, append_assoc}
use lib.ListN.{length, get_or, take, drop, length-drop, take-append-drop, drop_of_length-le}
use lib.Seq.{length-take-le, drop-cons, get_or-drop, take_all}
use Rattle.records.specs.Bytes.{le16, le32, le64, bytes16, bytes32, bytes64}
use Rattle.records.specs.declared.Rec.{Rec}
use Rattle.records.specs.Records.{decode, encode_rec, encode, recs, records_of, odd_of, Wrote}
use Rattle.records.proofs.Laws.{length-records_of, records_of-drop, records_of-take, odd-drop}

-- each element is a byte
abbrev pub Bytes : List ℕ → Type 0
Bytes b = (i : ℕ) → get_or b i 0 < 256

pub bytes_take : (n : ℕ) (b : List ℕ) → Bytes b → Bytes (take n b)
bytes_take zero b h i = omega arith
bytes_take (suc n) [] h i = omega arith
bytes_take (suc n) (x ∷ b) h zero = h 0
bytes_take (suc n) (x ∷ b) h (suc i) = bytes_take n b (λ k. h (suc k)) i

pub bytes_drop : (n : ℕ) (b : List ℕ) → Bytes b → Bytes (drop n b)
bytes_drop n b h i = rw get_or-drop (h (n + i))

-- the elements of a list from place k on, written out
spread : ℕ → ℕ → List ℕ → List ℕ
spread zero k x = []
spread (suc n) k x = get_or x k 0 ∷ spread n (suc k) x

spread-all : (n k : ℕ) (x : List ℕ) → length x ≡ k + n → drop k x ≡ spread n k x
unfolding spread
spread-all zero k x e = drop_of_length-le x {i = k} (omega arith)
spread-all (suc n) k x e =
    let h : k < length x = omega arith in
    drop-cons x k 0 h ∙ ap (λ (l : List ℕ). get_or x k 0 ∷ l) (spread-all n (suc k) x (omega arith))

bytes16-le : (a b : ℕ) → a < 256 → b < 256 → bytes16 (a + b * 256) ≡ a ∷ b ∷ []
bytes16-le a b h k =
    let e : (a + b * 256) % 256 ≡ a = omega arith in
    let g : (a + b * 256) / 256 ≡ b = omega arith in
    let m : b % 256 ≡ b = omega arith in
    let f : (a + b * 256) / 256 % 256 ≡ b = ap (λ (n : ℕ). n % 256) g ∙ m in
    rw (e, f)

bytes32-le : (a b : ℕ) → a < 65536 → b < 65536 → bytes32 (a + b * 65536) ≡ bytes16 a ++ bytes16 b
bytes32-le a b h k =
    let e : (a + b * 65536) % 65536 ≡ a = omega arith in
    let f : (a + b * 65536) / 65536 ≡ b = omega arith in
    ap₂ (λ (x y : ℕ). bytes16 x ++ bytes16 y) e f

bytes64-le : (a b : ℕ) → a < 4294967296 → b < 4294967296 → bytes64 (a + b * 4294967296) ≡ bytes32 a ++ bytes32 b
bytes64-le a b h k =
    let e : (a + b * 4294967296) % 4294967296 ≡ a = omega arith in
    let f : (a + b * 4294967296) / 4294967296 ≡ b = omega arith in
    ap₂ (λ (x y : ℕ). bytes32 x ++ bytes32 y) e f

at16 : (x : List ℕ) (i : ℕ) → Bytes x → bytes16 (le16 x i) ≡ get_or x i 0 ∷ get_or x (i + 1) 0 ∷ []
at16 x i h = bytes16-le (get_or x i 0) (get_or x (i + 1) 0) (h i) (h (i + 1))

pub low16 : (x : List ℕ) (i : ℕ) → Bytes x → le16 x i < 65536
low16 x i h = omega (arith, h i, h (i + 1))

pub low32 : (x : List ℕ) (i : ℕ) → Bytes x → le32 x i < 4294967296
low32 x i h = omega (arith, low16 x i h, low16 x (i + 2) h)

at32 : (x : List ℕ) (i : ℕ) → Bytes x → bytes32 (le32 x i) ≡ (get_or x i 0 ∷ get_or x (i + 1) 0 ∷ []) ++ (get_or x (i + 2) 0 ∷ get_or x (i + 2 + 1) 0 ∷ [])
at32 x i h =
    bytes32-le (le16 x i) (le16 x (i + 2)) (low16 x i h) (low16 x (i + 2) h)
    ∙ ap₂ (λ (a b : List ℕ). a ++ b) (at16 x i h) (at16 x (i + 2) h)

pub low64 : (x : List ℕ) (i : ℕ) → Bytes x → le64 x i < 18446744073709551616
low64 x i h = omega (arith, low32 x i h, low32 x (i + 4) h)

at64 : (x : List ℕ) (i : ℕ) → Bytes x → bytes64 (le64 x i) ≡ bytes32 (le32 x i) ++ bytes32 (le32 x (i + 4))
at64 x i h = bytes64-le (le32 x i) (le32 x (i + 4)) (low32 x i h) (low32 x (i + 4) h)

-- sixteen bytes are written back as they were read
pub encode-decode : (x : List ℕ) → length x ≡ 16 → Bytes x → encode_rec (decode x) ≡ x
unfolding encode_rec decode spread
encode-decode x e h =
    ap₂ (λ (a b : List ℕ). get_or x 0 0 ∷ get_or x 1 0 ∷ (a ++ b)) (at16 x 2 h)
    (ap₂ (λ (a b : List ℕ). a ++ b) (at32 x 4 h) (at64 x 8 h ∙ ap₂ (λ (a b : List ℕ). a ++ b) (at32 x 8 h) (at32 x 12 h)))
    ∙ sym (spread-all 16 0 x e)

encode-recs : (k : ℕ) (b : List ℕ) → length b ≡ 16 * k → Bytes b → encode (recs k b) ≡ b
unfolding encode recs
encode-recs zero [] e h = refl
encode-recs zero (x ∷ b) e h = absurd (suc-ne-zero (length b) e)
encode-recs (suc k) b e h =
    let f : 16 ≤ length b = omega arith in
    let q : length (drop 16 b) ≡ 16 * k = simp length-drop (omega arith) in
    ap₂ (λ (x y : List ℕ). x ++ y)
    (encode-decode (take 16 b) (length-take-le 16 b f) (bytes_take 16 b h))
    (encode-recs k (drop 16 b) q (bytes_drop 16 b h))
    ∙ take-append-drop 16 b

pub encode-records_of : (k : ℕ) (b : List ℕ) → length b ≡ 16 * k → Bytes b → encode (records_of b) ≡ b
unfolding records_of
encode-records_of k b e h =
    let q : length b / 16 ≡ k = omega arith in
    rw q (encode-recs k b e h)

pub encode-append : (a b : List Rec) → encode (a ++ b) ≡ encode a ++ encode b
unfolding encode
encode-append [] b = refl
encode-append (r ∷ a) b = ap (λ (l : List ℕ). encode_rec r ++ l) (encode-append a b) ∙ sym (append_assoc (encode_rec r) (encode a) (encode b))

-- the records of the part that is lent are those of the whole
pub front-records : (b : List ℕ) → records_of (take (16 * (length b / 16)) b) ≡ records_of b
front-records b =
    let w : 16 * (length b / 16) ≤ length b = omega arith in
    records_of-take (length b / 16) b w ∙ take_all (length b / 16) (records_of b) (omega (arith, length-records_of b))

-- a list of bytes is its records and its odd bytes
pub bytes-split : (b : List ℕ) → Bytes b → b ≡ encode (records_of b) ++ odd_of b
unfolding odd_of
bytes-split b h =
    let k : ℕ = length b / 16 in
    let w : 16 * k ≤ length b = omega arith in
    sym (take-append-drop (16 * k) b)
    ∙ ap (λ (x : List ℕ). x ++ drop (16 * k) b)
    (sym (encode-records_of k (take (16 * k) b) (length-take-le (16 * k) b w) (bytes_take (16 * k) b h)) ∙ ap encode (front-records b))

-- what a writer left, said of every byte
pub wrote-bytes : (b b' : List ℕ) (rs : List Rec) → Bytes b' → Wrote b b' rs → b' ≡ encode rs ++ odd_of b
wrote-bytes b b' rs h w = bytes-split b' h ∙ ap₂ (λ (x : List Rec) (y : List ℕ). encode x ++ y) w.records w.odd

-- records written at the front, and the rest as it was, said of every byte
pub wrote-front : (b b' : List ℕ) (rs : List Rec) → Bytes b → Bytes b' → length rs ≤ length (records_of b)
    → Wrote b b' (rs ++ drop (length rs) (records_of b)) → b' ≡ encode rs ++ drop (16 * length rs) b
wrote-front b b' rs h h' f w =
    let n : ℕ = length rs in
    let v : 16 * n ≤ length b = omega (arith, length-records_of b) in
    wrote-bytes b b' (rs ++ drop n (records_of b)) h' w
    ∙ ap (λ (x : List ℕ). x ++ odd_of b) (encode-append rs (drop n (records_of b)))
    ∙ append_assoc (encode rs) (encode (drop n (records_of b))) (odd_of b)
    ∙ ap (λ (x : List ℕ). encode rs ++ x)
    (ap₂ (λ (x : List Rec) (y : List ℕ). encode x ++ y) (sym (records_of-drop n b v)) (sym (odd-drop n b v))
    ∙ sym (bytes-split (drop (16 * n) b) (bytes_drop (16 * n) b h)))

-- records written at the front, and the rest as it was, said of the bytes
pub bytes-written : (k : ℕ) (b b' : List ℕ) (rs : List Rec) → length b ≡ 16 * k → length b' ≡ 16 * k → Bytes b → Bytes b' → length rs ≤ k
    → records_of b' ≡ rs ++ drop (length rs) (records_of b) → b' ≡ encode rs ++ drop (16 * length rs) b
bytes-written k b b' rs e e' h h' f q =
    let n : ℕ = length rs in
    let w : 16 * n ≤ length b = omega arith in
    let d : length (drop (16 * n) b) ≡ 16 * (k - n) = simp length-drop (omega arith) in
    sym (encode-records_of k b' e' h')
    ∙ ap encode (q ∙ ap (λ (l : List Rec). rs ++ l) (sym (records_of-drop n b w)))
    ∙ encode-append rs (records_of (drop (16 * n) b))
    ∙ ap (λ (l : List ℕ). encode rs ++ l) (encode-records_of (k - n) (drop (16 * n) b) d (bytes_drop (16 * n) b h))
