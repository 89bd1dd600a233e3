-- Laws of `records_of`: what stands at an index, and what a store, a part and a part that came back do to it. Assumes nothing.
use mathlib.Core.Path.{◌≡◌, refl, sym, ap, ap₂, ◌∙◌}
use Prim.Native.Nat.{ℕ, zero, suc, ◌+◌, ◌-◌, ◌*◌, ◌/◌, ◌%◌, ◌≤◌, ◌<◌}
use native.Mathlib.Nat.{zero-add, suc-add, suc-ne-zero, add-zero, suc-pred-eq_of_pos}
use native.Mathlib.Omega.{arith}
use mathlib.Core.List.{List, [], ◌∷◌, ◌++◌, append-nil, append_assoc}
use lib.ListN.{length, get_or, take, drop, set, length-append, length-drop, take-append-drop, drop_of_length-le}
use lib.Seq.{length-take-le, take-append-le, drop-append-le, drop-append-add, drop-drop, take_at, drop_at, get_or-drop, set_split, take_all}
use Rattle.records.specs.Bytes.{le16, le32, le64, bytes16, bytes32, bytes64}
use Rattle.records.specs.declared.Rec.{Rec}
use Rattle.records.specs.Records.{decode, encode_rec, encode, recs, records_of, odd_of, zero_rec, Wrote}
use Rattle.records.specs.Moves.{written}

pub length-recs : (n : ℕ) (b : List ℕ) → length (recs n b) ≡ n
unfolding recs
length-recs zero b = refl
length-recs (suc n) b = ap suc (length-recs n (drop 16 b))

pub length-records_of : (b : List ℕ) → length (records_of b) ≡ length b / 16
unfolding records_of
length-records_of b = length-recs (length b / 16) b

-- buffers of one length have as many records
pub same_count : (b b' : List ℕ) → length b ≡ length b' → length (records_of b) ≡ length (records_of b')
same_count b b' e = length-records_of b ∙ ap (λ (n : ℕ). n / 16) e ∙ sym (length-records_of b')

-- records of whole records, and then of the rest
pub recs-append : (k m : ℕ) (a b : List ℕ) → length a ≡ 16 * k → recs (k + m) (a ++ b) ≡ recs k a ++ recs m b
unfolding recs
recs-append zero m [] b e = ap (λ (n : ℕ). recs n b) (zero-add m)
recs-append zero m (x ∷ a) b e = absurd (suc-ne-zero (length a) e)
recs-append (suc k) m a b e =
    let h : 16 ≤ length a = omega arith in
    let q : length (drop 16 a) ≡ 16 * k = simp length-drop (omega arith) in
    rw (suc-add, take-append-le, drop-append-le, recs-append k m (drop 16 a) b q)

pub records_of-append : (k : ℕ) (a b : List ℕ) → length a ≡ 16 * k → records_of (a ++ b) ≡ records_of a ++ records_of b
unfolding records_of
records_of-append k a b e =
    let p : length (a ++ b) / 16 ≡ k + length b / 16 = simp length-append (omega arith) in
    let q : length a / 16 ≡ k = omega arith in
    rw (p, q) (recs-append k (length b / 16) a b e)

-- a part from a record's start
pub records_of-drop : (k : ℕ) (b : List ℕ) → 16 * k ≤ length b → records_of (drop (16 * k) b) ≡ drop k (records_of b)
records_of-drop k b h =
    let e : length (take (16 * k) b) ≡ 16 * k = length-take-le (16 * k) b h in
    let l : length (records_of (take (16 * k) b)) ≡ k = length-records_of (take (16 * k) b) ∙ omega (arith, e) in
    sym (ap (λ (x : List ℕ). drop k (records_of x)) (sym (take-append-drop (16 * k) b))
    ∙ ap (drop k) (records_of-append k (take (16 * k) b) (drop (16 * k) b) e)
    ∙ drop_at (records_of (take (16 * k) b)) (records_of (drop (16 * k) b)) k l)

pub records_of-take : (k : ℕ) (b : List ℕ) → 16 * k ≤ length b → records_of (take (16 * k) b) ≡ take k (records_of b)
records_of-take k b h =
    let e : length (take (16 * k) b) ≡ 16 * k = length-take-le (16 * k) b h in
    let l : length (records_of (take (16 * k) b)) ≡ k = length-records_of (take (16 * k) b) ∙ omega (arith, e) in
    sym (ap (λ (x : List ℕ). take k (records_of x)) (sym (take-append-drop (16 * k) b))
    ∙ ap (take k) (records_of-append k (take (16 * k) b) (drop (16 * k) b) e)
    ∙ take_at (records_of (take (16 * k) b)) (records_of (drop (16 * k) b)) k l)

-- a record's bytes stand within the buffer
pub room : (b : List ℕ) (at : ℕ) → at < length (records_of b) → 16 * at + 16 ≤ length b
room b at h = omega (arith, length-records_of b)

first-record : (x : List ℕ) → 0 < length x / 16 → get_or (records_of x) 0 zero_rec ≡ decode (take 16 x)
unfolding records_of recs
first-record x p = ap (λ (n : ℕ). get_or (recs n x) 0 zero_rec) (sym (suc-pred-eq_of_pos p))

pub one-record : (x : List ℕ) → length x ≡ 16 → records_of x ≡ decode (take 16 x) ∷ []
unfolding records_of recs
one-record x p = ap (λ (n : ℕ). recs (n / 16) x) p

-- the record at a place is that of its sixteen bytes
pub get_or-records_of : (b : List ℕ) (at : ℕ) → at < length (records_of b) → get_or (records_of b) at zero_rec ≡ decode (take 16 (drop (16 * at) b))
get_or-records_of b at h =
    let w : 16 * at + 16 ≤ length b = room b at h in
    let v : 16 * at ≤ length b = omega arith in
    let u : 0 < length (drop (16 * at) b) / 16 = simp length-drop (omega arith) in
    sym (get_or-drop at (records_of b) 0 zero_rec ∙ ap (λ (k : ℕ). get_or (records_of b) k zero_rec) (add-zero at))
    ∙ ap (λ (l : List Rec). get_or l 0 zero_rec) (sym (records_of-drop at b v))
    ∙ first-record (drop (16 * at) b) u

-- sixteen bytes stored at a place
pub set-records_of : (b y : List ℕ) (at : ℕ) → at < length (records_of b) → length y ≡ 16
    → records_of (take (16 * at) b ++ (y ++ drop 16 (drop (16 * at) b))) ≡ set (records_of b) at (decode (take 16 y))
set-records_of b y at h q =
    let w : 16 * at + 16 ≤ length b = room b at h in
    let v : 16 * at ≤ length b = omega arith in
    let z : 16 * suc at ≤ length b = omega arith in
    let f : 16 * at + 16 ≡ 16 * suc at = omega arith in
    let e : length (take (16 * at) b) ≡ 16 * at = length-take-le (16 * at) b v in
    records_of-append at (take (16 * at) b) (y ++ drop 16 (drop (16 * at) b)) e
    ∙ ap₂ (λ (l m : List Rec). l ++ m) (records_of-take at b v)
    (records_of-append 1 y (drop 16 (drop (16 * at) b)) q
    ∙ ap₂ (λ (l m : List Rec). l ++ m) (one-record y q)
    (ap records_of (drop-drop 16 (16 * at) b ∙ ap (λ (k : ℕ). drop k b) f) ∙ records_of-drop (suc at) b z))
    ∙ sym (set_split (records_of b) at (decode (take 16 y)) h)

le16-bytes : (v : ℕ) → v < 65536 → le16 (bytes16 v) 0 ≡ v
le16-bytes v h = omega arith

le32-bytes : (v : ℕ) → v < 4294967296 → le32 (bytes32 v) 0 ≡ v
le32-bytes v h = omega (arith, le16-bytes (v % 65536) (omega arith), le16-bytes (v / 65536) (omega arith))

le64-bytes : (v : ℕ) → v < 18446744073709551616 → le64 (bytes64 v) 0 ≡ v
le64-bytes v h = omega (arith, le32-bytes (v % 4294967296) (omega arith), le32-bytes (v / 4294967296) (omega arith))

-- a record whose fields fit is read back
pub decode-encode : (r : Rec) → r.half < 65536 → r.word < 4294967296 → r.long < 18446744073709551616 → decode (encode_rec r) ≡ r
unfolding decode encode_rec
decode-encode r h w l =
    λ i. record { kind = r.kind; sub = r.sub; half = le16-bytes r.half h i; word = le32-bytes r.word w i; long = le64-bytes r.long l i }

pub length-encode_rec : (r : Rec) → length (encode_rec r) ≡ 16
unfolding encode_rec
length-encode_rec r = refl

pub length-encode : (rs : List Rec) → length (encode rs) ≡ 16 * length rs
unfolding encode
length-encode [] = refl
length-encode (r ∷ rs) = omega (arith, length-append (encode_rec r) (encode rs), length-encode_rec r, length-encode rs)

pub take-encode_rec : (r : Rec) → take 16 (encode_rec r) ≡ encode_rec r
unfolding encode_rec
take-encode_rec r = refl

-- what a writer that was lent a record's sixteen bytes leaves of the whole
pub put-records_of : (b : List ℕ) (at k : ℕ) (r : Rec) → at < length (records_of b) → k ≡ 16
    → r.half < 65536 → r.word < 4294967296 → r.long < 18446744073709551616
    → records_of (take (16 * at) b ++ (encode_rec r ++ drop k (drop (16 * at) b))) ≡ set (records_of b) at r
put-records_of b at k r h e f g l =
    ap (λ (n : ℕ). records_of (take (16 * at) b ++ (encode_rec r ++ drop n (drop (16 * at) b)))) e
    ∙ set-records_of b (encode_rec r) at h (length-encode_rec r)
    ∙ ap (set (records_of b) at) (ap decode (take-encode_rec r) ∙ decode-encode r f g l)

-- the part from record q on, as a callee sees it
pub tail-in : (b : List ℕ) (q : ℕ) → 16 * q ≤ length b → records_of (take (length b - 16 * q) (drop (16 * q) b)) ≡ drop q (records_of b)
tail-in b q h =
    ap records_of (take_all (length b - 16 * q) (drop (16 * q) b) (simp length-drop (omega arith))) ∙ records_of-drop q b h

-- and what the whole is once that part has come back
pub tail-out : (b y : List ℕ) (q : ℕ) → 16 * q ≤ length b
    → records_of (take (16 * q) b ++ (y ++ drop (length b - 16 * q) (drop (16 * q) b))) ≡ take q (records_of b) ++ records_of y
tail-out b y q h =
    ap (λ (x : List ℕ). records_of (take (16 * q) b ++ (y ++ x))) (drop_of_length-le (drop (16 * q) b) {i = length b - 16 * q} (simp length-drop (omega arith)))
    ∙ ap (λ (x : List ℕ). records_of (take (16 * q) b ++ x)) (append-nil y)
    ∙ records_of-append q (take (16 * q) b) y (length-take-le (16 * q) b h)
    ∙ ap (λ (x : List Rec). x ++ records_of y) (records_of-take q b h)

-- a run of records stored from a place on
pub run-records_of : (b y : List ℕ) (at n k : ℕ) → at + n ≤ length (records_of b) → length y ≡ 16 * n → k ≡ 16 * n
    → records_of (take (16 * at) b ++ (y ++ drop k (drop (16 * at) b))) ≡ written (records_of b) at (records_of y)
run-records_of b y at n k h e f =
    let w : 16 * (at + n) ≤ length b = omega (arith, length-records_of b) in
    let v : 16 * at ≤ length b = omega arith in
    let l : length (records_of y) ≡ n = length-records_of y ∙ omega (arith, e) in
    let q : 16 * at + k ≡ 16 * (at + n) = omega arith in
    records_of-append at (take (16 * at) b) (y ++ drop k (drop (16 * at) b)) (length-take-le (16 * at) b v)
    ∙ ap₂ (λ (s t : List Rec). s ++ t) (records_of-take at b v)
    (records_of-append n y (drop k (drop (16 * at) b)) e
    ∙ ap (λ (t : List Rec). records_of y ++ t)
    (ap records_of (drop-drop k (16 * at) b ∙ ap (λ (i : ℕ). drop i b) q)
    ∙ records_of-drop (at + n) b w
    ∙ ap (λ (i : ℕ). drop (at + i) (records_of b)) (sym l)))
    ∙ sym (append_assoc (take at (records_of b)) (records_of y) (drop (at + length (records_of y)) (records_of b)))

-- odd bytes are those of what follows whole records
pub odd-append : (k : ℕ) (a b : List ℕ) → length a ≡ 16 * k → odd_of (a ++ b) ≡ odd_of b
unfolding odd_of
odd-append k a b e =
    let p : 16 * (length (a ++ b) / 16) ≡ length a + 16 * (length b / 16) = simp length-append (omega arith) in
    rw (p, drop-append-add a b (16 * (length b / 16)))

-- a part from a record's start has the odd bytes of the whole
pub odd-drop : (k : ℕ) (b : List ℕ) → 16 * k ≤ length b → odd_of (drop (16 * k) b) ≡ odd_of b
odd-drop k b h =
    sym (odd-append k (take (16 * k) b) (drop (16 * k) b) (length-take-le (16 * k) b h)) ∙ ap odd_of (take-append-drop (16 * k) b)

-- sixteen bytes stored at a place leave them
pub odd-put : (b y : List ℕ) (at k : ℕ) → at < length (records_of b) → k ≡ 16 → length y ≡ 16
    → odd_of (take (16 * at) b ++ (y ++ drop k (drop (16 * at) b))) ≡ odd_of b
odd-put b y at k h e q =
    let w : 16 * at + 16 ≤ length b = room b at h in
    let f : 16 * at + k ≡ 16 * suc at = omega arith in
    odd-append at (take (16 * at) b) (y ++ drop k (drop (16 * at) b)) (length-take-le (16 * at) b (omega arith))
    ∙ odd-append 1 y (drop k (drop (16 * at) b)) q
    ∙ ap odd_of (drop-drop k (16 * at) b ∙ ap (λ (n : ℕ). drop n b) f)
    ∙ odd-drop (suc at) b (omega arith)

-- so does a run
pub odd-run : (b y : List ℕ) (at n k : ℕ) → at + n ≤ length (records_of b) → length y ≡ 16 * n → k ≡ 16 * n
    → odd_of (take (16 * at) b ++ (y ++ drop k (drop (16 * at) b))) ≡ odd_of b
odd-run b y at n k h e f =
    let w : 16 * (at + n) ≤ length b = omega (arith, length-records_of b) in
    let q : 16 * at + k ≡ 16 * (at + n) = omega arith in
    odd-append at (take (16 * at) b) (y ++ drop k (drop (16 * at) b)) (length-take-le (16 * at) b (omega arith))
    ∙ odd-append n y (drop k (drop (16 * at) b)) e
    ∙ ap odd_of (drop-drop k (16 * at) b ∙ ap (λ (i : ℕ). drop i b) q)
    ∙ odd-drop (at + n) b w

-- so does a part from record q on that came back with its own
pub odd-tail : (b y : List ℕ) (q : ℕ) → 16 * q ≤ length b → odd_of y ≡ odd_of (take (length b - 16 * q) (drop (16 * q) b))
    → odd_of (take (16 * q) b ++ (y ++ drop (length b - 16 * q) (drop (16 * q) b))) ≡ odd_of b
odd-tail b y q h e =
    let l : length (drop (16 * q) b) ≤ length b - 16 * q = simp length-drop (omega arith) in
    ap (λ (x : List ℕ). odd_of (take (16 * q) b ++ (y ++ x))) (drop_of_length-le (drop (16 * q) b) {i = length b - 16 * q} l)
    ∙ ap (λ (x : List ℕ). odd_of (take (16 * q) b ++ x)) (append-nil y)
    ∙ odd-append q (take (16 * q) b) y (length-take-le (16 * q) b h)
    ∙ e
    ∙ ap odd_of (take_all (length b - 16 * q) (drop (16 * q) b) l)
    ∙ odd-drop q b h

-- the answer of a writer
pub wrote : (b b' : List ℕ) (rs : List Rec) → length b' ≡ length b → records_of b' ≡ rs → odd_of b' ≡ odd_of b → Wrote b b' rs
wrote b b' rs e f o = record { records = f; count = same_count b' b e; odd = o }

-- the answer of a writer that wrote nothing
pub wrote-same : (b : List ℕ) → Wrote b b (records_of b)
wrote-same b = record { records = refl; count = refl; odd = refl }

-- its records have another name
pub wrote-is : {b b' : List ℕ} {rs ss : List Rec} → rs ≡ ss → Wrote b b' rs → Wrote b b' ss
wrote-is e w = record { records = w.records ∙ e; count = w.count; odd = w.odd }

-- two writers, one after the other
pub wrote_then : {b b₁ b₂ : List ℕ} {rs ss : List Rec} → Wrote b b₁ rs → Wrote b₁ b₂ ss → Wrote b b₂ ss
wrote_then v w = record { records = w.records; count = w.count ∙ v.count; odd = w.odd ∙ v.odd }
