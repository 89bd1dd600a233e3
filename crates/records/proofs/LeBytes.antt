-- std's bytes of a number, the lowest first, are those of specs/Bytes. Assumes nothing.
use mathlib.Core.Path.{◌≡◌, refl}
use Prim.Native.Nat.{ℕ, ◌+◌, ◌/◌, ◌%◌}
use native.Mathlib.Omega.{arith}
use mathlib.Core.List.{List, [], ◌∷◌}
use lib.ListN.{get_or}
use Rattle.std.specs.Int.{w16, w32, w64, from_le_bytes, to_le_bytes}
use Rattle.records.specs.Bytes.{le16, le32, le64, bytes16, bytes32, bytes64}

-- the number that std reads from the bytes at an index
pub from-le16 : (s : List ℕ) (i : ℕ) → from_le_bytes w16 (get_or s i 0 ∷ get_or s (i + 1) 0 ∷ []) ≡ le16 s i
from-le16 s i = omega arith

pub from-le32 : (s : List ℕ) (i : ℕ)
    → from_le_bytes w32 (get_or s i 0 ∷ get_or s (i + 1) 0 ∷ get_or s (i + 2) 0 ∷ get_or s (i + 2 + 1) 0 ∷ []) ≡ le32 s i
from-le32 s i = omega arith

pub from-le64 : (s : List ℕ) (i : ℕ)
    → from_le_bytes w64 (
    get_or s i 0 ∷ get_or s (i + 1) 0 ∷ get_or s (i + 2) 0 ∷ get_or s (i + 2 + 1) 0
    ∷ get_or s (i + 4) 0 ∷ get_or s (i + 4 + 1) 0 ∷ get_or s (i + 4 + 2) 0 ∷ get_or s (i + 4 + 2 + 1) 0 ∷ [])
    ≡ le64 s i
from-le64 s i = omega arith

-- the bytes that std gives
pub to-bytes16 : (v : ℕ) → to_le_bytes w16 v ≡ bytes16 v
to-bytes16 v = refl

pub to-bytes32 : (v : ℕ) → to_le_bytes w32 v ≡ bytes32 v
to-bytes32 v =
    let a : v % 65536 % 256 ≡ v % 256 = omega arith in
    let b : v % 65536 / 256 % 256 ≡ v / 256 % 256 = omega arith in
    let c : v / 65536 / 256 % 256 ≡ v / 16777216 % 256 = omega arith in
    rw (a, b, c)

pub to-bytes64 : (v : ℕ) → to_le_bytes w64 v ≡ bytes64 v
to-bytes64 v =
    let a : v % 4294967296 % 65536 % 256 ≡ v % 256 = omega arith in
    let b : v % 4294967296 % 65536 / 256 % 256 ≡ v / 256 % 256 = omega arith in
    let c : v % 4294967296 / 65536 % 256 ≡ v / 65536 % 256 = omega arith in
    let d : v % 4294967296 / 65536 / 256 % 256 ≡ v / 16777216 % 256 = omega arith in
    let e : v / 4294967296 % 65536 % 256 ≡ v / 4294967296 % 256 = omega arith in
    let f : v / 4294967296 % 65536 / 256 % 256 ≡ v / 1099511627776 % 256 = omega arith in
    let g : v / 4294967296 / 65536 % 256 ≡ v / 281474976710656 % 256 = omega arith in
    let h : v / 4294967296 / 65536 / 256 % 256 ≡ v / 72057594037927936 % 256 = omega arith in
    rw (a, b, c, d, e, f, g, h)
