-- The 16 bytes of a number of 128 bits, the highest first: the bytes of the number that some bytes make
-- are those bytes.
use Rattle.std.proofs.Common.{◌≡◌, ℕ, zero, suc, ◌+◌, ◌*◌, ◌%◌, ◌^◌, ◌<◌, ◌≤◌, List, [], ◌∷◌, length, All, refl, sym, ap, ◌∙◌, arith, pow-add, mul-le-mul_left}
use Rattle.std.specs.Int.{byte_at, bytes_high_first, from_be_bytes, to_be_bytes, w128}
use Rattle.std.proofs.lemmas.Nat.{div-mul-add, mod-mul-add}
use Rattle.std.proofs.lemmas.List.Elements.{All-nil, All-cons, All-head, All-tail}

-- the number that bytes make
abbrev value : List ℕ → ℕ
value [] = 0
value (byte ∷ bytes) = byte * 256 ^ length bytes + value bytes

power_more : (k : ℕ) → 256 ^ suc k ≡ 256 ^ k * 256
power_more k = ap (λ n. 256 ^ n) (let e : suc k ≡ k + 1 = omega arith in e) ∙ pow-add 256 k 1

row_below : (byte rest scale : ℕ) → byte < 256 → rest < scale → byte * scale + rest < scale * 256
row_below byte rest scale small below =
    omega (arith, mul-le-mul_left scale (let most : byte + 1 ≤ 256 = omega arith in most))

value_below : (bytes : List ℕ) → All (λ b. b < 256) bytes → value bytes < 256 ^ length bytes
value_below [] small = omega arith
value_below (byte ∷ bytes) small =
    rw (power_more (length bytes))
    (row_below byte (value bytes) (256 ^ length bytes) (All-head (λ b. b < 256) byte bytes small) (value_below bytes (All-tail (λ b. b < 256) byte bytes small)))

byte_at_is : (k high byte rest : ℕ) → byte < 256 → rest < 256 ^ k → byte_at k ((high * 256 + byte) * 256 ^ k + rest) ≡ byte
byte_at_is zero high byte rest small below =
    ap (λ n. n % 256) (let e : (high * 256 + byte) * 256 ^ 0 + rest ≡ high * 256 + byte = omega arith in e) ∙ mod-mul-add high 256 byte small
byte_at_is (suc k) high byte rest small below =
    ap (λ n. n % 256) (div-mul-add (high * 256 + byte) (256 ^ suc k) rest below) ∙ mod-mul-add high 256 byte small

regroup : (high byte rest scale next : ℕ) → next ≡ scale * 256 → high * next + (byte * scale + rest) ≡ (high * 256 + byte) * scale + rest
regroup high byte rest scale next e = rw e (omega arith)

high_first : (bytes : List ℕ) (high : ℕ) → All (λ b. b < 256) bytes → bytes_high_first (length bytes) (high * 256 ^ length bytes + value bytes) ≡ bytes
high_first [] high small = refl
high_first (byte ∷ bytes) high small =
    let k = length bytes in
    let head = All-head (λ b. b < 256) byte bytes small in
    let tail = All-tail (λ b. b < 256) byte bytes small in
    let same = regroup high byte (value bytes) (256 ^ k) (256 ^ suc k) (power_more k) in
    ap (bytes_high_first (suc k)) same
    ∙ ap (λ b. b ∷ bytes_high_first k ((high * 256 + byte) * 256 ^ k + value bytes)) (byte_at_is k high byte (value bytes) head (value_below bytes tail))
    ∙ ap (λ bs. byte ∷ bs) (high_first bytes (high * 256 + byte) tail)

from_be_bytes_16 : (bytes : List ℕ) → length bytes ≡ 16 → from_be_bytes w128 bytes ≡ value bytes
from_be_bytes_16 [] l = absurd (omega arith)
from_be_bytes_16 (b0 ∷ []) l = absurd (omega arith)
from_be_bytes_16 (b0 ∷ b1 ∷ []) l = absurd (omega arith)
from_be_bytes_16 (b0 ∷ b1 ∷ b2 ∷ []) l = absurd (omega arith)
from_be_bytes_16 (b0 ∷ b1 ∷ b2 ∷ b3 ∷ []) l = absurd (omega arith)
from_be_bytes_16 (b0 ∷ b1 ∷ b2 ∷ b3 ∷ b4 ∷ []) l = absurd (omega arith)
from_be_bytes_16 (b0 ∷ b1 ∷ b2 ∷ b3 ∷ b4 ∷ b5 ∷ []) l = absurd (omega arith)
from_be_bytes_16 (b0 ∷ b1 ∷ b2 ∷ b3 ∷ b4 ∷ b5 ∷ b6 ∷ []) l = absurd (omega arith)
from_be_bytes_16 (b0 ∷ b1 ∷ b2 ∷ b3 ∷ b4 ∷ b5 ∷ b6 ∷ b7 ∷ []) l = absurd (omega arith)
from_be_bytes_16 (b0 ∷ b1 ∷ b2 ∷ b3 ∷ b4 ∷ b5 ∷ b6 ∷ b7 ∷ b8 ∷ []) l = absurd (omega arith)
from_be_bytes_16 (b0 ∷ b1 ∷ b2 ∷ b3 ∷ b4 ∷ b5 ∷ b6 ∷ b7 ∷ b8 ∷ b9 ∷ []) l = absurd (omega arith)
from_be_bytes_16 (b0 ∷ b1 ∷ b2 ∷ b3 ∷ b4 ∷ b5 ∷ b6 ∷ b7 ∷ b8 ∷ b9 ∷ b10 ∷ []) l = absurd (omega arith)
from_be_bytes_16 (b0 ∷ b1 ∷ b2 ∷ b3 ∷ b4 ∷ b5 ∷ b6 ∷ b7 ∷ b8 ∷ b9 ∷ b10 ∷ b11 ∷ []) l = absurd (omega arith)
from_be_bytes_16 (b0 ∷ b1 ∷ b2 ∷ b3 ∷ b4 ∷ b5 ∷ b6 ∷ b7 ∷ b8 ∷ b9 ∷ b10 ∷ b11 ∷ b12 ∷ []) l = absurd (omega arith)
from_be_bytes_16 (b0 ∷ b1 ∷ b2 ∷ b3 ∷ b4 ∷ b5 ∷ b6 ∷ b7 ∷ b8 ∷ b9 ∷ b10 ∷ b11 ∷ b12 ∷ b13 ∷ []) l = absurd (omega arith)
from_be_bytes_16 (b0 ∷ b1 ∷ b2 ∷ b3 ∷ b4 ∷ b5 ∷ b6 ∷ b7 ∷ b8 ∷ b9 ∷ b10 ∷ b11 ∷ b12 ∷ b13 ∷ b14 ∷ []) l = absurd (omega arith)
from_be_bytes_16 (b0 ∷ b1 ∷ b2 ∷ b3 ∷ b4 ∷ b5 ∷ b6 ∷ b7 ∷ b8 ∷ b9 ∷ b10 ∷ b11 ∷ b12 ∷ b13 ∷ b14 ∷ b15 ∷ []) l = omega arith
from_be_bytes_16 (b0 ∷ b1 ∷ b2 ∷ b3 ∷ b4 ∷ b5 ∷ b6 ∷ b7 ∷ b8 ∷ b9 ∷ b10 ∷ b11 ∷ b12 ∷ b13 ∷ b14 ∷ b15 ∷ b16 ∷ more) l = absurd (omega arith)

pub to_be_bytes-from_be_bytes_16 : (bytes : List ℕ) → length bytes ≡ 16 → All (λ b. b < 256) bytes → to_be_bytes w128 (from_be_bytes w128 bytes) ≡ bytes
to_be_bytes-from_be_bytes_16 bytes long small =
    ap (to_be_bytes w128) (from_be_bytes_16 bytes long ∙ (let e : value bytes ≡ 0 * 256 ^ length bytes + value bytes = omega arith in e))
    ∙ ap (λ k. bytes_high_first k (0 * 256 ^ length bytes + value bytes)) (sym long)
    ∙ high_first bytes 0 small

-- 16 bytes make a number of 128 bits
pub from_be_bytes-below : (bytes : List ℕ) → length bytes ≡ 16 → All (λ b. b < 256) bytes → from_be_bytes w128 bytes < 2 ^ 128
from_be_bytes-below bytes long small =
    rw (from_be_bytes_16 bytes long)
    (omega (arith, value_below bytes small, ap (λ k. 256 ^ k) long))

byte_at_small : (k n : ℕ) → byte_at k n < 256
byte_at_small zero n = omega arith
byte_at_small (suc k) n = omega arith

-- the bytes of a number
pub to_be_bytes_all : (k n : ℕ) → All (λ b. b < 256) (bytes_high_first k n)
to_be_bytes_all zero n = All-nil (λ b. b < 256)
to_be_bytes_all (suc k) n = All-cons (λ b. b < 256) (byte_at k n) (bytes_high_first k n) (byte_at_small k n) (to_be_bytes_all k n)
