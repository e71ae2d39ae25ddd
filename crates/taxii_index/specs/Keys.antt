-- A set of keys, given by a list of them.
use Rattle.std.specs.Prelude.{◌≡◌, false, ℕ, ◌<◌, ◌^◌, ℤ, FitsSigned, IsTrue, ◌↔◌, List}
use Rattle.std.specs.Int.{w64}
use Rattle.std.specs.List.{Contains}
use Rattle.std.specs.declared.cmp.Ordering.{Ordering}
use Rattle.std.specs.Ordering.{ordering_then, nat_cmp, int_cmp}
use Rattle.std.specs.BTreeSet.{BTreeSet, contains}
use Rattle.taxii_rows.specs.Keeper.{is_date_in}

-- a name (keyed hash), a version or 0, and a date
abbrev pub Key : Type 0
Key = ℕ × ℤ × ℕ

-- keys are ordered by name, then by number, then by date
abbrev pub key_cmp : Key → Key → Ordering
key_cmp key other = ordering_then (ordering_then (nat_cmp key.0 other.0) (int_cmp key.1 other.1)) (nat_cmp key.2 other.2)

-- the number and the date are of 64 bits
pub record IsIn64Bits (key : Key) : Type 0 where
  pub number : FitsSigned w64 key.1
  pub date : key.2 < 2 ^ 64

-- a key is in the set if and only if it is one of these
abbrev pub HasKeys : List Key → BTreeSet Key → Type 0
HasKeys keys set = (key : Key) → IsTrue (contains key_cmp set key) ↔ Contains keys key

-- the set has those of these keys that are of other dates
abbrev pub HasKeysBut : List ℕ → List Key → BTreeSet Key → Type 0
HasKeysBut dates keys set = (key : Key) → IsTrue (contains key_cmp set key) ↔ (Contains keys key × (is_date_in dates key.2 ≡ false))

-- no other of these keys is of its date
abbrev pub IsUniqueIn : List Key → Key → Type 0
IsUniqueIn keys key = (other : Key) → Contains keys other → other.2 ≡ key.2 → other ≡ key
