-- What a query asks of a row, as sets: what it names twice counts once.
use Rattle.std.specs.Prelude.{ℕ, List, ◌↔◌, map, length}
use Rattle.std.specs.Borrow.{Bor}
use Rattle.std.specs.List.{Contains}
use Rattle.std.specs.List.Sorted.{IsSorted}
use Rattle.std.specs.declared.cmp.Ordering.{Ordering}
use Rattle.std.specs.Ordering.{ordering_then, nat_cmp}
use Rattle.std.specs.Cmp.Lexicographic.{slice_cmp}
use Rattle.stix_ids.specs.declared.id.Id.{Id}

-- a number, and a text
abbrev pub NumberedTextKey : Type 0
NumberedTextKey = ℕ × Bor (List ℕ)

-- keys are ordered by number, then by the bytes of their texts
abbrev pub draft_key_cmp : NumberedTextKey → NumberedTextKey → Ordering
draft_key_cmp key other = ordering_then (nat_cmp key.0 other.0) (slice_cmp nat_cmp key.1.now other.1.now)

-- the number of a key, and its text as it is
abbrev pub key_parts : NumberedTextKey → ℕ × List ℕ
key_parts key = (key.0, key.1.now)

-- the keys are in order, and are exactly those of these items
pub record AreKeysOf (items : List (ℕ × List ℕ)) (keys : List NumberedTextKey) : Type 0 where
  pub ordered : IsSorted draft_key_cmp keys
  pub same : (item : ℕ × List ℕ) → Contains (map key_parts keys) item ↔ Contains items item

-- a text, with its length before it
abbrev pub measured : List ℕ → ℕ × List ℕ
measured text = (length text, text)

-- the set has these texts, and no other
unfoldable pub HasTexts : List (List ℕ) → List NumberedTextKey → Type 0
HasTexts texts set = AreKeysOf (map measured texts) set

-- the number of a UUID, and a kind
abbrev pub number_and_kind : Id → ℕ × List ℕ
number_and_kind id = (id.number, id.kind)

-- the set has these identifiers, and no other
unfoldable pub HasIds : List Id → List NumberedTextKey → Type 0
HasIds ids set = AreKeysOf (map number_and_kind ids) set
