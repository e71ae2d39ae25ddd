-- The refusals of values: their names, byte offsets, and order.
use Rattle.std.specs.Prelude.{◌≡◌, ℕ, ◌<◌, ◌≤◌, ◌⊎◌, List, Option, MatchOption, codes}
use Rattle.pattern_reader.specs.declared.value_refusal.ValueRefusal.{ValueRefusal}
use Rattle.pattern_reader.specs.declared.value_refusal.ValueRefusal.TheVariants.{BadCount, LongPath, BadAddress, EmptySpan, NoCommonRoot, NoValue}

abbrev pub value_refusal_name : ValueRefusal → List ℕ
value_refusal_name (BadCount at) = codes "BadCount"
value_refusal_name (LongPath at) = codes "LongPath"
value_refusal_name (BadAddress at) = codes "BadAddress"
value_refusal_name (EmptySpan at) = codes "EmptySpan"
value_refusal_name (NoCommonRoot at) = codes "NoCommonRoot"
value_refusal_name (NoValue at) = codes "NoValue"

abbrev pub value_refusal_offset : ValueRefusal → ℕ
value_refusal_offset (BadCount at) = at
value_refusal_offset (LongPath at) = at
value_refusal_offset (BadAddress at) = at
value_refusal_offset (EmptySpan at) = at
value_refusal_offset (NoCommonRoot at) = at
value_refusal_offset (NoValue at) = at

-- at one offset, LongPath comes first, then NoCommonRoot; the others never share one in a text
abbrev pub rank_of : ValueRefusal → ℕ
rank_of (LongPath at) = 0
rank_of (NoCommonRoot at) = 1
rank_of (EmptySpan at) = 2
rank_of (BadCount at) = 3
rank_of (BadAddress at) = 4
rank_of (NoValue at) = 5

-- the first has the lower offset, or the same one and no higher rank
abbrev pub Precedes : ValueRefusal → ValueRefusal → Type 0
Precedes a b = (value_refusal_offset a < value_refusal_offset b) ⊎ ((value_refusal_offset a ≡ value_refusal_offset b) × (rank_of a ≤ rank_of b))

-- the refusal is one of these, and precedes each of them
pub record IsEarliest (IsOne : ValueRefusal → Type 0) (refusal : ValueRefusal) : Type 0 where
  pub one : IsOne refusal
  pub first : (other : ValueRefusal) → IsOne other → Precedes refusal other

-- the earliest of these, or none if there are none
abbrev pub IsEarliestOf : (ValueRefusal → Type 0) → Option ValueRefusal → Type 0
IsEarliestOf IsOne found = MatchOption found ((refusal : ValueRefusal) → ¬ IsOne refusal) (IsEarliest IsOne)
