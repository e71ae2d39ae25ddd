-- Whether a comparison holds for values, and a bracket for an observation (STIX 2.1, section 9.6).
-- `last` is the last property name of a path.
use Rattle.std.specs.Prelude.{◌≡◌, ◌⊎◌, ⊤, ℕ, ℤ, Bool, true, false, IsTrue, List, fold, Contains, Option, Some, None, Ok, codes}
use Rattle.std.specs.Str.{chars}
use Rattle.std.specs.Ordering.{nat_cmp, int_cmp, bool_cmp}
use Rattle.std.specs.Cmp.Lexicographic.{slice_cmp}
use Rattle.std.specs.declared.cmp.Ordering.{Ordering}
use Rattle.std.specs.declared.cmp.Ordering.TheVariants as order
use Rattle.hex.specs.Hex.{decode_of}
use Rattle.base64.specs.Engines.{standard}
use Rattle.base64.specs.GeneralPurpose.{encode_of, IsBytes}
use Rattle.serde_json.specs.Data.{Data, number}
use Rattle.serde_json.specs.Find.{as_str, as_bool, of_integer}
use Rattle.stix_times.specs.Reading.{IsTextOfInstant}
use Rattle.pattern_types.specs.declared.constant.Constant.{Constant}
use Rattle.pattern_types.specs.declared.constant.Constant.TheVariants.{Integer, String, Boolean, Hex, Binary, Timestamp}
use Rattle.pattern_types.specs.declared.check.Check.{Check}
use Rattle.pattern_types.specs.declared.check.Check.TheVariants.{Equal, Differ, Less, LessEqual, Greater, GreaterEqual, Among, Like, Subset, Superset, Exists}
use Rattle.pattern_types.specs.declared.leaf.Test.{Test}
use Rattle.pattern_types.specs.declared.path.Path.{Path}
use Rattle.pattern_types.specs.PlainLeaf.{PlainLeaf, PlainLeaves, one, every, some, none, more}
use Rattle.match_comparisons.specs.Like.{IsLike}
use Rattle.pattern_types.specs.declared.block.Block.{Block}
use Rattle.pattern_types.specs.Block.{IsWithin}
use Rattle.pattern_types.specs.BlockText.{IsBlockText}
use Rattle.match_comparisons.specs.Selection.{EndsIn, last_name, IsRoot, IsSelected}

-- the last property name of a path
abbrev pub last_property : Path → Option (List ℕ)
last_property path = fold last_name None path.steps

-- the bytes that a text encodes, by the name of its property
abbrev pub IsBytesOf : Option (List ℕ) → List ℕ → List ℕ → Type 0
IsBytesOf None text bytes = ⊥
IsBytesOf (Some name) text bytes = (EndsIn (codes "_hex") name × (decode_of text ≡ Ok bytes))
    ⊎ (EndsIn (codes "_bin") name × IsBytes bytes × (text ≡ encode_of standard bytes))

-- the value encodes bytes that have this order to the constant
abbrev pub BytesCompare : Option (List ℕ) → Data → List ℕ → Ordering → Type 0
BytesCompare last value bytes order = (text decoded : List ℕ) × (as_str value ≡ Some text) × IsBytesOf last text decoded
    × (order ≡ slice_cmp nat_cmp decoded bytes)

-- the value is of the constant's kind, and has this order to it: integers by size, texts by code
-- point (so by the bytes of their UTF-8), times by instant, bytes lexicographically; false before
-- true
abbrev pub Compares : Option (List ℕ) → Data → Constant → Ordering → Type 0
Compares last value (Integer whole) order = (m : ℤ) × (value ≡ number (of_integer m)) × (order ≡ int_cmp m whole)
Compares last value (String words) order = (text : List ℕ) × (as_str value ≡ Some text) × (order ≡ slice_cmp nat_cmp text words)
Compares last value (Boolean truth) order = (b : Bool) × (as_bool value ≡ Some b) × (order ≡ bool_cmp b truth)
Compares last value (Timestamp instant) order = (text : List ℕ) × (i : ℤ) × (as_str value ≡ Some text) × IsTextOfInstant text i
    × (order ≡ int_cmp i instant)
Compares last value (Hex bytes) order = BytesCompare last value bytes order
Compares last value (Binary bytes) order = BytesCompare last value bytes order

-- the value spells the block
abbrev pub IsBlockOf : Data → Block → Type 0
IsBlockOf value block = (text : List ℕ) × (as_str value ≡ Some text) × IsBlockText text block

-- the value meets the check: one line for each operator
abbrev pub MeetsCheck : Option (List ℕ) → Data → Check → Type 0
MeetsCheck last value (Equal constant) = Compares last value constant order.Equal
MeetsCheck last value (Differ constant) = ¬ (Compares last value constant order.Equal)
MeetsCheck last value (Less constant) = Compares last value constant order.Less
MeetsCheck last value (LessEqual constant) = Compares last value constant order.Less ⊎ Compares last value constant order.Equal
MeetsCheck last value (Greater constant) = Compares last value constant order.Greater
MeetsCheck last value (GreaterEqual constant) = Compares last value constant order.Greater ⊎ Compares last value constant order.Equal
MeetsCheck last value (Among constants) = (constant : Constant) × Contains constants constant × Compares last value constant order.Equal
MeetsCheck last value (Like pattern) = (text : List ℕ) × (as_str value ≡ Some text) × IsLike (chars text) (chars pattern)
MeetsCheck last value (Subset address) = (block : Block) × IsBlockOf value block × IsWithin block address.block
MeetsCheck last value (Superset address) = (block : Block) × IsBlockOf value block × IsWithin address.block block
MeetsCheck last value Exists = ⊤

-- NOT negates a fact
abbrev pub NegatedIf : Bool → Type 0 → Type 0
NegatedIf false Fact = Fact
NegatedIf true Fact = ¬ Fact

-- a negated test negates the answer for each value, whatever its kind
abbrev pub MeetsTest : Option (List ℕ) → Data → Test → Type 0
MeetsTest last value test = NegatedIf test.negated (MeetsCheck last value test.check)

-- the test is NOT EXISTS
abbrev pub IsAbsence : Test → Type 0
IsAbsence test = (test.check ≡ Exists) × IsTrue test.negated

-- the path selects some value that meets the test
abbrev pub SomeMeets : List Data → ℕ → Test → Type 0
SomeMeets objects root test = (value : Data) × IsSelected objects root test.path value × MeetsTest (last_property test.path) value test

-- the object at the position has the path's type, and for NOT EXISTS the path selects nothing, for any other test some
-- value that meets it
pub record TestHolds (objects : List Data) (root : ℕ) (test : Test) : Type 0 where
  pub object : Data
  pub is_root : IsRoot objects root test.path.kind object
  pub nothing : IsAbsence test → (value : Data) → ¬ IsSelected objects root test.path value
  pub something : (¬ IsAbsence test) → SomeMeets objects root test

-- one root meets a whole expression: each part of AND, and some part of OR
abbrev mutual
  pub HoldsAt : List Data → ℕ → PlainLeaf → Type 0
  HoldsAt objects root (one test) = TestHolds objects root test
  HoldsAt objects root (every parts) = AllHold objects root parts
  HoldsAt objects root (some parts) = SomeHold objects root parts

  pub AllHold : List Data → ℕ → PlainLeaves → Type 0
  AllHold objects root none = ⊤
  AllHold objects root (more part parts) = HoldsAt objects root part × AllHold objects root parts

  pub SomeHold : List Data → ℕ → PlainLeaves → Type 0
  SomeHold objects root none = ⊥
  SomeHold objects root (more part parts) = HoldsAt objects root part ⊎ SomeHold objects root parts

-- a bracket holds for an observation where a single root meets the whole bracket
abbrev pub LeafHolds : List Data → List ℕ → PlainLeaf → Type 0
LeafHolds objects roots leaf = (root : ℕ) × Contains roots root × HoldsAt objects root leaf
