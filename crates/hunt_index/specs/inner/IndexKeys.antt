-- For private clauses: the index keys of a bracket, one of which is met wherever it holds.
use Rattle.std.specs.Prelude.{◌≡◌, ⊤, ℕ, List, Contains, Option, MatchOption, None}
use Rattle.std.specs.declared.cmp.Ordering.TheVariants.{Equal}
use Rattle.serde_json.specs.Data.{Data}
use Rattle.pattern_types.specs.declared.constant.Constant.{Constant}
use Rattle.pattern_types.specs.declared.path.Step.{Step}
use Rattle.match_comparisons.specs.Selection.{IsRoot, Reaches}
use Rattle.match_comparisons.specs.Tests.{Compares}
use Rattle.hunt_index.specs.declared.key.Key.{Key}
use Rattle.hunt_index.specs.declared.index_key.IndexKey.{IndexKey}
use Rattle.hunt_index.specs.Definite.{ArePlain, IsDefiniteConstant}
use Rattle.hunt_index.specs.inner.Keys.{FitsKey}

-- the root has the type, and the steps lead to a value that the key matches
pub record IsMetIndexKey (objects : List Data) (root : ℕ) (index_key : IndexKey) : Type 0 where
  pub plain : ArePlain index_key.steps.now
  pub object : Data
  pub is_root : IsRoot objects root index_key.kind.now object
  pub value : Data
  pub reached : Reaches objects None index_key.steps.now object value
  pub fits : FitsKey index_key.key value

-- one of the index keys is met
abbrev pub SomeMet : List Data → ℕ → List IndexKey → Type 0
SomeMet objects root index_keys = (index_key : IndexKey) × Contains index_keys index_key × IsMetIndexKey objects root index_key

-- necessary: where the fact holds of a root, one of the index keys is met
abbrev pub AreIndexKeys : (List Data → ℕ → Type 0) → List IndexKey → Type 0
AreIndexKeys Fact index_keys = (objects : List Data) (root : ℕ) → Fact objects root → SomeMet objects root index_keys

-- the same, where there are index keys
abbrev pub IndexKeys : (List Data → ℕ → Type 0) → Option (List IndexKey) → Type 0
IndexKeys Fact found = MatchOption found ⊤ (AreIndexKeys Fact)

-- as IsMetIndexKey, but the steps may have a `[*]`
pub record IsShown (objects : List Data) (root : ℕ) (index_key : IndexKey) : Type 0 where
  pub object : Data
  pub is_root : IsRoot objects root index_key.kind.now object
  pub value : Data
  pub reached : Reaches objects None index_key.steps.now object value
  pub fits : FitsKey index_key.key value

-- sufficient: the fact holds of each root that shows the index key
abbrev pub IsSufficient : (List Data → ℕ → Type 0) → IndexKey → Type 0
IsSufficient Fact index_key = (objects : List Data) (root : ℕ) → IsShown objects root index_key → Fact objects root

-- the same for each of the index keys
abbrev pub AreSufficient : (List Data → ℕ → Type 0) → List IndexKey → Type 0
AreSufficient Fact index_keys = (index_key : IndexKey) → Contains index_keys index_key → IsSufficient Fact index_key

-- there are index keys, and each is sufficient
abbrev pub Sufficient : (List Data → ℕ → Type 0) → Option (List IndexKey) → Type 0
Sufficient Fact found = MatchOption found ⊥ (AreSufficient Fact)

-- one of the index keys has this path, and a key for which Fact holds
pub record HasIndexKey (kind : List ℕ) (steps : List Step) (Fact : Key → Type 0) (index_keys : List IndexKey) : Type 0 where
  pub index_key : IndexKey
  pub among : Contains index_keys index_key
  pub kind_is : index_key.kind.now ≡ kind
  pub steps_are : index_key.steps.now ≡ steps
  pub key : Fact index_key.key

-- the key matches each value that equals the constant
abbrev pub KeyRepresents : Constant → Key → Type 0
KeyRepresents constant key = (last : Option (List ℕ)) (value : Data) → Compares last value constant Equal → FitsKey key value

-- where the constant is definite, each value that the key matches equals it
abbrev pub AnswersConstant : Constant → Key → Type 0
AnswersConstant constant key = IsDefiniteConstant constant → (last : Option (List ℕ)) (value : Data) → FitsKey key value → Compares last value constant Equal

-- the same for one of some constants
abbrev pub AnswersSome : List Constant → Key → Type 0
AnswersSome constants key = (constant : Constant) × Contains constants constant × AnswersConstant constant key

-- each of the index keys has this path, and a key for which Fact holds
pub record IsBy (kind : List ℕ) (steps : List Step) (Fact : Key → Type 0) (index_key : IndexKey) : Type 0 where
  pub kind_is : index_key.kind.now ≡ kind
  pub steps_are : index_key.steps.now ≡ steps
  pub key : Fact index_key.key

abbrev pub AreBy : List ℕ → List Step → (Key → Type 0) → List IndexKey → Type 0
AreBy kind steps Fact index_keys = (index_key : IndexKey) → Contains index_keys index_key → IsBy kind steps Fact index_key
