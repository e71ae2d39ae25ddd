-- For private clauses: the results for the parts of a syntax tree.
use Rattle.std.specs.Prelude.{◌≡◌, ◌↔◌, ℕ, List, Result, IfOk, ◌⊎◌, Ok, Err}
use Rattle.std.specs.Result.{result_err}
use Rattle.pattern_grammar.specs.Tree.{Comparison}
use Rattle.pattern_types.specs.{declared.leaf.Leaf.Leaf, PlainLeaf.plain_leaf, PlainLeaf.leaves_of_list}
use Rattle.pattern_reader.specs.{declared.analysis.Analysis.Analysis, declared.value_refusal.ValueRefusal.ValueRefusal, Roots.HasName}
use Rattle.pattern_reader.specs.{LeafMeaning.Means, LeafMeaning.AllParts, LeafMeaning.AnyParts, declared.analysis.Chain.Chain}
use Rattle.pattern_types.specs.Soundness.{IsSoundLeaf, AreSoundLeaves}
use Rattle.pattern_reader.specs.ValueRefusal.{IsEarliestOf, Precedes}
use Rattle.pattern_reader.specs.Refusals.{RefusalOfComparison, HasRoot, first_token}

-- the value, or the earliest of its refusals
pub record IsOutcome {T : Type 0} (IsThis : T → Type 0) (IsRefusal : ValueRefusal → Type 0) (outcome : Result T ValueRefusal) : Type 0 where
  pub this : IfOk outcome IsThis
  pub earliest : IsEarliestOf IsRefusal (result_err outcome)

-- the comparison means the leaf, which is sound
pub record IsLeafOf (text : List ℕ) (c : Comparison) (leaf : Leaf) : Type 0 where
  pub means : Means text c (plain_leaf leaf)
  pub sound : IsSoundLeaf (plain_leaf leaf)

-- the attributes of a comparison
pub record IsAnalysis (text : List ℕ) (c : Comparison) (analysis : Analysis) : Type 0 where
  pub at : analysis.at ≡ (first_token c).from
  pub roots : (root : List ℕ) → HasName analysis.roots root ↔ HasRoot text c root
  pub leaf : IsOutcome (IsLeafOf text c) (RefusalOfComparison text c) analysis.leaf

-- the one of two refusals that precedes the other
abbrev pub IsFirstOfTwo : ValueRefusal → ValueRefusal → ValueRefusal → Type 0
IsFirstOfTwo a b first = ((first ≡ a) × Precedes a b) ⊎ ((first ≡ b) × Precedes b a)

-- both values, joined, or the first refusal
abbrev pub IsJoined : {A B C : Type 0} → (A → B → C) → Result A ValueRefusal → Result B ValueRefusal → Result C ValueRefusal → Type 0
IsJoined join (Ok a) (Ok b) (Ok c) = c ≡ join a b
IsJoined join (Ok a) (Err q) (Err r) = r ≡ q
IsJoined join (Err p) (Ok b) (Err r) = r ≡ p
IsJoined join (Err p) (Err q) (Err r) = IsFirstOfTwo p q r
IsJoined join _ _ _ = ⊥

-- the sound operands of a chain of AND, which have a root kind in common
pub record AreRootedOperands (text : List ℕ) (c : Comparison) (parts : List Leaf) : Type 0 where
  pub means : AllParts text c (leaves_of_list parts)
  pub sound : AreSoundLeaves (leaves_of_list parts)
  pub rooted : (root : List ℕ) × HasRoot text c root

-- the sound operands of a chain of OR
pub record AreAny (text : List ℕ) (c : Comparison) (parts : List Leaf) : Type 0 where
  pub means : AnyParts text c (leaves_of_list parts)
  pub sound : AreSoundLeaves (leaves_of_list parts)

pub record IsChain (AreParts : List ℕ → Comparison → List Leaf → Type 0) (text : List ℕ) (c : Comparison) (chain : Chain) : Type 0 where
  pub at : chain.at ≡ (first_token c).from
  pub roots : (root : List ℕ) → HasName chain.roots root ↔ HasRoot text c root
  pub parts : IsOutcome (AreParts text c) (RefusalOfComparison text c) chain.parts
