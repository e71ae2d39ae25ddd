-- The meaning of the parts of a syntax tree: paths and tests, by the values of their tokens.
use Rattle.std.specs.Prelude.{◌≡◌, ◌≢◌, ◌⊎◌, ℕ, true, false, List}
use Rattle.std.specs.List.{AllZip}
use Rattle.pattern_types.specs.BlockText.{IsBlockText}
use Rattle.pattern_lexer.specs.{declared.token.Token.Token, Spans.At, Spans.IsItself, Spans.IsIndexToken}
use Rattle.pattern_lexer.specs.declared.token.TokenKind.TheVariants as kind
use Rattle.pattern_lexer.specs.Values.{IsIntegerText, IsStringText, IsHexText, IsBinaryText, IsTimestampText}
use Rattle.pattern_grammar.specs.declared.path.{StepTree.StepTree, StepTree.TheVariants.Name, StepTree.TheVariants.Index, PathTree.PathTree}
use Rattle.pattern_grammar.specs.declared.comparison.{CheckTree.CheckTree, TestTree.TestTree}
use Rattle.pattern_grammar.specs.declared.comparison.CheckTree.TheVariants as check_tree
use Rattle.pattern_types.specs.declared.{path.Step.Step, path.Path.Path, constant.Constant.Constant, check.Check.Check, leaf.Test.Test}
use Rattle.pattern_types.specs.declared.path.Step.TheVariants as step
use Rattle.pattern_types.specs.declared.constant.Constant.TheVariants as constant
use Rattle.pattern_types.specs.declared.check.Check.TheVariants as check
use Rattle.pattern_types.specs.declared.address_block.AddressBlock.{AddressBlock}

-- a name is a word, or the string in quotes
abbrev pub IsNameOf : List ℕ → Token → List ℕ → Type 0
IsNameOf text token name = ((token.kind ≡ kind.String) × At IsStringText text token name) ⊎ ((token.kind ≢ kind.String) × At IsItself text token name)

abbrev pub IsStepOf : List ℕ → StepTree → Step → Type 0
IsStepOf text (Name token) (step.Name name) = IsNameOf text token name
IsStepOf text (Index token) (step.Place place) = (token.kind ≡ kind.Number) × IsIndexToken text token place
IsStepOf text (Index token) step.Each = token.kind ≡ kind.Star
IsStepOf text _ _ = ⊥

pub record IsPathOf (text : List ℕ) (tree : PathTree) (path : Path) : Type 0 where
  pub root : At IsItself text tree.root path.kind
  pub steps : AllZip (IsStepOf text) tree.steps path.steps

abbrev pub IsConstantOf : List ℕ → Token → Constant → Type 0
IsConstantOf text token (constant.Integer whole) = (token.kind ≡ kind.Number) × At IsIntegerText text token whole
IsConstantOf text token (constant.String words) = (token.kind ≡ kind.String) × At IsStringText text token words
IsConstantOf text token (constant.Boolean truth) = ((token.kind ≡ kind.TrueWord) × (truth ≡ true)) ⊎ ((token.kind ≡ kind.FalseWord) × (truth ≡ false))
IsConstantOf text token (constant.Hex bytes) = (token.kind ≡ kind.Hex) × At IsHexText text token bytes
IsConstantOf text token (constant.Binary bytes) = (token.kind ≡ kind.Binary) × At IsBinaryText text token bytes
IsConstantOf text token (constant.Timestamp instant) = (token.kind ≡ kind.Timestamp) × At IsTimestampText text token instant

-- the token's string names the block
pub record IsAddressOf (text : List ℕ) (token : Token) (address : AddressBlock) : Type 0 where
  pub string : At IsStringText text token address.text
  pub named : IsBlockText address.text address.block

-- the test of a value
abbrev pub IsCheckOf : List ℕ → CheckTree → Check → Type 0
IsCheckOf text (check_tree.Compare operator token) (check.Equal value) = (operator.kind ≡ kind.Equal) × IsConstantOf text token value
IsCheckOf text (check_tree.Compare operator token) (check.Differ value) = (operator.kind ≡ kind.Differ) × IsConstantOf text token value
IsCheckOf text (check_tree.Compare operator token) (check.Less value) = (operator.kind ≡ kind.Less) × IsConstantOf text token value
IsCheckOf text (check_tree.Compare operator token) (check.LessEqual value) = (operator.kind ≡ kind.LessEqual) × IsConstantOf text token value
IsCheckOf text (check_tree.Compare operator token) (check.Greater value) = (operator.kind ≡ kind.Greater) × IsConstantOf text token value
IsCheckOf text (check_tree.Compare operator token) (check.GreaterEqual value) = (operator.kind ≡ kind.GreaterEqual) × IsConstantOf text token value
IsCheckOf text (check_tree.Among tokens) (check.Among values) = AllZip (IsConstantOf text) tokens values
IsCheckOf text (check_tree.Textual operator token) (check.Like words) = (operator.kind ≡ kind.Like) × At IsStringText text token words
IsCheckOf text (check_tree.Textual operator token) (check.Subset address) = (operator.kind ≡ kind.Subset) × IsAddressOf text token address
IsCheckOf text (check_tree.Textual operator token) (check.Superset address) = (operator.kind ≡ kind.Superset) × IsAddressOf text token address
IsCheckOf text check_tree.Exists check.Exists = Unit {0}
IsCheckOf text _ _ = ⊥

-- one comparison
pub record IsTestOf (text : List ℕ) (tree : TestTree) (test : Test) : Type 0 where
  pub path : IsPathOf text tree.path test.path
  pub negated : test.negated ≡ tree.negated
  pub asks : IsCheckOf text tree.check test.check
