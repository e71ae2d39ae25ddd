-- The refused values of a syntax tree.
use Rattle.std.specs.Prelude.{◌≡◌, ℕ, ◌<◌, ◌⊎◌, List, [], ◌∷◌, length}
use Rattle.pattern_lexer.specs.{declared.token.Token.Token, declared.token.TokenKind.TokenKind, Spans.At, Spans.IsItself}
use Rattle.pattern_lexer.specs.declared.token.TokenKind.TheVariants as kind
use Rattle.pattern_grammar.specs.declared.path.{StepTree.StepTree, StepTree.TheVariants.Name, StepTree.TheVariants.Index, PathTree.PathTree}
use Rattle.pattern_grammar.specs.declared.{comparison.CheckTree.CheckTree, comparison.TestTree.TestTree, qualifier.Qualifier.Qualifier}
use Rattle.pattern_grammar.specs.declared.comparison.CheckTree.TheVariants as check_tree
use Rattle.pattern_grammar.specs.declared.qualifier.Qualifier.TheVariants.{Within, Repeats, Between}
use Rattle.pattern_grammar.specs.Tree.{Comparison, test, group, all, any, Tree, leaf, both, either, followed, qualified}
use Rattle.pattern_types.specs.{declared.limit.Limit.Limit, declared.path.TheConstants.MAX_STEPS, Soundness.IsSoundLimit}
use Rattle.pattern_reader.specs.{declared.value_refusal.ValueRefusal.ValueRefusal, Meaning.IsStepOf, Meaning.IsCheckOf, PatternMeaning.IsLimitOf}
use Rattle.pattern_reader.specs.declared.value_refusal.ValueRefusal.TheVariants.{BadCount, LongPath, BadAddress, EmptySpan, NoCommonRoot, NoValue}

-- nothing meets the condition, so this is refused
pub record Lacks {T : Type 0} (IsOne : T → Type 0) (refused refusal : ValueRefusal) : Type 0 where
  pub none : (one : T) → ¬ IsOne one
  pub here : refusal ≡ refused

-- BadCount: the list index is out of range, at its token. NoValue: the text doesn't have the name,
-- which never occurs for tokens of this text
abbrev pub step_refusal : StepTree → ValueRefusal
step_refusal (Name token) = NoValue token.from
step_refusal (Index token) = BadCount token.from

abbrev pub RefusalOfSteps : List ℕ → List StepTree → ValueRefusal → Type 0
RefusalOfSteps text [] refusal = ⊥
RefusalOfSteps text (step ∷ steps) refusal = Lacks (IsStepOf text step) (step_refusal step) refusal ⊎ RefusalOfSteps text steps refusal

-- LongPath: more than MAX_STEPS steps, at its first token
pub record IsLongPath (path : PathTree) (refusal : ValueRefusal) : Type 0 where
  pub long : MAX_STEPS < length path.steps
  pub here : refusal ≡ LongPath path.root.from

abbrev pub RefusalOfPath : List ℕ → PathTree → ValueRefusal → Type 0
RefusalOfPath text path refusal = IsLongPath path refusal ⊎ (Lacks (At IsItself text path.root) (NoValue path.root.from) refusal ⊎ RefusalOfSteps text path.steps refusal)

-- BadAddress: the operand of ISSUBSET or ISSUPERSET isn't an address block, at its token. NoValue:
-- the text doesn't have the constant, which never occurs for tokens of this text
abbrev pub textual_refusal : TokenKind → ℕ → ValueRefusal
textual_refusal kind.Subset at = BadAddress at
textual_refusal kind.Superset at = BadAddress at
textual_refusal _ at = NoValue at

abbrev pub check_refusal : CheckTree → ValueRefusal
check_refusal (check_tree.Compare operator constant) = NoValue constant.from
check_refusal (check_tree.Textual operator words) = textual_refusal operator.kind words.from
check_refusal (check_tree.Among (constant ∷ constants)) = NoValue constant.from
check_refusal _ = NoValue 0

abbrev pub RefusalOfTest : List ℕ → TestTree → ValueRefusal → Type 0
RefusalOfTest text one refusal = RefusalOfPath text one.path refusal ⊎ Lacks (IsCheckOf text one.check) (check_refusal one.check) refusal

-- the root kinds: the object types that can meet a comparison. For a test its path's, for AND the
-- intersection, for OR the union
abbrev pub HasRoot : List ℕ → Comparison → List ℕ → Type 0
HasRoot text (test t) root = At IsItself text t.path.root root
HasRoot text (group first c) root = HasRoot text c root
HasRoot text (all c d) root = HasRoot text c root × HasRoot text d root
HasRoot text (any c d) root = HasRoot text c root ⊎ HasRoot text d root

-- the first token
abbrev pub first_token : Comparison → Token
first_token (test t) = t.first
first_token (group first c) = first
first_token (all c d) = first_token c
first_token (any c d) = first_token c

-- NoCommonRoot: the operands of AND have no root kind in common, at the first token
pub record IsRootless (text : List ℕ) (c d : Comparison) (refusal : ValueRefusal) : Type 0 where
  pub rootless : (root : List ℕ) → ¬ (HasRoot text c root × HasRoot text d root)
  pub here : refusal ≡ NoCommonRoot (first_token c).from

abbrev pub RefusalOfComparison : List ℕ → Comparison → ValueRefusal → Type 0
RefusalOfComparison text (test t) refusal = RefusalOfTest text t refusal
RefusalOfComparison text (group first c) refusal = RefusalOfComparison text c refusal
RefusalOfComparison text (all c d) refusal = IsRootless text c d refusal ⊎ (RefusalOfComparison text c refusal ⊎ RefusalOfComparison text d refusal)
RefusalOfComparison text (any c d) refusal = RefusalOfComparison text c refusal ⊎ RefusalOfComparison text d refusal

-- a qualifier has this limit, which is sound
pub record IsSoundLimitOf (text : List ℕ) (tree : Qualifier) (limit : Limit) : Type 0 where
  pub means : IsLimitOf text tree limit
  pub sound : IsSoundLimit limit

-- BadCount: the number of WITHIN or REPEATS is out of range, at its token. EmptySpan: the time
-- after START isn't earlier than the one after STOP, at START
abbrev pub limit_refusal : Qualifier → ValueRefusal
limit_refusal (Within number) = BadCount number.from
limit_refusal (Repeats number) = BadCount number.from
limit_refusal (Between start from to) = EmptySpan start.from

abbrev pub RefusalOf : List ℕ → Tree → ValueRefusal → Type 0
RefusalOf text (leaf c) refusal = RefusalOfComparison text c refusal
RefusalOf text (both p q) refusal = RefusalOf text p refusal ⊎ RefusalOf text q refusal
RefusalOf text (either p q) refusal = RefusalOf text p refusal ⊎ RefusalOf text q refusal
RefusalOf text (followed p q) refusal = RefusalOf text p refusal ⊎ RefusalOf text q refusal
RefusalOf text (qualified p q) refusal = RefusalOf text p refusal ⊎ Lacks (IsSoundLimitOf text q) (limit_refusal q) refusal
