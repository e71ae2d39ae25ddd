-- Patterns of which the canonical text reads back, but for the limits of depth and of values: those with
-- numbers in their ranges, and with the shapes that the grammar has (STIX 2.1, section 9).
use Rattle.std.specs.Prelude.{◌≢◌, ◌⊎◌, ◌≤◌, true, false, List, [], ◌∷◌, All, codes}
use Rattle.pattern_types.specs.BlockText.{IsBlockText}
use Rattle.hex.specs.Hex.{IsBytes}
use Rattle.base64.specs.Engines.{standard}
use Rattle.base64.specs.GeneralPurpose.{encode_of}
use Rattle.pattern_lexer.specs.declared.token.TokenKind.{TokenKind}
use Rattle.pattern_lexer.specs.declared.token.TokenKind.TheVariants as kind
use Rattle.pattern_lexer.specs.Word.{IsWord, IsHyphenWord}
use Rattle.pattern_lexer.specs.Values.{FitsIn64Bits}
use Rattle.pattern_types.specs.declared.path.Step.{Step}
use Rattle.pattern_types.specs.declared.path.Step.TheVariants as step
use Rattle.pattern_types.specs.declared.path.Path.{Path}
use Rattle.pattern_types.specs.declared.constant.Constant.{Constant}
use Rattle.pattern_types.specs.declared.constant.Constant.TheVariants.{Integer, String, Boolean, Hex, Binary, Timestamp}
use Rattle.pattern_types.specs.declared.check.Check.{Check}
use Rattle.pattern_types.specs.declared.check.Check.TheVariants as check
use Rattle.pattern_types.specs.declared.leaf.Test.{Test}
use Rattle.pattern_types.specs.PlainLeaf.{PlainLeaf, one, every, some, PlainLeaves, none, more}
use Rattle.pattern_types.specs.PlainPattern.{PlainPattern, a_leaf, a_both, an_either, a_then, a_limited}
use Rattle.pattern_types.specs.declared.limit.Limit.{Limit}
use Rattle.pattern_types.specs.declared.limit.Limit.TheVariants.{Within, Repeats, Between}

abbrev pub FitStep : Step → Type 0
FitStep (step.Place place) = place ≤ 4_294_967_295
FitStep _ = Unit {0}

abbrev pub FitFurther : List Step → Type 0
FitFurther [] = Unit {0}
FitFurther (s ∷ ss) = FitStep s × FitFurther ss

-- the first step is a name
abbrev pub FitSteps : List Step → Type 0
FitSteps (step.Name name ∷ ss) = FitFurther ss
FitSteps _ = ⊥

pub record FitPath (path : Path) : Type 0 where
  pub root : IsWord path.kind ⊎ IsHyphenWord path.kind
  pub free : path.kind ≢ codes "MATCHES"
  pub steps : FitSteps path.steps

abbrev pub FitConstant : Constant → Type 0
FitConstant (Integer whole) = FitsIn64Bits whole
FitConstant (Hex bytes) = IsBytes bytes
FitConstant (Binary bytes) = IsBytes bytes × All (λ c. c ≢ 39) (encode_of standard bytes)
FitConstant _ = Unit {0}

-- the kind of a constant's token
abbrev pub kind_of : Constant → TokenKind
kind_of (Integer whole) = kind.Number
kind_of (String words) = kind.String
kind_of (Boolean true) = kind.TrueWord
kind_of (Boolean false) = kind.FalseWord
kind_of (Hex bytes) = kind.Hex
kind_of (Binary bytes) = kind.Binary
kind_of (Timestamp instant) = kind.Timestamp

-- truths have no order
abbrev pub FitOrdered : Constant → Type 0
FitOrdered (Boolean truth) = ⊥
FitOrdered c = FitConstant c

abbrev pub FitConstants : List Constant → Type 0
FitConstants [] = Unit {0}
FitConstants (c ∷ cs) = FitConstant c × FitConstants cs

abbrev pub FitList : List Constant → Type 0
FitList [] = ⊥
FitList (c ∷ cs) = FitConstant c × FitConstants cs

abbrev pub FitCheck : Check → Type 0
FitCheck (check.Equal value) = FitConstant value
FitCheck (check.Differ value) = FitConstant value
FitCheck (check.Less value) = FitOrdered value
FitCheck (check.LessEqual value) = FitOrdered value
FitCheck (check.Greater value) = FitOrdered value
FitCheck (check.GreaterEqual value) = FitOrdered value
FitCheck (check.Among values) = FitList values
FitCheck (check.Subset address) = IsBlockText address.text address.block
FitCheck (check.Superset address) = IsBlockText address.text address.block
FitCheck _ = Unit {0}

pub record FitTest (test : Test) : Type 0 where
  pub path : FitPath test.path
  pub asks : FitCheck test.check

-- two or more
abbrev pub AreSome : PlainLeaves → Type 0
AreSome none = ⊥
AreSome (more f none) = ⊥
AreSome (more f (more g gs)) = Unit {0}

abbrev mutual
  pub FitFormula : PlainLeaf → Type 0
  FitFormula (one test) = FitTest test
  FitFormula (every parts) = AreSome parts × FitFormulas parts
  FitFormula (some parts) = AreSome parts × FitFormulas parts

  pub FitFormulas : PlainLeaves → Type 0
  FitFormulas none = Unit {0}
  FitFormulas (more part parts) = FitFormula part × FitFormulas parts

abbrev pub FitLimit : Limit → Type 0
FitLimit (Within seconds) = (1 ≤ seconds) × (seconds ≤ 4_294_967_295)
FitLimit (Repeats times) = (1 ≤ times) × (times ≤ 4_294_967_295)
FitLimit (Between begins ends) = Unit {0}

abbrev pub FitMeant : PlainPattern → Type 0
FitMeant (a_leaf plain_leaf) = FitFormula plain_leaf
FitMeant (a_both left right) = FitMeant left × FitMeant right
FitMeant (an_either left right) = FitMeant left × FitMeant right
FitMeant (a_then left right) = FitMeant left × FitMeant right
FitMeant (a_limited part limit) = FitMeant part × FitLimit limit
