-- Definite brackets hold wherever one of the values that they list is found: comparisons by
-- equality, alone or joined by OR (STIX 2.1, section 9.6).
use Rattle.std.specs.Prelude.{◌≡◌, ⊤, false, List, All}
use Rattle.pattern_types.specs.declared.constant.Constant.{Constant}
use Rattle.pattern_types.specs.declared.constant.Constant.TheVariants.{Integer, String}
use Rattle.pattern_types.specs.declared.check.Check.{Check}
use Rattle.pattern_types.specs.declared.check.Check.TheVariants.{Equal, Among}
use Rattle.pattern_types.specs.declared.path.Step.{Step}
use Rattle.pattern_types.specs.declared.path.Step.TheVariants.{Name, Place, Each}
use Rattle.pattern_types.specs.declared.leaf.Test.{Test}
use Rattle.pattern_types.specs.PlainLeaf.{PlainLeaf, one, every, some, PlainLeaves, none, more}

-- one value alone equals the constant: an integer or a text
abbrev pub IsDefiniteConstant : Constant → Type 0
IsDefiniteConstant (Integer whole) = ⊤
IsDefiniteConstant (String text) = ⊤
IsDefiniteConstant _ = ⊥

-- the check is `=` or `IN`, with such constants
abbrev pub IsDefiniteCheck : Check → Type 0
IsDefiniteCheck (Equal constant) = IsDefiniteConstant constant
IsDefiniteCheck (Among constants) = All IsDefiniteConstant constants
IsDefiniteCheck _ = ⊥

-- the step isn't `[*]`
abbrev pub IsPlain : Step → Type 0
IsPlain (Name name) = ⊤
IsPlain (Place n) = ⊤
IsPlain Each = ⊥

-- none of the steps is, so they lead to one value at most
abbrev pub ArePlain : List Step → Type 0
ArePlain steps = All IsPlain steps

-- such a check of the one value of a path, without NOT
pub record IsDefiniteTest (test : Test) : Type 0 where
  pub plain : ArePlain test.path.steps
  pub asked : test.negated ≡ false
  pub check : IsDefiniteCheck test.check

-- a bracket of one such test, or of several joined by OR
abbrev mutual
  pub IsDefinite : PlainLeaf → Type 0
  IsDefinite (one test) = IsDefiniteTest test
  IsDefinite (every parts) = ⊥
  IsDefinite (some parts) = AreDefinite parts

  pub AreDefinite : PlainLeaves → Type 0
  AreDefinite none = ⊤
  AreDefinite (more part parts) = IsDefinite part × AreDefinite parts
