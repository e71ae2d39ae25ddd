-- The text of one comparison (STIX 2.1, section 9.6): a path, NOT if it is negated, an operator and
-- its operand.
use Rattle.std.specs.Prelude.{ℕ, Bool, if◌then◌else◌, List, [], ◌++◌, codes}
use Rattle.pattern_lexer.specs.Values.{IsStringText}
use Rattle.pattern_types.specs.declared.path.Path.{Path}
use Rattle.pattern_types.specs.declared.constant.Constant.{Constant}
use Rattle.pattern_types.specs.declared.check.Check.{Check}
use Rattle.pattern_types.specs.declared.check.Check.TheVariants.{Equal, Differ, Less, LessEqual, Greater, GreaterEqual, Among, Like, Subset, Superset, Exists}
use Rattle.pattern_types.specs.declared.leaf.Test.{Test}
use Rattle.pattern_writer.specs.Parts.{IsAfterText, IsBetween, AreSides, AreJoined}
use Rattle.pattern_writer.specs.Path.{IsPathText}
use Rattle.pattern_writer.specs.Constant.{IsConstantText}

-- NOT and a space, if the test is negated
abbrev pub not_text : Bool → List ℕ
not_text negated = if negated then codes "NOT " else []

-- NOT and an operator, between spaces
abbrev pub operator_text : Bool → List ℕ → List ℕ
operator_text negated operator = codes " " ++ not_text negated ++ operator ++ codes " "

-- a path, an operator, and the text after it
abbrev pub IsComparisonText : Path → Bool → List ℕ → (List ℕ → Type 0) → List ℕ → Type 0
IsComparisonText path negated operator IsText = AreSides (IsPathText path) (operator_text negated operator) IsText

-- the constants of a list
abbrev pub IsSetLiteralText : List Constant → List ℕ → Type 0
IsSetLiteralText values = IsBetween (codes "(") (codes ")") (AreJoined (codes ", ") IsConstantText values)

-- a string literal
abbrev pub AreWords : List ℕ → List ℕ → Type 0
AreWords words text = IsStringText text words

abbrev pub IsCheckedText : Path → Bool → Check → List ℕ → Type 0
IsCheckedText path negated (Equal value) = IsComparisonText path negated (codes "=") (IsConstantText value)
IsCheckedText path negated (Differ value) = IsComparisonText path negated (codes "!=") (IsConstantText value)
IsCheckedText path negated (Less value) = IsComparisonText path negated (codes "<") (IsConstantText value)
IsCheckedText path negated (LessEqual value) = IsComparisonText path negated (codes "<=") (IsConstantText value)
IsCheckedText path negated (Greater value) = IsComparisonText path negated (codes ">") (IsConstantText value)
IsCheckedText path negated (GreaterEqual value) = IsComparisonText path negated (codes ">=") (IsConstantText value)
IsCheckedText path negated (Among values) = IsComparisonText path negated (codes "IN") (IsSetLiteralText values)
IsCheckedText path negated (Like words) = IsComparisonText path negated (codes "LIKE") (AreWords words)
IsCheckedText path negated (Subset address) = IsComparisonText path negated (codes "ISSUBSET") (AreWords address.text)
IsCheckedText path negated (Superset address) = IsComparisonText path negated (codes "ISSUPERSET") (AreWords address.text)
IsCheckedText path negated Exists = IsAfterText (not_text negated ++ codes "EXISTS ") (IsPathText path)

abbrev pub IsTestText : Test → List ℕ → Type 0
IsTestText test = IsCheckedText test.path test.negated test.check
