-- The canonical text of a pattern (STIX 2.1, sections 9.2 to 9.7): one space between words, and the
-- parentheses that the pattern needs.
use Rattle.std.specs.Prelude.{ℕ, List, codes}
use Rattle.pattern_types.specs.PlainPattern.{PlainPattern, a_leaf, a_both, an_either, a_then, a_limited}
use Rattle.pattern_writer.specs.Parts.{IsBetween, AreSides, IsParenthesizedBelow}
use Rattle.pattern_writer.specs.Leaf.{IsFormulaText}
use Rattle.pattern_writer.specs.Limit.{IsLimitText}

-- the precedence: a leaf or a qualified pattern, AND, OR, FOLLOWEDBY
abbrev pub precedence_level : PlainPattern → ℕ
precedence_level (a_both left right) = 2
precedence_level (an_either left right) = 1
precedence_level (a_then left right) = 0
precedence_level _ = 3

-- operators associate to the left: the left side may have their precedence, the right side must
-- bind tighter; a qualifier follows an operand of the highest precedence
abbrev pub IsCanonical : PlainPattern → List ℕ → Type 0
IsCanonical (a_leaf plain_leaf) text = IsBetween (codes "[") (codes "]") (IsFormulaText plain_leaf) text
IsCanonical (a_both left right) text = AreSides (IsParenthesizedBelow 2 (precedence_level left) (IsCanonical left)) (codes " AND ") (IsParenthesizedBelow 3 (precedence_level right) (IsCanonical right)) text
IsCanonical (an_either left right) text = AreSides (IsParenthesizedBelow 1 (precedence_level left) (IsCanonical left)) (codes " OR ") (IsParenthesizedBelow 2 (precedence_level right) (IsCanonical right)) text
IsCanonical (a_then left right) text = AreSides (IsParenthesizedBelow 0 (precedence_level left) (IsCanonical left)) (codes " FOLLOWEDBY ") (IsParenthesizedBelow 1 (precedence_level right) (IsCanonical right)) text
IsCanonical (a_limited part limit) text = AreSides (IsParenthesizedBelow 3 (precedence_level part) (IsCanonical part)) (codes " ") (IsLimitText limit) text
