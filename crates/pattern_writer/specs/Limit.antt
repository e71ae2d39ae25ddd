-- The text of qualifiers (STIX 2.1, section 9.4).
use Rattle.std.specs.Prelude.{◌≡◌, ℕ, List, ◌++◌, codes, decimal}
use Rattle.pattern_types.specs.declared.limit.Limit.{Limit}
use Rattle.pattern_types.specs.declared.limit.Limit.TheVariants.{Within, Repeats, Between}
use Rattle.pattern_writer.specs.Parts.{IsAfterText, AreSides}
use Rattle.pattern_writer.specs.Constant.{IsTimeText}

abbrev pub IsLimitText : Limit → List ℕ → Type 0
IsLimitText (Within seconds) text = text ≡ codes "WITHIN " ++ decimal seconds ++ codes " SECONDS"
IsLimitText (Repeats times) text = text ≡ codes "REPEATS " ++ decimal times ++ codes " TIMES"
IsLimitText (Between begins ends) text = AreSides (IsAfterText (codes "START ") (IsTimeText begins)) (codes " STOP ") (IsTimeText ends) text
