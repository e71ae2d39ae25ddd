-- The names of the rules, as they are printed.
use Rattle.std.specs.Prelude.{ℕ, List, codes}
use Rattle.stix_objects.specs.declared.rule.Rule.{Rule}
use Rattle.stix_objects.specs.declared.rule.Rule.TheVariants.{NotObject, Missing, WrongKind, BadId, BadTime, NotMillis, OutOfRange, EmptyList, BadOrder, BadReference, NeedsOneOf, Excludes, BadWord, BadSpec}

-- the name of a rule
abbrev pub rule_name : Rule → List ℕ
rule_name NotObject = codes "NotObject"
rule_name Missing = codes "Missing"
rule_name WrongKind = codes "WrongKind"
rule_name BadId = codes "BadId"
rule_name BadTime = codes "BadTime"
rule_name NotMillis = codes "NotMillis"
rule_name OutOfRange = codes "OutOfRange"
rule_name EmptyList = codes "EmptyList"
rule_name BadOrder = codes "BadOrder"
rule_name BadReference = codes "BadReference"
rule_name NeedsOneOf = codes "NeedsOneOf"
rule_name Excludes = codes "Excludes"
rule_name BadWord = codes "BadWord"
rule_name BadSpec = codes "BadSpec"
