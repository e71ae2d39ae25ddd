-- The names of the rules, as they are printed.
use Rattle.std.specs.Prelude.{ℕ, List, codes}
use Rattle.stix_versions.specs.declared.version_break.VersionRule.{VersionRule}
use Rattle.stix_versions.specs.declared.version_break.VersionRule.TheVariants.{CreatedChanged, AfterRevoked, SameVersionTwice}
use Rattle.stix_versions.specs.declared.marking_break.MarkingRule.{MarkingRule}
use Rattle.stix_versions.specs.declared.marking_break.MarkingRule.TheVariants.{MarkingOrLang, BadMarkingRef, BadSelector, SelectorMissing}

abbrev pub version_rule_name : VersionRule → List ℕ
version_rule_name CreatedChanged = codes "CreatedChanged"
version_rule_name AfterRevoked = codes "AfterRevoked"
version_rule_name SameVersionTwice = codes "SameVersionTwice"

abbrev pub marking_rule_name : MarkingRule → List ℕ
marking_rule_name MarkingOrLang = codes "MarkingOrLang"
marking_rule_name BadMarkingRef = codes "BadMarkingRef"
marking_rule_name BadSelector = codes "BadSelector"
marking_rule_name SelectorMissing = codes "SelectorMissing"
