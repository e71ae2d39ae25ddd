use Rattle.std.proofs.Common.{List, length, ◌↔◌}
use denote.Text.{Utf8}
use denote.Shadow.{shadow}
use Rattle.stix_versions.specs.Selector.{SelectorPart}
use Rattle.stix_versions.specs.inner.Paths.{IsSelectorPath}
use Rattle.stix_versions.proofs.selector.is_path.Given as goal

abbrev pub invariant-loop-part : goal.invariant-loop-part
invariant-loop-part l = shadow (Utf8 l.rest) × (((parts : List SelectorPart) × IsSelectorPath l.fn.text parts) ↔ ((parts : List SelectorPart) × IsSelectorPath l.rest parts))

abbrev pub decreases-loop-part : goal.decreases-loop-part
decreases-loop-part l = length l.rest
