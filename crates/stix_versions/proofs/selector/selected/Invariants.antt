use Rattle.std.proofs.Common.{List, length, ◌≡◌}
use denote.Text.{Utf8}
use denote.Shadow.{shadow}
use Rattle.stix_json.specs.DataOf.{data_of}
use Rattle.stix_json.specs.Ordered.{IsOrdered}
use Rattle.stix_versions.specs.Selector.{SelectorPart, value_at}
use Rattle.stix_versions.specs.inner.Paths.{IsSelectorPath}
use Rattle.stix_versions.proofs.selector.selected.Given as goal

abbrev pub invariant-loop-part : goal.invariant-loop-part
invariant-loop-part l = shadow (Utf8 l.rest) × IsOrdered (data_of l.here) × ((parts : List SelectorPart) → IsSelectorPath l.fn.text parts
    → (rest : List SelectorPart) × IsSelectorPath l.rest rest × (value_at parts (data_of l.fn.object) ≡ value_at rest (data_of l.here)))

abbrev pub decreases-loop-part : goal.decreases-loop-part
decreases-loop-part l = length l.rest
