use Rattle.std.proofs.Common.{List, drop, map}
use Rattle.stix_json.specs.DataOf.{data_of}
use Rattle.stix_objects.specs.declared.rule_break.Break.{Break}
use Rattle.stix_objects.specs.inner.Adding.{AddsBreaks, applicable_rows}
use Rattle.stix_objects.specs.inner.Views.{row_view, common_view}
use Rattle.stix_objects.proofs.report.add_common.Given as goal

abbrev pub invariant-loop-common : goal.invariant-loop-common
invariant-loop-common l =
    (after : List Break) → AddsBreaks (applicable_rows l.group (map row_view l.own) (map common_view (drop l.common-index l.commons))) (data_of l.object) l.found after
    → AddsBreaks (applicable_rows l.group (map row_view l.own) (map common_view l.commons)) (data_of l.object) l.initial.found after
