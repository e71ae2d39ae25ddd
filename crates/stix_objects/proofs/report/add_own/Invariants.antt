use Rattle.std.proofs.Common.{List, drop, map}
use Rattle.stix_json.specs.DataOf.{data_of}
use Rattle.stix_objects.specs.declared.rule_break.Break.{Break}
use Rattle.stix_objects.specs.inner.Adding.{AddsBreaks}
use Rattle.stix_objects.specs.inner.Views.{row_view}
use Rattle.stix_objects.proofs.report.add_own.Given as goal

abbrev pub invariant-loop-row : goal.invariant-loop-row
invariant-loop-row l =
    (after : List Break) → AddsBreaks (map row_view (drop l.row-index l.rows)) (data_of l.object) l.found after
    → AddsBreaks (map row_view l.rows) (data_of l.object) l.initial.found after
