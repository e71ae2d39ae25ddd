use Rattle.std.proofs.Common.{List, map, drop, ◌+◌, refl}
use Rattle.stix_json.specs.DataOf.{data_of}
use Rattle.stix_objects.specs.declared.row.CommonRow.{CommonRow}
use Rattle.stix_objects.specs.inner.Adding.{AddsBreaks, applicable_rows}
use Rattle.stix_objects.specs.inner.Views.{row_view, common_view}
use Rattle.stix_objects.proofs.ListLemmas.{close_at, close_end}
use Rattle.stix_objects.proofs.AddingLemmas.{adds_applicable}
use Rattle.stix_objects.proofs.report.add_common.Goals as goal

pub loop-common-preserved : goal.loop-common-preserved
loop-common-preserved c =
    let d = data_of c.args.object.now in
    let own = map row_view c.args.own.now in
    λ after rest. c.loop-common.invariant after
    (close_at (λ (commons : List CommonRow). AddsBreaks (applicable_rows c.args.group own (map common_view commons)) d c.loop-common.found after)
    c.args.commons.now c.loop-common.common-index _ c.loop-common-test.true
    (adds_applicable _ (applicable_rows c.args.group own (map common_view (drop (c.loop-common.common-index + 1) c.args.commons.now))) d
    c.loop-common.found c.add_applicable.new.found after c.in_ok-add_applicable.ensures rest))

pub returns : goal.returns
returns c =
    let d = data_of c.args.object.now in
    let own = map row_view c.args.own.now in
    c.loop-common.invariant c.loop-common.found
    (close_end (λ (commons : List CommonRow). AddsBreaks (applicable_rows c.args.group own (map common_view commons)) d c.loop-common.found c.loop-common.found)
    c.args.commons.now c.loop-common.common-index c.loop-common-test.false refl)
