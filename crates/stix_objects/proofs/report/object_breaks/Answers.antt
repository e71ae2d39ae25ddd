use Rattle.std.proofs.Common.{List, map, subst, ap, ◌∙◌}
use Rattle.stix_json.specs.DataOf.{data_of}
use Rattle.stix_objects.specs.declared.rule_break.Break.{Break}
use Rattle.stix_objects.specs.Types.{group_in, own_rows}
use Rattle.stix_objects.specs.Breaks.{type_of}
use Rattle.stix_objects.specs.inner.Adding.{AddsBreaks, applicable_rows}
use Rattle.stix_objects.specs.inner.Views.{row_view, common_view}
use Rattle.stix_objects.proofs.AddingLemmas.{breaks_by}
use Rattle.stix_objects.proofs.report.object_breaks.Goals as goal

pub returns : goal.returns
returns c =
    let d = data_of c.args.object.now in
    breaks_by c.group_in.result (map row_view c.rows_in-own.result.now) (map common_view c.common_rows.result.now) (type_of d) d c.add_common.new.found c.add_own.new.found
    (c.group_in.ensures ∙ ap group_in c.object_type-object_type.ensures) (c.rows_in-own.ensures ∙ ap own_rows c.object_type-object_type.ensures) c.common_rows.ensures
    (subst (λ (none : List Break). AddsBreaks (applicable_rows c.group_in.result (map row_view c.rows_in-own.result.now) (map common_view c.common_rows.result.now)) d none c.add_common.new.found)
    c.new-found.ensures (rw (← c.new-object.ensures) c.in_ok-add_common.ensures))
    (rw (← c.new-object.ensures) c.in_ok-add_own.ensures)
