use Rattle.std.proofs.Common.{ℕ, List, Option, Some, subst, refl, ap, codes}
use Rattle.serde_json.specs.Find.{get as member_of}
use Rattle.stix_json.specs.DataOf.{data_of}
use Rattle.stix_objects.specs.BreakAt.{here}
use Rattle.stix_objects.specs.Singles.{ChecksOwnId}
use Rattle.stix_json.specs.Properties.{property_text}
use Rattle.stix_objects.specs.Rows.{ChecksOwn}
use Rattle.stix_objects.specs.inner.Views.{row_break_view}
use Rattle.stix_objects.proofs.CheckingLemmas.{value_there}
use Rattle.stix_objects.proofs.check.check_id.Goals as goal

pub returns-in-Some-check_own_id : goal.returns-in-Some-check_own_id
returns-in-Some-check_own_id c =
    let d = data_of c.args.object.now in
    let rule = c.in-Some-check_own_id.rule in
    let checked = subst (λ (own : Option (List ℕ)). ChecksOwnId own (data_of c.in-Some.id.now) (Some rule)) c.text_at.ensures c.in-Some-check_own_id.ensures in
    value_there (Unit {0}) (codes "id") (ChecksOwn (property_text (codes "type") d)) (member_of (codes "id") d) (data_of c.in-Some.id.now)
    (Some (row_break_view c.at-in-Some-check_own_id.result)) c.in-Some.ensures
    (Some (here rule), (Some rule, checked, refl), ap Some c.at-in-Some-check_own_id.ensures)
