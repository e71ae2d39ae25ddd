use Rattle.std.proofs.Common.{List, All, sym, subst}
use Rattle.stix_json.specs.declared.value.Json.{Json}
use Rattle.stix_json.specs.Ordered.{IsOrdered}
use Rattle.stix_bundles.specs.Objects.{data_in}
use Rattle.match_comparisons.proofs.OrderedLemmas.{value_found, ordered_found}
use Rattle.match_comparisons.proofs.object.object_at.Goals as goal

pub returns-clause-value : goal.returns-clause-value
returns-clause-value c = rw (← c.objects.ensures.value) (value_found c.objects.result.now c.args.at c.value_at.result c.value_at.ensures)

pub returns-clause-ordered : goal.returns-clause-ordered
returns-clause-ordered c =
    let all = subst (λ (trees : List Json). All IsOrdered (data_in trees)) (sym c.objects.ensures.value) c.objects.ensures.ordered in
    ordered_found c.objects.result.now c.args.at c.value_at.result c.value_at.ensures all
