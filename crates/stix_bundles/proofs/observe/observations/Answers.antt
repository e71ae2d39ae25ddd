use Rattle.std.proofs.Common.{List, subst}
use Rattle.stix_json.specs.declared.value.Json.{Json}
use Rattle.stix_bundles.specs.Objects.{data_in}
use Rattle.stix_bundles.specs.Observations.{NoneEmbeds}
use Rattle.stix_bundles.proofs.observe.observations.Goals as goal

pub returns-in-Ok-clause-whole : goal.returns-in-Ok-clause-whole
returns-in-Ok-clause-whole c = subst (λ (values : List Json). NoneEmbeds (data_in values)) c.objects.ensures.value c.in_default.ensures.none

pub returns-in-Err-clause-err : goal.returns-in-Err-clause-err
returns-in-Err-clause-err c = subst (λ (values : List Json). NoneEmbeds (data_in values)) c.objects.ensures.value c.in_default.ensures.none
