use Rattle.std.proofs.Common.{Some, refl}
use Rattle.serde_json.specs.Find.{as_str}
use Rattle.stix_ids.specs.Identifier.{IsIdText}
use Rattle.stix_json.specs.DataOf.{data_of}
use Rattle.stix_objects.specs.declared.rule.Rule.TheVariants.{BadId}
use Rattle.stix_objects.specs.Checking.{Requires}
use Rattle.stix_objects.proofs.CheckingLemmas.{of_kind}
use Rattle.stix_objects.proofs.IdentifierLemmas.{names_none}
use Rattle.stix_objects.proofs.identifier.check_any_reference.Goals as goal

pub returns-in-None : goal.returns-in-None
returns-in-None c =
    of_kind (as_str (data_of c.args.value.now)) c.in-Some.text.now (λ s. Requires (IsIdText s) BadId) (Some BadId) c.in-Some.ensures
    (names_none c.in-Some.text.now c.in-None.ensures.only, refl)
