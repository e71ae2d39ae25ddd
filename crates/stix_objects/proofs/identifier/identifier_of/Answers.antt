use Rattle.std.proofs.Common.{◌≡◌, Some, Result, Ok, Err, IsOkAnd, option_map, ap, ◌∙◌}
use Rattle.std.specs.Result.{result_ok}
use Rattle.stix_ids.specs.declared.id.Id.{Id}
use Rattle.stix_ids.specs.declared.parts.IdRef.{IdRef}
use Rattle.stix_ids.specs.declared.refusal.IdRefusal.{IdRefusal}
use Rattle.stix_ids.specs.PartsOf.{id_of}
use Rattle.stix_objects.proofs.identifier.identifier_of.Goals as goal

kept : (id : Id) (read : Result IdRef IdRefusal) → IsOkAnd read (λ parts. id_of parts ≡ id) → option_map id_of (result_ok read) ≡ Some id
kept id (Ok parts) same = ap Some same
kept id (Err refusal) same = absurd same

pub returns-clause-only : goal.returns-clause-only
returns-clause-only c = λ id named. ap (option_map id_of) c.ok.ensures.value ∙ kept id c.read.result (c.read.ensures.named id named)
