use Rattle.std.proofs.Common.{◌≡◌, inr}
use Rattle.stix_json.specs.DataOf.{data_of}
use Rattle.taxii_bodies.specs.Details.{unknown_id, IsIdOrUnknown}
use Rattle.taxii_bodies.proofs.DetailLemmas.{ok_then}
use Rattle.taxii_bodies.proofs.details.id_or_unknown.Goals as goal

pub returns-in-None : goal.returns-in-None
returns-in-None c =
    ok_then c.from_text.result (λ text. text ≡ unknown_id) (IsIdOrUnknown (data_of c.args.object.now)) (λ text is. inr (c.in-None.ensures, is)) c.from_text.ensures
