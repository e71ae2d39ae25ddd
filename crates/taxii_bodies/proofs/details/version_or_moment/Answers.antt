use Rattle.std.proofs.Common.{inr}
use Rattle.stix_json.specs.DataOf.{data_of}
use Rattle.taxii_bodies.specs.Details.{IsMomentText, IsVersionOrMoment}
use Rattle.taxii_bodies.proofs.DetailLemmas.{ok_then}
use Rattle.taxii_bodies.proofs.details.version_or_moment.Goals as goal

pub returns-in-None : goal.returns-in-None
returns-in-None c =
    ok_then c.moment_text.result (IsMomentText c.args.moment) (IsVersionOrMoment (data_of c.args.object.now) c.args.moment)
    (λ text is. inr (c.in-None.ensures.found, is)) c.moment_text.ensures
