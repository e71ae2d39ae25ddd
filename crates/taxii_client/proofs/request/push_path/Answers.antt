use Rattle.std.proofs.Common.{codes}
use Rattle.stix_ids.specs.Uuid.{uuid_text}
use Rattle.taxii_client.proofs.RequestLemmas.{pushed4, added}
use Rattle.taxii_client.proofs.request.push_path.Goals as goal

pub returns : goal.returns
returns c =
    pushed4 c.args.text.now c.args.target.now.root (codes "collections/") (uuid_text c.args.target.now.collection) (codes "/objects/") _ _ _ _
    (added _ _ _ _ c.in_ok-push.ensures.ok c.as_str.ensures) c.in_ok-push-2.ensures.ok (added _ _ _ _ c.in_ok-push-3.ensures.ok c.write_uuid.ensures) c.in_ok-push-4.ensures.ok
