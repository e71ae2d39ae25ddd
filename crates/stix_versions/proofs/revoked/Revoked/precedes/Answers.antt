use Rattle.std.proofs.lemmas.Bool.{false≢true}
use Rattle.stix_versions.proofs.IsVersionLemmas.{Laws}
use Rattle.stix_versions.proofs.RevokedLemmas.{none_revoked, first_revoked}
use Rattle.stix_versions.proofs.revoked.Revoked.precedes.Goals as goal

pub returns-in-Some : goal.returns-in-Some
returns-in-Some c = λ objects at is all.
    let laws : Laws = record { one_id = c.one_id.ensures; one_timestamp = c.one_timestamp.ensures; one_meaning = c.one_meaning.ensures.one } in
    first_revoked laws objects at c.args.version.now is c.args.self.now all c.in-Some.first.now c.in-Some.ensures.value c.is_before.result c.is_before.ensures

pub returns-in-None : goal.returns-in-None
returns-in-None c = λ objects at is all.
    let laws : Laws = record { one_id = c.one_id.ensures; one_timestamp = c.one_timestamp.ensures; one_meaning = c.one_meaning.ensures.one } in (
      λ so. absurd (false≢true so),
      λ broken. absurd (none_revoked laws objects at c.args.version.now is c.args.self.now all c.in-None.ensures.value broken),
    )
