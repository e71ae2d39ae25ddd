use Rattle.stix_objects.specs.declared.form.Precision.TheVariants.{Millis}
use Rattle.taxii_rows.proofs.VersionLemmas.{one_version, undated, never_dated}
use Rattle.taxii_rows.proofs.laws.one_version.Goals as goal

pub returns-clause-only : goal.returns-clause-only
returns-clause-only c = one_version (c.one_timestamp.ensures Millis)

pub returns-clause-undated : goal.returns-clause-undated
returns-clause-undated c = λ set object. (never_dated set object, undated set object)
