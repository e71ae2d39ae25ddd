-- For private clauses: the state kept of all versions before a position, and a violation that is
-- reported under a condition.
use Rattle.std.specs.Prelude.{ℕ, List, [], ◌∷◌, Bool, if◌then◌else◌}
use Rattle.serde_json.specs.Data.{Data}
use Rattle.stix_versions.specs.declared.version_break.VersionBreak.{VersionBreak}
use Rattle.stix_versions.specs.declared.versions.History.{History}
use Rattle.stix_versions.specs.inner.FirstVersions.{AreCreatedBefore}
use Rattle.stix_versions.specs.inner.Duplicates.{AreDuplicatesBefore}

-- the state kept of the versions before the position
pub record AreVersionsBefore (objects : List Data) (end : ℕ) (seen : History) : Type 0 where
  pub created : AreCreatedBefore objects end seen.created
  pub duplicates : AreDuplicatesBefore objects end seen.duplicates

-- the violation, if the condition holds
abbrev pub violation_if : Bool → VersionBreak → List VersionBreak
violation_if broken break = if broken then break ∷ [] else []
