-- Versions (STIX 2.1, section 3.6): objects of one identifier are versions of one object. All have
-- the same `created`, none is later than a version that is revoked, and two with the same
-- `modified` are equal.
use Rattle.std.specs.Prelude.{◌≡◌, ◌≢◌, ◌⊎◌, ℕ, ◌+◌, ◌<◌, ℤ, ◌<ℤ◌, List, [], ◌∷◌, ◌++◌, map, Some, slice_get, true, codes}
use Rattle.serde_json.specs.Data.{Data, boolean}
use Rattle.serde_json.specs.Find.{get}
use Rattle.stix_ids.specs.declared.id.Id.{Id}
use Rattle.stix_objects.specs.declared.groups.Group.TheVariants.{Observable}
use Rattle.stix_json.specs.Properties.{property_text}
use Rattle.stix_objects.specs.Types.{group_of}
use Rattle.stix_objects.specs.declared.form.Precision.TheVariants.{Millis}
use Rattle.stix_objects.specs.Properties.{IsTimestampAt, HasId}
use Rattle.stix_versions.specs.declared.version_break.VersionRule.{VersionRule}
use Rattle.stix_versions.specs.declared.version_break.VersionRule.TheVariants.{CreatedChanged, AfterRevoked, SameVersionTwice}
use Rattle.stix_versions.specs.declared.version_break.VersionBreak.{VersionBreak}

-- its type is that of a cyber-observable, which has no versions (section 6)
abbrev pub IsObservable : Data → Type 0
IsObservable d = (kind : List ℕ) × (property_text (codes "type") d ≡ Some kind) × (group_of kind ≡ Observable)

-- the object at the position is a version of the identifier, with these `created` and `modified`
-- times, to the millisecond at least (sections 3.2 and 2.16)
pub record IsVersion (objects : List Data) (at : ℕ) (id : Id) (created modified : ℤ) (object : Data) : Type 0 where
  pub there : slice_get objects at ≡ Some object
  pub versioned : ¬ IsObservable object
  pub has : HasId object id
  pub was_created : IsTimestampAt Millis (codes "created") object created
  pub was_modified : IsTimestampAt Millis (codes "modified") object modified

-- `revoked` is true
abbrev pub IsRevoked : Data → Type 0
IsRevoked d = get (codes "revoked") d ≡ Some (boolean true)

-- an earlier version has another `created`
pub record ChangesCreated (objects : List Data) (at : ℕ) (id : Id) (created : ℤ) : Type 0 where
  pub earlier : ℕ
  pub before : earlier < at
  pub other_created : ℤ
  pub other_modified : ℤ
  pub other : Data
  pub version : IsVersion objects earlier id other_created other_modified other
  pub changed : other_created ≢ created

-- some version with an earlier `modified` is revoked
pub record FollowsRevoked (objects : List Data) (id : Id) (modified : ℤ) : Type 0 where
  pub place : ℕ
  pub other_created : ℤ
  pub other_modified : ℤ
  pub other : Data
  pub version : IsVersion objects place id other_created other_modified other
  pub revoked : IsRevoked other
  pub before : other_modified <ℤ modified

-- an earlier version in the bundle has the same `modified`, and differs
pub record RepeatsVersion (objects : List Data) (at : ℕ) (id : Id) (modified : ℤ) (object : Data) : Type 0 where
  pub earlier : ℕ
  pub before : earlier < at
  pub other_created : ℤ
  pub other : Data
  pub version : IsVersion objects earlier id other_created modified other
  pub differs : other ≢ object

-- the version at the position breaks the rule
abbrev pub BreaksAs : List Data → ℕ → Id → ℤ → ℤ → Data → VersionRule → Type 0
BreaksAs objects at id created modified d CreatedChanged = ChangesCreated objects at id created
BreaksAs objects at id created modified d AfterRevoked = FollowsRevoked objects id modified
BreaksAs objects at id created modified d SameVersionTwice = RepeatsVersion objects at id modified d

-- the object at the position is a version that breaks the rule
pub record BreaksVersionRule (objects : List Data) (at : ℕ) (rule : VersionRule) : Type 0 where
  pub id : Id
  pub created : ℤ
  pub modified : ℤ
  pub object : Data
  pub version : IsVersion objects at id created modified object
  pub breaks : BreaksAs objects at id created modified object rule

-- the rules, in the order in which they are reported
abbrev pub rules_reported : List VersionRule
rules_reported = CreatedChanged ∷ AfterRevoked ∷ SameVersionTwice ∷ []

-- the rules of a list that are broken, in its order
abbrev pub AreBroken : (VersionRule → Type 0) → List VersionRule → List VersionRule → Type 0
AreBroken IsBroken [] broken = broken ≡ []
AreBroken IsBroken (rule ∷ rules) broken =
    (IsBroken rule × ((rest : List VersionRule) × AreBroken IsBroken rules rest × (broken ≡ rule ∷ rest)))
    ⊎ ((¬ IsBroken rule) × AreBroken IsBroken rules broken)

-- a violation by the object at the position
abbrev pub break_of_version : ℕ → VersionRule → VersionBreak
break_of_version at rule = record { object = at; rule = rule }

-- the violations of the objects from a position on, object by object
abbrev pub AreVersionBreaksFrom : List Data → ℕ → List Data → List VersionBreak → Type 0
AreVersionBreaksFrom objects at [] breaks = breaks ≡ []
AreVersionBreaksFrom objects at (d ∷ ds) breaks = (own : List VersionRule) × (rest : List VersionBreak)
    × AreBroken (BreaksVersionRule objects at) rules_reported own × AreVersionBreaksFrom objects (at + 1) ds rest × (breaks ≡ map (break_of_version at) own ++ rest)

-- all violations by the objects of a bundle
abbrev pub AreVersionBreaks : List Data → List VersionBreak → Type 0
AreVersionBreaks objects = AreVersionBreaksFrom objects 0 objects
