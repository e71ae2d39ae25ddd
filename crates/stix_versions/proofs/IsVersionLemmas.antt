-- An object is one version, and groups are the same where identifiers are.
use Rattle.std.proofs.Common.{◌≡◌, ℕ, ℤ, List, Option, Some, codes, sym, subst, ◌∙◌}
use Rattle.serde_json.specs.Data.{Data}
use Rattle.stix_ids.specs.declared.id.Id.{Id}
use Rattle.stix_objects.specs.declared.form.Precision.{Precision}
use Rattle.stix_objects.specs.declared.form.Precision.TheVariants.{Millis}
use Rattle.stix_objects.specs.Properties.{IsTimestampAt, HasId}
use Rattle.stix_bundles.specs.Lookup.{IsLatest, ResolvesTo}
use Rattle.stix_versions.specs.Versions.{IsVersion}
use Rattle.stix_versions.proofs.VersionLemmas.{one_some}

abbrev pub OneId : Type 0
OneId = (d : Data) (first second : Id) → HasId d first → HasId d second → first ≡ second

abbrev pub OneTimestamp : Type 0
OneTimestamp = (precision : Precision) (name : List ℕ) (d : Data) (first second : ℤ) → IsTimestampAt precision name d first → IsTimestampAt precision name d second → first ≡ second

abbrev pub OneMeaning : Type 0
OneMeaning = (objects : List Data) (text : List ℕ) (first second : Option ℕ) → ResolvesTo objects text first → ResolvesTo objects text second → first ≡ second

-- these laws
pub record Laws : Type 0 where
  pub one_id : OneId
  pub one_timestamp : OneTimestamp
  pub one_meaning : OneMeaning

pub one_object : (objects : List Data) (at : ℕ) (id other : Id) (c m c2 m2 : ℤ) (d e : Data) → IsVersion objects at id c m d → IsVersion objects at other c2 m2 e
    → d ≡ e
one_object objects at id other c m c2 m2 d e is also = one_some d e (sym is.there ∙ also.there)

pub one_version_id : Laws → (objects : List Data) (at : ℕ) (id other : Id) (c m c2 m2 : ℤ) (d e : Data) → IsVersion objects at id c m d
    → IsVersion objects at other c2 m2 e → id ≡ other
one_version_id laws objects at id other c m c2 m2 d e is also =
    laws.one_id e id other (subst (λ (x : Data). HasId x id) (one_object objects at id other c m c2 m2 d e is also) is.has) also.has

pub one_created : Laws → (objects : List Data) (at : ℕ) (id other : Id) (c m c2 m2 : ℤ) (d e : Data) → IsVersion objects at id c m d
    → IsVersion objects at other c2 m2 e → c ≡ c2
one_created laws objects at id other c m c2 m2 d e is also =
    let same = one_object objects at id other c m c2 m2 d e is also in
    let first = subst (λ (x : Data). IsVersion objects at id c m x) same is in
    laws.one_timestamp Millis (codes "created") e c c2 first.was_created also.was_created

pub one_modified : Laws → (objects : List Data) (at : ℕ) (id other : Id) (c m c2 m2 : ℤ) (d e : Data) → IsVersion objects at id c m d
    → IsVersion objects at other c2 m2 e → m ≡ m2
one_modified laws objects at id other c m c2 m2 d e is also =
    let same = one_object objects at id other c m c2 m2 d e is also in
    let first = subst (λ (x : Data). IsVersion objects at id c m x) same is in
    laws.one_timestamp Millis (codes "modified") e m m2 first.was_modified also.was_modified

-- of one identifier there is one group
pub one_group : Laws → (objects : List Data) (id other : Id) (group another : ℕ) → IsLatest objects id group → IsLatest objects other another → id ≡ other
    → group ≡ another
one_group laws objects id other group another is also same =
    let has = is.version.has in
    let latest = subst (λ (i : Id). IsLatest objects i another) (sym same) also in
    one_some group another (laws.one_meaning objects has.text (Some group) (Some another) (id, has.reads, is) (id, has.reads, latest))

-- and a group is that of one identifier
pub one_grouped : Laws → (objects : List Data) (id other : Id) (group another : ℕ) → IsLatest objects id group → IsLatest objects other another → group ≡ another
    → id ≡ other
one_grouped laws objects id other group another is also same =
    let first = subst (λ (n : ℕ). IsLatest objects id n) same is in
    let object = one_some first.version.object also.version.object (sym first.version.there ∙ also.version.there) in
    laws.one_id also.version.object id other (subst (λ (x : Data). HasId x id) object first.version.has) also.version.has
