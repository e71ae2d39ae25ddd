-- What reading an object tells of the version that it is.
use Rattle.std.proofs.Common.{◌≡◌, ◌<◌, ℕ, ℤ, List, length, Option, Some, None, IfNone, unwrap_or, slice_get, slice_index_or, codes, sym, ap, subst, ◌∙◌}
use Rattle.serde_json.specs.Data.{Data}
use Rattle.stix_ids.specs.declared.id.Id.{Id}
use Rattle.stix_ids.specs.Identifier.{IsTextOfId}
use Rattle.stix_json.specs.declared.value.Json.{Json}
use Rattle.stix_json.specs.DataOf.{data_of}
use Rattle.stix_json.specs.Properties.{property_text}
use Rattle.stix_objects.specs.declared.form.Precision.TheVariants.{Millis}
use Rattle.stix_objects.specs.Properties.{IsTimestampAt}
use Rattle.stix_bundles.specs.Objects.{data_in}
use Rattle.stix_bundles.specs.Lookup.{IsOf, ResolvesTo}
use Rattle.stix_versions.specs.declared.version.Version.{Version}
use Rattle.stix_versions.specs.Versions.{IsObservable, IsVersion}
use Rattle.stix_versions.specs.inner.Version.{IsVersionAs, IsNoVersion}
use Rattle.stix_versions.proofs.FirstObjectsLemmas.{data_read}

pub one_some : {A : Type 0} (x y : A) → Some x ≡ Some y → x ≡ y
one_some {A} x y e = ap (λ (o : Option A). unwrap_or o x) e

pub if_none : {A : Type 0} (P : Type 0) (o : Option A) → P → IfNone o P
if_none P None p = p
if_none P (Some x) p = tt

-- a version at the place is one of the object there
pub version_of : (objects : List Data) (at : ℕ) (d : Data) → slice_get objects at ≡ Some d → (id : Id) (created modified : ℤ) (other : Data)
    → IsVersion objects at id created modified other → IsVersion objects at id created modified d
version_of objects at d there id created modified other is =
    subst (λ (x : Data). IsVersion objects at id created modified x) (one_some other d (sym is.there ∙ there)) is

pub uncreated_is_none : (objects : List Data) (at : ℕ) (d : Data) → slice_get objects at ≡ Some d → ((i : ℤ) → ¬ IsTimestampAt Millis (codes "created") d i)
    → IsNoVersion objects at
uncreated_is_none objects at d there none = λ id created modified other is.
    let was = (version_of objects at d there id created modified other is).was_created in
    none created was

pub unmodified_is_none : (objects : List Data) (at : ℕ) (d : Data) → slice_get objects at ≡ Some d → ((i : ℤ) → ¬ IsTimestampAt Millis (codes "modified") d i)
    → IsNoVersion objects at
unmodified_is_none objects at d there none = λ id created modified other is.
    let was = (version_of objects at d there id created modified other is).was_modified in
    none modified was

abbrev pub OwnMeans : Type 0
OwnMeans = (objects : List Data) (id : Id) (at : ℕ) (text : List ℕ) → IsOf objects id at → IsTextOfId text id → ¬ ResolvesTo objects text None

pub unmeant_is_none : OwnMeans → (objects : List Data) (at : ℕ) (d : Data) → slice_get objects at ≡ Some d → (text : List ℕ) → Some text ≡ property_text (codes "id") d
    → ResolvesTo objects text None → IsNoVersion objects at
unmeant_is_none own objects at d there text named none = λ id created modified other is.
    let has = (version_of objects at d there id created modified other is).has in
    let reads = subst (λ (t : List ℕ). IsTextOfId t id) (one_some has.text text (sym has.there ∙ sym named)) has.reads in
    own objects id at text (record { object = d; there = there; has = has }) reads none

pub seen_as : (objects : List Data) (at : ℕ) (d : Data) → slice_get objects at ≡ Some d → (seen : Version) → ¬ IsObservable d → (text : List ℕ)
    → Some text ≡ property_text (codes "id") d → ResolvesTo objects text (Some seen.group) → IsTimestampAt Millis (codes "created") d seen.created
    → IsTimestampAt Millis (codes "modified") d seen.modified → IsVersionAs objects at seen
seen_as objects at d there seen versioned text named means created modified = record {
  id = means.0;
  object = d;
  version = record {
    there = there;
    versioned = versioned;
    has = record { text = text; there = sym named; reads = means.1 };
    was_created = created;
    was_modified = modified;
  };
  grouped = means.2;
}

-- the object that the code reads
pub object_there : (values read : List Json) → read ≡ values → (at : ℕ) (value : Json) → at < length values → value ≡ slice_index_or read at value
    → slice_get (data_in values) at ≡ Some (data_of value)
object_there values read same at value inside is = data_read values at value inside (subst (λ (xs : List Json). value ≡ slice_index_or xs at value) same is)
