-- For private clauses: values checked as they are parsed.
use Rattle.std.specs.Prelude.{◌≡◌, ⊤, ℕ, List, [], ◌∷◌, length, map, Option, None, Some}
use Rattle.serde_json.specs.Data.{Data, Members, no_members, member}
use Rattle.serde_json.specs.View.{items_of}
use Rattle.stix_json.specs.declared.raw_members.RawMember.{RawMember}
use Rattle.stix_json.specs.declared.elements.Elements.{Elements}
use Rattle.stix_json.specs.declared.checked.Checked.{Checked}
use Rattle.stix_json.specs.declared.checked.Checked.TheVariants.{Good, Bad}
use Rattle.stix_json.specs.declared.read_error.ReadError.{ReadError}
use Rattle.stix_json.specs.declared.read_error.ReadError.TheVariants.{NotJson, NoMemory}
use Rattle.stix_json.specs.DataOf.{Member, data_of, field_data, members_of}
use Rattle.stix_json.specs.declared.fields.Fields.{Fields}
use Rattle.stix_json.specs.Reading.{HasNoValue}
use Rattle.stix_json.specs.inner.FirstErrors.{first_error, items_first_error, members_first_error}

-- the outcome for a value: the Json without an error, or the first error
abbrev pub IsCheckedAs : ℕ → Data → Checked → Type 0
IsCheckedAs levels d (Good json) = (first_error levels d ≡ None) × (data_of json ≡ d)
IsCheckedAs levels d (Bad found) = first_error levels d ≡ Some found

-- the state after these items
pub record AreElements (levels : ℕ) (done : List Data) (elements : Elements) : Type 0 where
  pub found : elements.first_error ≡ items_first_error levels 0 (items_of done)
  pub good : elements.first_error ≡ None → map data_of elements.items.items ≡ done
  pub count : elements.len ≡ length done

-- the members, each with its checked value
abbrev pub AreRawMembers : ℕ → Members → List RawMember → Type 0
AreRawMembers levels no_members [] = ⊤
AreRawMembers levels no_members (g ∷ gs) = ⊥
AreRawMembers levels (member name d ms) [] = ⊥
AreRawMembers levels (member name d ms) (g ∷ gs) = (g.name ≡ name) × IsCheckedAs levels d g.checked × AreRawMembers levels ms gs

-- reading stopped: out of memory, or there is nothing valid to read
abbrev pub IsReadError : {A : Type 0} → Option A → ReadError → Type 0
IsReadError found NotJson = found ≡ None
IsReadError found NoMemory = ⊤

-- the name of a raw member
abbrev pub member_name : RawMember → List ℕ
member_name g = g.name

-- the state after these members
pub record AreFields (levels : ℕ) (done : List Member) (fields : Fields) : Type 0 where
  pub found : fields.first_error ≡ members_first_error levels (members_of done)
  pub good : fields.first_error ≡ None → map field_data fields.fields.items ≡ done

-- the bytes yield no value: they aren't JSON, or memory ran out
abbrev pub IsNoText : List ℕ → ReadError → Type 0
IsNoText bytes NotJson = HasNoValue bytes
IsNoText bytes NoMemory = ⊤
