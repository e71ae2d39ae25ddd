-- The details of a status (TAXII 2.1, section 4.3.1): which object, in which version, and why it
-- was refused.
use Rattle.std.specs.Prelude.{◌≡◌, ◌⊎◌, ℕ, ℤ, min, List, [], ◌∷◌, ◌++◌, codes, None, Some}
use Rattle.serde_json.specs.Data.{Data}
use Rattle.stix_ids.specs.declared.id.Id.{Id}
use Rattle.stix_ids.specs.Identifier.{canonical_text}
use Rattle.stix_json.specs.declared.refusal.JsonRefusal.{JsonRefusal}
use Rattle.stix_json.specs.declared.refusal.JsonRefusal.TheVariants.{NotJson, TooDeep, NotWhole, Null, OutOfRange, NotList, NoMemory}
use Rattle.stix_objects.specs.declared.rule_break.Break.{Break}
use Rattle.stix_objects.specs.Properties.{HasId}
use Rattle.stix_objects.specs.RuleName.{rule_name}
use Rattle.taxii_rows.specs.declared.stored_row.StoredRow.{StoredRow}
use Rattle.taxii_rows.specs.declared.stored_row.TheConstants.{LAST_DATE}
use Rattle.taxii_rows.specs.Version.{IsVersionTime}
use Rattle.taxii_bodies.specs.declared.details.Detail.{Detail}
use Rattle.taxii_bodies.specs.Times.{IsDateText, IsStatedText, IsVersionText}

-- a name, and the path of what it is stated of, where that is not the whole
abbrev pub detail_at_path : List ℕ → List ℕ → List ℕ
detail_at_path name [] = name
detail_at_path name (byte ∷ path) = name ++ (codes " at " ++ byte ∷ path)

-- why an entry is no JSON value: the name of the rule alone, since there is no object with a path
abbrev pub refusal_message : JsonRefusal → List ℕ
refusal_message NotJson = codes "NotJson"
refusal_message (TooDeep path) = codes "TooDeep"
refusal_message (NotWhole path) = codes "NotWhole"
refusal_message (Null path) = codes "Null"
refusal_message (OutOfRange path) = codes "OutOfRange"
refusal_message NotList = codes "NotList"
refusal_message NoMemory = codes "out of memory"

-- what represents the identifier of an object that has none
abbrev pub unknown_id : List ℕ
unknown_id = codes "unknown--00000000-0000-4000-8000-000000000000"

-- the text of a moment, or of the last date there is, whichever is earlier
abbrev pub IsMomentText : ℕ → List ℕ → Type 0
IsMomentText moment text = IsDateText (min moment LAST_DATE) text

-- the text is the object's identifier, or the unknown one
abbrev pub IsIdOrUnknown : Data → List ℕ → Type 0
IsIdOrUnknown d text =
    ((id : Id) × HasId d id × (text ≡ canonical_text id)) ⊎ (((id : Id) → ¬ HasId d id) × (text ≡ unknown_id))

-- the text is the object's version, or the moment
abbrev pub IsVersionOrMoment : Data → ℕ → List ℕ → Type 0
IsVersionOrMoment d moment text =
    ((instant : ℤ) × IsVersionTime d instant × IsStatedText instant text)
    ⊎ (((instant : ℤ) → ¬ IsVersionTime d instant) × IsMomentText moment text)

-- the detail of a row that was stored
pub record IsSuccessOf (row : StoredRow) (detail : Detail) : Type 0 where
  pub id : detail.id ≡ canonical_text row.id
  pub message : detail.message ≡ None
  pub version : IsVersionText row detail.version

-- the detail of an object that breaks a rule, in a request of that moment
pub record IsFailureOf (object : Data) (found : Break) (moment : ℕ) (detail : Detail) : Type 0 where
  pub id : IsIdOrUnknown object detail.id
  pub message : detail.message ≡ Some (detail_at_path (rule_name found.rule) found.path)
  pub version : IsVersionOrMoment object moment detail.version

-- the detail of an entry that is no JSON value, in a request of that moment
pub record IsRefusalDetail (refusal : JsonRefusal) (moment : ℕ) (detail : Detail) : Type 0 where
  pub id : detail.id ≡ unknown_id
  pub message : detail.message ≡ Some (refusal_message refusal)
  pub version : IsMomentText moment detail.version
