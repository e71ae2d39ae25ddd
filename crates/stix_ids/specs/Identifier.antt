-- Identifiers of STIX 2.1, section 2.9: `object-type "--" UUID`. An identifier is its kind and the
-- number of its UUID. Byte 45 is `-`.
use Rattle.std.specs.Prelude.{◌≡◌, ℕ, ◌^◌, ◌<◌, List, ◌∷◌, ◌++◌, length}
use Rattle.stix_ids.specs.declared.id.Id.{Id}
use Rattle.stix_ids.specs.Kind.{IsKind}
use Rattle.stix_ids.specs.Uuid.{IsUuidOf, uuid_text}

-- the text is a front, `--` and 36 bytes
pub record IsSplitId (text front last : List ℕ) : Type 0 where
  pub long : length last ≡ 36
  pub parts : text ≡ front ++ 45 ∷ 45 ∷ last

-- `--` precedes the last 36 bytes
abbrev pub HasSeparator : List ℕ → Type 0
HasSeparator text = (front last : List ℕ) × IsSplitId text front last

-- the text is the identifier's: its kind, `--` and its UUID
pub record IsTextOfId (text : List ℕ) (id : Id) : Type 0 where
  pub uuid : List ℕ
  pub cut : IsSplitId text id.kind uuid
  pub kind : IsKind id.kind
  pub number : IsUuidOf uuid id.number

-- some identifier's text
abbrev pub IsIdText : List ℕ → Type 0
IsIdText text = (id : Id) × IsTextOfId text id

-- the text of an identifier of the kind
abbrev pub IsOfKind : List ℕ → List ℕ → Type 0
IsOfKind text kind = (id : Id) × IsTextOfId text id × (id.kind ≡ kind)

-- the identifier's text in lower-case digits
abbrev pub canonical_text : Id → List ℕ
canonical_text id = id.kind ++ 45 ∷ 45 ∷ uuid_text id.number

-- the text is the canonical one of an identifier
pub record IsCanonicalIdText (text : List ℕ) (id : Id) : Type 0 where
  pub kind : IsKind id.kind
  pub number : id.number < 2 ^ 128
  pub spelling : text ≡ canonical_text id
