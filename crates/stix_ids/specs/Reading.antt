-- Why a text isn't read as an identifier, in the order in which the reasons are reported.
use Rattle.std.specs.Prelude.{ℕ, List}
use Rattle.stix_ids.specs.declared.refusal.IdRefusal.{IdRefusal}
use Rattle.stix_ids.specs.declared.refusal.IdRefusal.TheVariants.{NoSeparator, BadUuid, BadKind, NoMemory}
use Rattle.stix_ids.specs.Kind.{IsKind, IsLongestKindPrefix}
use Rattle.stix_ids.specs.Uuid.{IsUuid}
use Rattle.stix_ids.specs.Identifier.{IsSplitId, HasSeparator, IsIdText}

-- the text has the separator, with a front and 36 bytes that meet the condition
abbrev pub HasSeparatorWhere : (List ℕ → List ℕ → Type 0) → List ℕ → Type 0
HasSeparatorWhere P text = (front last : List ℕ) × IsSplitId text front last × P front last

-- why the text isn't read: memory may run out only if there is an identifier to keep
abbrev pub IsRefusedId : List ℕ → IdRefusal → Type 0
IsRefusedId text NoSeparator = ¬ HasSeparator text
IsRefusedId text BadUuid = HasSeparatorWhere (λ front last. ¬ IsUuid last) text
IsRefusedId text (BadKind at) =
    HasSeparatorWhere (λ front last. IsUuid last × (¬ IsKind front) × IsLongestKindPrefix front at) text
IsRefusedId text NoMemory = IsIdText text
