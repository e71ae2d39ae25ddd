-- The meaning of the type of one value, and the rule that is broken otherwise.
use Rattle.std.specs.Prelude.{◌≡◌, ⊤, ℕ, ℤ, ◌≤ℤ◌, List, Option, Some, None, IsSome, IsTrue, codes}
use Rattle.serde_json.specs.Data.{Data, null, boolean, number, string, array, object, Members, no_members, member}
use Rattle.serde_json.specs.Find.{as_integer, as_str, as_bool, as_object}
use Rattle.stix_times.specs.Reading.{IsTextOfInstant as IsTimeOf, IsMillisTextOf as IsMillisOf}
use Rattle.stix_ids.specs.declared.id.Id.{Id}
use Rattle.stix_ids.specs.Kind.{IsKind}
use Rattle.stix_ids.specs.Identifier.{IsTextOfId, IsIdText}
use Rattle.stix_objects.specs.declared.rule.Rule.{Rule}
use Rattle.stix_objects.specs.declared.rule.Rule.TheVariants.{BadId, BadTime, NotMillis, OutOfRange, EmptyList, BadReference, BadWord, BadSpec, WrongKind}
use Rattle.stix_objects.specs.declared.form.Precision.{Precision}
use Rattle.stix_objects.specs.declared.form.Precision.TheVariants.{Any, Millis}
use Rattle.stix_objects.specs.Form.{Single, any_text, kind, version, one_of, timestamp, any_reference, reference, any_boolean, integer_in, texts_by_name}
use Rattle.stix_objects.specs.Form as forms
use Rattle.stix_objects.specs.Types.{is_among}
use Rattle.stix_objects.specs.Checking.{Requires, ChecksInTurn, OfKind}

-- no violation
abbrev pub Met : Option Rule → Type 0
Met outcome = outcome ≡ None

-- the integer of a value
abbrev pub integer_of : Data → Option ℤ
integer_of null = None
integer_of (boolean b) = None
integer_of (number n) = as_integer n
integer_of (string s) = None
integer_of (array ds) = None
integer_of (object ms) = None

-- the text is a timestamp of this instant, STIX 2.1, section 2.16; to the millisecond at least,
-- section 3.2
abbrev pub IsTimestampOf : Precision → List ℕ → ℤ → Type 0
IsTimestampOf Any s instant = IsTimeOf s instant
IsTimestampOf Millis s instant = IsMillisOf s instant

-- the text is some timestamp
abbrev pub IsTimestamp : Precision → List ℕ → Type 0
IsTimestamp precision s = (instant : ℤ) × IsTimestampOf precision s instant

-- the violation by a text that must be a timestamp
abbrev pub ChecksTimestamp : Precision → List ℕ → Option Rule → Type 0
ChecksTimestamp Any s outcome = Requires (IsTimestamp Any s) BadTime outcome
ChecksTimestamp Millis s outcome = ChecksInTurn (Requires (IsTimestamp Any s) BadTime) (Requires (IsTimestamp Millis s) NotMillis) outcome

-- the text is an identifier of one of these kinds
abbrev pub Refers : List (List ℕ) → List ℕ → Type 0
Refers kinds s = (id : Id) × IsTextOfId s id × IsTrue (is_among id.kind kinds)

-- the violation by a text that must be an identifier of one of these kinds
abbrev pub ChecksReference : List (List ℕ) → List ℕ → Option Rule → Type 0
ChecksReference kinds s outcome = ChecksInTurn (Requires (IsIdText s) BadId) (Requires (Refers kinds s) BadReference) outcome

-- each member is a text
abbrev pub AreTexts : Members → Type 0
AreTexts no_members = ⊤
AreTexts (member name d ms) = IsSome (as_str d) × AreTexts ms

-- there is at least one member
abbrev pub HasMember : Members → Type 0
HasMember no_members = ⊥
HasMember (member name d ms) = ⊤

-- the violation by the members of an object of hashes
abbrev pub ChecksTexts : Members → Option Rule → Type 0
ChecksTexts ms outcome = ChecksInTurn (Requires (AreTexts ms) WrongKind) (Requires (HasMember ms) EmptyList) outcome

-- the violation of a type by a value
abbrev pub ChecksSingle : Single → Data → Option Rule → Type 0
ChecksSingle any_text d outcome = OfKind (as_str d) (λ s. Met) outcome
ChecksSingle kind d outcome = OfKind (as_str d) (λ s. Requires (IsKind s) BadWord) outcome
ChecksSingle version d outcome = OfKind (as_str d) (λ s. Requires (s ≡ codes "2.1") BadSpec) outcome
ChecksSingle (one_of known) d outcome = OfKind (as_str d) (λ s. Requires (IsTrue (is_among s known)) BadWord) outcome
ChecksSingle (timestamp precision) d outcome = OfKind (as_str d) (ChecksTimestamp precision) outcome
ChecksSingle any_reference d outcome = OfKind (as_str d) (λ s. Requires (IsIdText s) BadId) outcome
ChecksSingle (reference kinds) d outcome = OfKind (as_str d) (ChecksReference kinds) outcome
ChecksSingle any_boolean d outcome = OfKind (as_bool d) (λ b. Met) outcome
ChecksSingle (integer_in least most) d outcome = OfKind (integer_of d) (λ z. Requires ((least ≤ℤ z) × (z ≤ℤ most)) OutOfRange) outcome
ChecksSingle forms.object d outcome = OfKind (as_object d) (λ ms. Met) outcome
ChecksSingle texts_by_name d outcome = OfKind (as_object d) ChecksTexts outcome

-- the text is an identifier of the object's own kind, or of any kind if the object has no type
abbrev pub NamesOwn : Option (List ℕ) → List ℕ → Type 0
NamesOwn None s = IsIdText s
NamesOwn (Some own) s = (number : ℕ) × IsTextOfId s (record { kind = own; number = number })

-- the violation by an object's identifier
abbrev pub ChecksOwnId : Option (List ℕ) → Data → Option Rule → Type 0
ChecksOwnId own d outcome = OfKind (as_str d) (λ s. Requires (NamesOwn own s) BadId) outcome
