-- The entries of a POST (TAXII 2.1, section 5.5): valid objects, and failures.
use Rattle.std.specs.Prelude.{◌≡◌, ◌⊎◌, ⊤, ℕ, List, [], ◌∷◌, length, take, codes}
use Rattle.std.specs.List.{AllZip}
use Rattle.serde_json.specs.Data.{Data}
use Rattle.stix_json.specs.declared.entry.Entry.{Entry}
use Rattle.stix_json.specs.declared.entry.Entry.TheVariants.{Good, Bad}
use Rattle.stix_json.specs.DataOf.{data_of}
use Rattle.stix_json.specs.Entries.{AreListEntriesOf, HasNoList}
use Rattle.stix_json.specs.Reading.{HasNoValue}
use Rattle.stix_objects.specs.declared.rule_break.Break.{Break}
use Rattle.stix_objects.specs.Breaks.{AreBreaksOf}
use Rattle.taxii_rows.specs.declared.described.Described.{Described}
use Rattle.taxii_rows.specs.Described.{IsDescribed}
use Rattle.taxii_bodies.specs.declared.details.Detail.{Detail}
use Rattle.taxii_bodies.specs.Details.{IsFailureOf, IsRefusalDetail}
use Rattle.taxii_service.specs.declared.posted.Posted.{Posted}
use Rattle.taxii_service.specs.declared.posted.TheConstants.{MAX_DETAILS}
use Rattle.taxii_bodies.specs.declared.problem.Problem.TheVariants.{NotJson, NotList}
use Rattle.taxii_exchange.specs.declared.refusal.Refusal.{Refusal}
use Rattle.taxii_exchange.specs.declared.refusal.Refusal.TheVariants.{Problem}

-- the value has breaks, and this is the first of them
pub record BreaksFirst (value : Data) (first : Break) : Type 0 where
  pub others : List Break
  pub breaks : AreBreaksOf value (first ∷ others)

-- the entry is an valid object, and this is kept of it
abbrev pub IsKept : Entry → Described → Type 0
IsKept (Good value) object = AreBreaksOf (data_of value) [] × IsDescribed (data_of value) object
IsKept (Bad refusal) object = ⊥

-- the entry is no JSON value, or no valid object
abbrev pub Fails : Entry → Type 0
Fails (Good value) = ¬ AreBreaksOf (data_of value) []
Fails (Bad refusal) = ⊤

-- the detail of a failed entry; for a value it names the first violation
abbrev pub IsDetailOf : ℕ → Entry → Detail → Type 0
IsDetailOf moment (Good value) detail = (first : Break) × BreaksFirst (data_of value) first × IsFailureOf (data_of value) first moment detail
IsDetailOf moment (Bad refusal) detail = IsRefusalDetail refusal moment detail

-- entries in order: an object is kept of each, or it fails
abbrev pub SplitsPostedEntries : List Entry → List Described → List Entry → Type 0
SplitsPostedEntries [] objects failed = (objects ≡ []) × (failed ≡ [])
SplitsPostedEntries (entry ∷ entries) objects failed =
    ((object : Described) × (others : List Described) × (objects ≡ object ∷ others) × IsKept entry object × SplitsPostedEntries entries others failed)
    ⊎ ((others : List Entry) × (failed ≡ entry ∷ others) × Fails entry × SplitsPostedEntries entries objects others)

-- what some entries hold, in a request of that moment: those that fail are counted, and the first
-- of them have details
pub record HoldsEntries (moment : ℕ) (entries : List Entry) (posted : Posted) : Type 0 where
  pub failed : List Entry
  pub splits : SplitsPostedEntries entries posted.objects.items failed
  pub details : AllZip (IsDetailOf moment) (take MAX_DETAILS failed) posted.failures
  pub count : posted.failure_count ≡ length failed

-- what the body of a request of that moment holds
pub record IsPosted (body : List ℕ) (moment : ℕ) (posted : Posted) : Type 0 where
  pub entries : List Entry
  pub entries_are : AreListEntriesOf body (codes "objects") entries
  pub holds : HoldsEntries moment entries posted

-- the body is not UTF-8, is no JSON, or nests more than 127 levels
abbrev pub IsNotJson : List ℕ → Type 0
IsNotJson body = HasNoValue body

-- the body is no object, or its `objects` is no list
abbrev pub HasNoObjects : List ℕ → Type 0
HasNoObjects body = HasNoList body (codes "objects")

-- why the body has no list of objects
abbrev pub IsUnreadableBody : List ℕ → Refusal → Type 0
IsUnreadableBody body refusal =
    ((refusal ≡ Problem NotJson) × IsNotJson body) ⊎ ((refusal ≡ Problem NotList) × HasNoObjects body)
