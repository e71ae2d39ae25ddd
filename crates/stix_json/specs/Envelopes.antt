-- The envelope of TAXII 2.1, section 3.7, as a client reads it: whether more follows, the cursor of
-- the next page, and the objects, each checked on its own.
use Rattle.std.specs.Prelude.{◌≡◌, ◌⊎◌, ⊤, ℕ, List, Bool, true, false, codes, Option, Some, None, option_map}
use Rattle.serde_json.specs.Data.{Data, Items}
use Rattle.serde_json.specs.Find.{get, as_bool}
use Rattle.stix_json.specs.declared.envelope.Envelope.{Envelope}
use Rattle.stix_json.specs.declared.refusal.JsonRefusal.{JsonRefusal}
use Rattle.stix_json.specs.declared.refusal.JsonRefusal.TheVariants.{NotJson, TooDeep, NotWhole, Null, OutOfRange, NotList, NoMemory}
use Rattle.stix_json.specs.Properties.{property_text}
use Rattle.stix_json.specs.Entries.{list_under, AreEntriesFor}
use Rattle.stix_json.specs.Reading.{IsValueOf, HasNoValue}

-- a boolean, false if it is absent; none for another value
abbrev pub flag_or_false : Option Data → Option Bool
flag_or_false None = Some false
flag_or_false (Some d) = as_bool d

-- the flag `more` of a value
abbrev pub more_in : Data → Option Bool
more_in d = flag_or_false (get (codes "more") d)

-- the cursor of the next page: a text if there is more, else nothing; none if there is more and no
-- text
abbrev pub next_in : Bool → Data → Option (Option (List ℕ))
next_in false d = Some None
next_in true d = option_map Some (property_text (codes "next") d)

-- the envelope of these bytes
pub record IsEnvelopeOf (bytes : List ℕ) (envelope : Envelope) : Type 0 where
  pub whole : Data
  pub list : Items
  pub value : IsValueOf bytes whole
  pub objects : list_under (codes "objects") whole ≡ Some list
  pub checked : AreEntriesFor list envelope.entries
  pub more : more_in whole ≡ Some envelope.more
  pub next : next_in envelope.more whole ≡ Some envelope.next

-- a value isn't an envelope: it has no list of objects, or no valid `more`, or `more` is true and
-- there is no text `next`
abbrev pub IsNoPage : Data → Type 0
IsNoPage d = (list_under (codes "objects") d ≡ None) ⊎ (more_in d ≡ None) ⊎ ((more_in d ≡ Some true) × (next_in true d ≡ None))

-- why bytes aren't an envelope; memory may run out at any time
abbrev pub HasNoEnvelopeAs : List ℕ → JsonRefusal → Type 0
HasNoEnvelopeAs bytes NotJson = HasNoValue bytes
HasNoEnvelopeAs bytes (TooDeep path) = ⊥
HasNoEnvelopeAs bytes (NotWhole path) = ⊥
HasNoEnvelopeAs bytes (Null path) = ⊥
HasNoEnvelopeAs bytes (OutOfRange path) = ⊥
HasNoEnvelopeAs bytes NotList = (d : Data) × IsValueOf bytes d × IsNoPage d
HasNoEnvelopeAs bytes NoMemory = ⊤
