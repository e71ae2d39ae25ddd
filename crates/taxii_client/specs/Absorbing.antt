-- The effect of absorbing a page of a peer's collection: its valid objects are added to the store,
-- and the other entries are skipped.
use Rattle.std.specs.Prelude.{◌≡◌, ◌⊎◌, ⊤, ℕ, Bool, true, false, not, List, [], ◌∷◌, length, None, count_by}
use Rattle.stix_json.specs.declared.entry.Entry.{Entry}
use Rattle.stix_json.specs.declared.entry.Entry.TheVariants.{Good, Bad}
use Rattle.stix_json.specs.DataOf.{data_of}
use Rattle.stix_json.specs.Ordered.{IsOrdered}
use Rattle.stix_json.specs.Refusal.{data_refusal}
use Rattle.stix_objects.specs.Breaks.{AreBreaksOf}
use Rattle.taxii_rows.specs.declared.stored_row.StoredRow.{StoredRow}
use Rattle.taxii_rows.specs.declared.described.Described.{Described}
use Rattle.taxii_rows.specs.Described.{IsDescribed}
use Rattle.taxii_rows.specs.StoreState.{StoreState}
use Rattle.taxii_rows.specs.Keeper.{with_rows}
use Rattle.taxii_store.specs.declared.add_outcome.AddOutcome.{AddOutcome}
use Rattle.taxii_store.specs.declared.add_outcome.AddOutcome.TheVariants.{Added, Present}
use Rattle.taxii_store.specs.Addition.{IsAddition, UsesUpDates, watermark_after}
use Rattle.taxii_client.specs.declared.tally.Tally.{Tally}

-- the model of a mirror: the collection that it fills, and the store
pub record MirrorState : Type 0 where
  pub collection : ℕ
  pub store : StoreState

-- where the entry is a value, JSON's limits take it, and its names are in order
abbrev pub IsReadable : Entry → Type 0
IsReadable (Good value) = (data_refusal (data_of value) ≡ None) × IsOrdered (data_of value)
IsReadable (Bad refusal) = ⊤

-- the entry is an valid object, and this is kept of it
abbrev pub IsKeptEntry : Entry → Described → Type 0
IsKeptEntry (Good value) object = AreBreaksOf (data_of value) [] × IsDescribed (data_of value) object
IsKeptEntry (Bad refusal) object = ⊥

-- the entry is no JSON value, or has a break
abbrev pub IsSkippedEntry : Entry → Type 0
IsSkippedEntry (Good value) = ¬ AreBreaksOf (data_of value) []
IsSkippedEntry (Bad refusal) = ⊤

-- entries in order: an object is kept of each, or it is skipped
abbrev pub SplitsPageEntries : List Entry → List Described → List Entry → Type 0
SplitsPageEntries [] objects skipped = (objects ≡ []) × (skipped ≡ [])
SplitsPageEntries (entry ∷ entries) objects skipped =
    ((object : Described) × (others : List Described) × (objects ≡ object ∷ others) × IsKeptEntry entry object × SplitsPageEntries entries others skipped)
    ⊎ ((others : List Entry) × (skipped ≡ entry ∷ others) × IsSkippedEntry entry × SplitsPageEntries entries objects others)

-- whether the object became a new row
abbrev pub is_added : AddOutcome → Bool
is_added (Added date) = true
is_added (Present date) = false

-- the tally counts the objects that became rows, those that were there already, and the entries
-- that were skipped
pub record Tallies (outcomes : List AddOutcome) (skipped : List Entry) (tally : Tally) : Type 0 where
  pub added_is : tally.added ≡ count_by is_added outcomes
  pub present_is : tally.present ≡ count_by (λ outcome. not (is_added outcome)) outcomes
  pub skipped_is : tally.skipped ≡ length skipped

-- a page that was absorbed: its entries, the moment when they were added, and its tally
pub record Absorbed : Type 0 where
  pub entries : List Entry
  pub moment : ℕ
  pub tally : Tally

-- a page is absorbed by a store: each entry that is an valid object is added, in order, the others
-- are skipped, and the tally says so
pub record Absorbs (collection : ℕ) (page : Absorbed) (before after : StoreState) : Type 0 where
  pub objects : List Described
  pub skipped : List Entry
  pub splits : SplitsPageEntries page.entries objects skipped
  pub outcomes : List AddOutcome
  pub new : List StoredRow
  pub addition : IsAddition before collection page.moment objects outcomes new
  pub after_is : after ≡ with_rows new (watermark_after before.watermark new) before
  pub tallies : Tallies outcomes skipped page.tally

-- fewer dates are left than the objects of the page make new rows
pub record LacksDatesForPage (collection : ℕ) (entries : List Entry) (store : StoreState) : Type 0 where
  pub objects : List Described
  pub skipped : List Entry
  pub splits : SplitsPageEntries entries objects skipped
  pub lacks : UsesUpDates store collection objects
