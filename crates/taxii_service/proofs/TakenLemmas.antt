-- Entries that were read: JSON's limits take their values.
use Rattle.std.proofs.Common.{◌≡◌, List, [], ◌∷◌, None, All, sym, subst}
use Rattle.std.proofs.lemmas.List.Elements.{All-cons, All-nil}
use Rattle.serde_json.specs.Data.{Data, Items, no_items, item}
use Rattle.stix_json.specs.declared.entry.Entry.{Entry}
use Rattle.stix_json.specs.declared.entry.Entry.TheVariants.{Good, Bad}
use Rattle.stix_json.specs.Entries.{AreEntriesFor}
use Rattle.stix_json.specs.Ordered.{IsOrdered}
use Rattle.stix_json.specs.Reading.{IsEntryFor}
use Rattle.stix_json.specs.Refusal.{data_refusal}
use Rattle.taxii_service.specs.inner.Posting.{IsTakenEntry}

taken_one : (d : Data) (entry : Entry) → IsEntryFor d entry → IsTakenEntry entry
taken_one d (Good value) is = (subst (λ (v : Data). data_refusal v ≡ None) (sym is.same) is.good, subst IsOrdered (sym is.same) is.ordered)
taken_one d (Bad refusal) is = tt

pub taken_all : (ds : Items) (entries : List Entry) → AreEntriesFor ds entries → All IsTakenEntry entries
taken_all no_items [] are = All-nil IsTakenEntry
taken_all no_items (entry ∷ entries) are = absurd are
taken_all (item d ds) [] are = absurd are
taken_all (item d ds) (entry ∷ entries) are = All-cons IsTakenEntry entry entries (taken_one d entry are.0) (taken_all ds entries are.1)
