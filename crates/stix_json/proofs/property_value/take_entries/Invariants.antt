use Rattle.std.proofs.Common.{◌≡◌, ℕ, List, ◌≤◌, length}
use Rattle.json.specs.Json.{items, value, parse_map}
use Rattle.serde_json.specs.Data.{Data}
use Rattle.serde_json.specs.Read.{of_items, converted}
use Rattle.serde_json.specs.View.{items_of}
use Rattle.stix_json.specs.declared.property_value.TheConstants.{LEFT}
use Rattle.stix_json.specs.Entries.{AreEntriesFor}
use Rattle.stix_json.proofs.TokensLemmas.{items_before}
use Rattle.stix_json.proofs.property_value.take_entries.Given as goal

abbrev pub invariant-items : goal.invariant-items
invariant-items l =
    (n : ℕ) × (length l.reader ≤ n) × (done : List Data)
    × (converted of_items (items (value LEFT) (length l.initial.reader) l.initial.reader) ≡ parse_map (items_before done) (converted of_items (items (value LEFT) n l.reader)))
    × AreEntriesFor (items_of done) l.entries × (length l.reader ≤ length l.initial.reader)

abbrev pub decreases-items : goal.decreases-items
decreases-items l = length l.reader
