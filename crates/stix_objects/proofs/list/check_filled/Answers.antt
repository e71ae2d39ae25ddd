use Rattle.std.proofs.Common.{◌≡◌, List, [], ◌∷◌, length, map, Option, false, ◌==◌, sym, ◌∙◌}
use Rattle.serde_json.specs.View.{items_of}
use Rattle.serde_json.specs.Data.{Data}
use Rattle.stix_json.specs.declared.value.Json.{Json}
use Rattle.stix_json.specs.DataOf.{data_of}
use Rattle.stix_objects.specs.BreakAt.{BreakAt}
use Rattle.stix_objects.specs.Forms.{ChecksHere, ChecksItems, ChecksList}
use Rattle.stix_objects.specs.inner.Views.{single_view}
use Rattle.stix_objects.proofs.list.check_filled.Goals as goal

filled : (Checks : Data → Option BreakAt → Type 0) (items : List Json) (outcome : Option BreakAt) → (length items == 0) ≡ false
    → ChecksItems Checks 0 (items_of (map data_of items)) outcome → ChecksList Checks (items_of (map data_of items)) outcome
filled Checks [] outcome is checked = absurd (cc)
filled Checks (item ∷ items) outcome is checked = checked

pub returns : goal.returns
returns c = filled (ChecksHere (single_view c.args.single.now)) c.args.items.now _ (sym c.is_empty.ensures ∙ c.if-is_empty.false) c.first_broken.ensures
