use Rattle.std.proofs.Common.{ℕ, zero, suc, ◌<◌, List, [], ◌∷◌, length, get_or, arith}
use Rattle.serde_json.specs.Data.{Data}
use Rattle.serde_json.specs.View.{items_of}
use Rattle.stix_json.specs.Ordered.{IsOrdered, ItemsAreOrdered}
use Rattle.stix_json.proofs.OrderedLemmas.{property_ordered}
use Rattle.stix_json.proofs.laws.ordered_parts.Goals as goal

pub returns-clause-property : goal.returns-clause-property
returns-clause-property c = property_ordered

at_item : (items : List Data) → ItemsAreOrdered (items_of items) → (k : ℕ) (d : Data) → k < length items → IsOrdered (get_or items k d)
at_item [] ordered k d within = absurd (omega arith)
at_item (e ∷ es) ordered zero d within = ordered.0
at_item (e ∷ es) ordered (suc k) d within = at_item es ordered.1 k d (omega arith)

pub returns-clause-items : goal.returns-clause-items
returns-clause-items c = at_item
