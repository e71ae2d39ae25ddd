use Rattle.std.proofs.Common.{◌≡◌, ℕ, suc, ◌≤◌, length}
use Rattle.json.specs.Json.{members, value}
use Rattle.serde_json.specs.Data.{Members, no_members}
use Rattle.serde_json.specs.Read.{of_members, converted}
use Rattle.stix_json.specs.declared.property_value.TheConstants.{LEFT}
use Rattle.stix_json.specs.inner.PropertyValue.{HoldsProperties}
use Rattle.stix_json.proofs.property_value.take_properties.Given as goal

abbrev pub invariant-members : goal.invariant-members
invariant-members l =
    (n : ℕ) × (length l.reader ≤ n) × (found : Members)
    × (converted (λ ms. of_members ms no_members) (members (value (suc LEFT)) (length l.initial.reader) l.initial.reader) ≡ converted (λ ms. of_members ms found) (members (value (suc LEFT)) n l.reader))
    × HoldsProperties found l.properties.items × (length l.reader ≤ length l.initial.reader)

abbrev pub decreases-members : goal.decreases-members
decreases-members l = length l.reader
