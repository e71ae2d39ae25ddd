-- The first of what a step selects is reached by it.
use Rattle.std.proofs.Common.{arith, ◌≡◌, ◌↔◌, ℕ, List, [], ◌∷◌, Option, Some, None, slice_get, option_copied, sym}
use Rattle.std.specs.Prelude.{Contains, IfSome}
use Rattle.std.specs.Borrow.{Bor}
use Rattle.std.proofs.lemmas.Option.{same_Some, none-some}
use Rattle.serde_json.specs.Data.{Data}
use Rattle.stix_json.specs.declared.value.Json.{Json}
use Rattle.stix_json.specs.DataOf.{data_of}
use Rattle.stix_bundles.specs.Objects.{data_in}
use Rattle.pattern_types.specs.declared.path.Step.{Step}
use Rattle.match_comparisons.specs.Selection.{StepReaches}
use Rattle.hunt_index.proofs.ListLemmas.{in_map}

first_there : (xs : List Json) (x : Json) → Some x ≡ slice_get xs 0 → Contains xs x
first_there [] x is = absurd (none-some x (sym is))
first_there (y ∷ xs) x is = (0, omega arith, sym (same_Some x y is))

pub first_reached : (objects : List Data) (last : Option (List ℕ)) (step : Step) (value : Data) (found : List Json) (first : Option (Bor Json)) → option_copied first ≡ slice_get found 0
    → ((next : Data) → Contains (data_in found) next ↔ StepReaches objects last step value next) → IfSome first (λ tree. StepReaches objects last step value (data_of tree.now))
first_reached objects last step value found None is reached = tt
first_reached objects last step value found (Some tree) is reached = (reached (data_of tree.now)).0 (in_map data_of found tree.now (first_there found tree.now is))
