-- The meaning of a row: the violation by an object.
use Rattle.std.specs.Prelude.{◌≡◌, ⊤, ℕ, List, [], ◌∷◌, Option, None, option_map, codes}
use Rattle.serde_json.specs.Data.{Data}
use Rattle.serde_json.specs.Find.{get}
use Rattle.stix_objects.specs.declared.rule.Rule.{Rule}
use Rattle.stix_objects.specs.declared.rule.Rule.TheVariants.{Missing, BadId, BadOrder, BadWord, NeedsOneOf, Excludes}
use Rattle.stix_objects.specs.BreakAt.{BreakAt, here}
use Rattle.stix_objects.specs.Row.{Row, required, optional, required_where, own_id, order, strict_order, needs_one_of, excludes, statement, colour, colour_id}
use Rattle.stix_objects.specs.Checking.{Forbids}
use Rattle.stix_objects.specs.Singles.{ChecksOwnId}
use Rattle.stix_objects.specs.Forms.{ChecksValue, ChecksForm, LacksAll}
use Rattle.stix_objects.specs.Conditions.{Holds, HoldAll, SecondIsEarlier, SecondIsNotLater, defined_text, defined_colour, IsMarking, HasOtherColour}
use Rattle.stix_json.specs.Properties.{property_text}

-- a rule broken at a path
abbrev pub at : List (List ℕ) → Rule → BreakAt
at parts rule = record { rule = rule; parts = parts }

-- the marking lacks a text of its statement
abbrev pub LacksStatement : Data → Type 0
LacksStatement d = IsMarking (codes "statement") d × (defined_text (codes "statement") d ≡ None)

-- the marking lacks a colour
abbrev pub LacksColour : Data → Type 0
LacksColour d = IsMarking (codes "tlp") d × (defined_colour d ≡ None)

-- the identifier of an object of this type
abbrev pub ChecksOwn : Option (List ℕ) → Data → Option BreakAt → Type 0
ChecksOwn own d outcome = (rule : Option Rule) × ChecksOwnId own d rule × (outcome ≡ option_map here rule)

-- the violation of a row by an object
abbrev pub Checks : Row → Data → Option BreakAt → Type 0
Checks (required name form) d outcome = ChecksValue ⊤ name (ChecksForm form) (get name d) outcome
Checks (optional name form) d outcome = ChecksValue ⊥ name (ChecksForm form) (get name d) outcome
Checks (required_where name form condition) d outcome =
    ChecksValue (Holds condition d) name (ChecksForm form) (get name d) outcome
Checks own_id d outcome =
    ChecksValue ⊤ (codes "id") (ChecksOwn (property_text (codes "type") d)) (get (codes "id") d) outcome
Checks (order precision first second) d outcome =
    Forbids (SecondIsEarlier precision first second d) (at (second ∷ []) BadOrder) outcome
Checks (strict_order precision first second) d outcome =
    Forbids (SecondIsNotLater precision first second d) (at (second ∷ []) BadOrder) outcome
Checks (needs_one_of parts names) d outcome = Forbids (LacksAll names d) (at parts NeedsOneOf) outcome
Checks (excludes name conditions) d outcome = Forbids (HoldAll conditions d) (at (name ∷ []) Excludes) outcome
Checks statement d outcome =
    Forbids (LacksStatement d) (at (codes "definition" ∷ codes "statement" ∷ []) Missing) outcome
Checks colour d outcome =
    Forbids (LacksColour d) (at (codes "definition" ∷ codes "tlp" ∷ []) BadWord) outcome
Checks colour_id d outcome = Forbids (HasOtherColour d) (at (codes "id" ∷ []) BadId) outcome
