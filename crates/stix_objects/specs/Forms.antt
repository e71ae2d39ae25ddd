-- The meaning of the type of a property: one value, a list of values, or a list of objects.
use Rattle.std.specs.Prelude.{◌≡◌, ⊤, ℕ, ◌+◌, List, [], ◌∷◌, Option, Some, None, MatchOption, option_map}
use Rattle.serde_json.specs.Data.{Data, Items, no_items, item}
use Rattle.serde_json.specs.Find.{get, as_array}
use Rattle.stix_json.specs.Walk.{index_part}
use Rattle.stix_objects.specs.declared.rule.Rule.{Rule}
use Rattle.stix_objects.specs.declared.rule.Rule.TheVariants.{WrongKind, EmptyList, Missing, NeedsOneOf}
use Rattle.stix_objects.specs.BreakAt.{BreakAt, here, break_under}
use Rattle.stix_objects.specs.Form.{Single, Part, must, may, some_of, Form, one, list, records, object}
use Rattle.stix_objects.specs.Checking.{Forbids, ChecksInTurn}
use Rattle.stix_objects.specs.Singles.{ChecksSingle}

-- the check of a value on its own
abbrev pub ChecksHere : Single → Data → Option BreakAt → Type 0
ChecksHere single d outcome = (rule : Option Rule) × ChecksSingle single d rule × (outcome ≡ option_map here rule)

-- the violation in a value, as seen from the part above it
abbrev pub ChecksUnder : List ℕ → (Option BreakAt → Type 0) → Option BreakAt → Type 0
ChecksUnder part Checks outcome = (inner : Option BreakAt) × Checks inner × (outcome ≡ option_map (break_under part) inner)

-- the first violation in the items from an index on
abbrev pub ChecksItems : (Data → Option BreakAt → Type 0) → ℕ → Items → Option BreakAt → Type 0
ChecksItems Checks at no_items outcome = outcome ≡ None
ChecksItems Checks at (item d ds) outcome =
    ChecksInTurn (ChecksUnder (index_part at) (Checks d)) (ChecksItems Checks (at + 1) ds) outcome

-- the first violation in a list, which must not be empty
abbrev pub ChecksList : (Data → Option BreakAt → Type 0) → Items → Option BreakAt → Type 0
ChecksList Checks no_items outcome = outcome ≡ Some (here EmptyList)
ChecksList Checks (item d ds) outcome = ChecksItems Checks 0 (item d ds) outcome

-- none of the properties is present
abbrev pub LacksAll : List (List ℕ) → Data → Type 0
LacksAll [] d = ⊤
LacksAll (name ∷ names) d = (get name d ≡ None) × LacksAll names d

-- a property of some type, if it is present; else whether it must be
abbrev pub ChecksValue : Type 0 → List ℕ → (Data → Option BreakAt → Type 0) → Option Data → Option BreakAt → Type 0
ChecksValue Needed name Checks None outcome = Forbids Needed (break_under name (here Missing)) outcome
ChecksValue Needed name Checks (Some d) outcome = ChecksUnder name (Checks d) outcome

-- the violation of a part by an object of a list
abbrev pub ChecksPart : Part → Data → Option BreakAt → Type 0
ChecksPart (must name single) d outcome = ChecksValue ⊤ name (ChecksHere single) (get name d) outcome
ChecksPart (may name single) d outcome = ChecksValue ⊥ name (ChecksHere single) (get name d) outcome
ChecksPart (some_of names) d outcome = Forbids (LacksAll names d) (here NeedsOneOf) outcome

-- the first part that is broken
abbrev pub ChecksParts : List Part → Data → Option BreakAt → Type 0
ChecksParts [] d outcome = outcome ≡ None
ChecksParts (part ∷ parts) d outcome = ChecksInTurn (ChecksPart part d) (ChecksParts parts d) outcome

-- a value that is a list, else WrongKind
abbrev pub OfList : (Items → Option BreakAt → Type 0) → Data → Option BreakAt → Type 0
OfList Checks d outcome = MatchOption (as_array d) (outcome ≡ Some (here WrongKind)) (λ ds. Checks ds outcome)

-- a list of objects, and then the parts of each
abbrev pub ChecksRecords : List Part → Items → Option BreakAt → Type 0
ChecksRecords parts ds outcome = ChecksInTurn (ChecksList (ChecksHere object) ds) (ChecksItems (ChecksParts parts) 0 ds) outcome

-- the violation of the type of a property by its value
abbrev pub ChecksForm : Form → Data → Option BreakAt → Type 0
ChecksForm (one single) d outcome = ChecksHere single d outcome
ChecksForm (list single) d outcome = OfList (ChecksList (ChecksHere single)) d outcome
ChecksForm (records parts) d outcome = OfList (ChecksRecords parts) d outcome

-- the value has the type
abbrev pub MeetsForm : Form → Data → Type 0
MeetsForm form d = ChecksForm form d None
