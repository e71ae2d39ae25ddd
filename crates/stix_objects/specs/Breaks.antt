-- The violations of an object: one for each row that it doesn't meet, in the order of the rows.
use Rattle.std.specs.Prelude.{◌≡◌, ⊤, ℕ, List, [], ◌∷◌, ◌++◌, Bool, true, false, ◌&&◌, not, Option, Some, None, MatchOption, if◌then◌else◌, bytes_eq, codes, option_and_then, option_map, filter_map}
use Rattle.std.specs.List.{list_any}
use Rattle.serde_json.specs.Data.{Data}
use Rattle.serde_json.specs.Find.{as_object}
use Rattle.stix_objects.specs.declared.groups.Group.{Group}
use Rattle.stix_objects.specs.declared.groups.Group.TheVariants.{Domain, Marking, Observable, Other}
use Rattle.stix_objects.specs.declared.rule.Rule.TheVariants.{NotObject}
use Rattle.stix_objects.specs.declared.rule_break.Break.{Break}
use Rattle.stix_objects.specs.BreakAt.{BreakAt, here, break_of}
use Rattle.stix_objects.specs.Row.{Row, required, optional, required_where, CommonRow, for, unless_own, ObjectType}
use Rattle.stix_objects.specs.CommonRows.{common_rows}
use Rattle.stix_objects.specs.Types.{type_named, group_in, own_rows}
use Rattle.stix_json.specs.Properties.{property_text}
use Rattle.stix_objects.specs.Rows.{Checks}

-- whether two groups are equal
abbrev pub same_group : Group → Group → Bool
same_group Domain Domain = true
same_group Marking Marking = true
same_group Observable Observable = true
same_group Other Other = true
same_group _ _ = false

-- whether the row is about the property of this name
abbrev pub is_rule_row_of : List ℕ → Row → Bool
is_rule_row_of name (required own form) = bytes_eq own name
is_rule_row_of name (optional own form) = bytes_eq own name
is_rule_row_of name (required_where own form condition) = bytes_eq own name
is_rule_row_of name _ = false

-- the common row, if it applies to a type with this group and these own rows
abbrev pub applicable : Group → List Row → CommonRow → Option Row
applicable group own (for groups row) = if list_any (same_group group) groups then Some row else None
applicable group own (unless_own groups name row) =
    if list_any (same_group group) groups && not (list_any (is_rule_row_of name) own) then Some row else None

-- the rows of a type: the common rows that apply to it, then its own
abbrev pub rows_for : Option ObjectType → List Row
rows_for type = filter_map (applicable (group_in type) (own_rows type)) common_rows ++ own_rows type

-- the type of an object, if it has its own rows
abbrev pub type_of : Data → Option ObjectType
type_of d = option_and_then type_named (property_text (codes "type") d)

-- each row's outcome, in order
abbrev pub ChecksRows : List Row → Data → List (Option BreakAt) → Type 0
ChecksRows [] d [] = ⊤
ChecksRows [] d (outcome ∷ outcomes) = ⊥
ChecksRows (row ∷ rows) d [] = ⊥
ChecksRows (row ∷ rows) d (outcome ∷ outcomes) = Checks row d outcome × ChecksRows rows d outcomes

-- these are the violations of the rows
pub record AreBreaksBy (rows : List Row) (d : Data) (breaks : List Break) : Type 0 where
  pub outcomes : List (Option BreakAt)
  pub checked : ChecksRows rows d outcomes
  pub told : breaks ≡ filter_map (option_map break_of) outcomes

-- these are the violations of a value: those of its rows for an object, else NotObject
abbrev pub AreBreaksOf : Data → List Break → Type 0
AreBreaksOf d breaks =
    MatchOption (as_object d) (breaks ≡ break_of (here NotObject) ∷ []) (λ ms. AreBreaksBy (rows_for (type_of d)) d breaks)
