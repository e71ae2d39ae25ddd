-- For private clauses: violations added row by row. proofs/AddingLemmas.antt proves that they are
-- those of Breaks.
use Rattle.std.specs.Prelude.{◌≡◌, List, [], ◌∷◌, ◌++◌, Option, option_map, option_to_list, filter_map}
use Rattle.serde_json.specs.Data.{Data}
use Rattle.stix_objects.specs.declared.groups.Group.{Group}
use Rattle.stix_objects.specs.declared.rule_break.Break.{Break}
use Rattle.stix_objects.specs.BreakAt.{BreakAt, break_of}
use Rattle.stix_objects.specs.Row.{Row, CommonRow}
use Rattle.stix_objects.specs.Rows.{Checks}
use Rattle.stix_objects.specs.Breaks.{applicable}

-- the violations before, with the one of an outcome, if any
abbrev pub with_break : List Break → Option BreakAt → List Break
with_break before outcome = before ++ option_to_list (option_map break_of outcome)

-- the violations before, with the one of a row, if any
abbrev pub AddsOne : Row → Data → List Break → List Break → Type 0
AddsOne row d before after = (outcome : Option BreakAt) × Checks row d outcome × (after ≡ with_break before outcome)

-- the violations before, with those of the rows
abbrev pub AddsBreaks : List Row → Data → List Break → List Break → Type 0
AddsBreaks [] d before after = after ≡ before
AddsBreaks (row ∷ rows) d before after =
    (outcome : Option BreakAt) × Checks row d outcome × AddsBreaks rows d (with_break before outcome) after

-- the common rows that apply to a type with this group and these own rows
abbrev pub applicable_rows : Group → List Row → List CommonRow → List Row
applicable_rows group own commons = filter_map (applicable group own) commons
