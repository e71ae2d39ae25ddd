-- Breaks that are added row by row are those of the rows.
use Rattle.std.proofs.Common.{◌≡◌, List, [], ◌∷◌, ◌++◌, append_assoc, Option, Some, None, option_map, option_to_list, filter_map, refl, sym, ap, ◌∙◌, subst}
use Rattle.std.specs.List.{cons_option}
use Rattle.serde_json.specs.Data.{Data}
use Rattle.stix_objects.specs.declared.groups.Group.{Group}
use Rattle.stix_objects.specs.declared.rule_break.Break.{Break}
use Rattle.stix_objects.specs.BreakAt.{BreakAt, break_of}
use Rattle.stix_objects.specs.Row.{Row, CommonRow, ObjectType}
use Rattle.stix_objects.specs.CommonRows.{common_rows}
use Rattle.stix_objects.specs.Types.{group_in, own_rows}
use Rattle.stix_objects.specs.Breaks.{rows_for, ChecksRows, AreBreaksBy}
use Rattle.stix_objects.specs.inner.Adding.{with_break, AddsBreaks, applicable_rows}

adds_from : (rows : List Row) (d : Data) (before mid after : List Break) → mid ≡ before → AddsBreaks rows d mid after → AddsBreaks rows d before after
adds_from rows d before mid after is adds = subst (λ (from : List Break). AddsBreaks rows d from after) is adds

-- first the row that may stand, then the others
pub adds_applicable : (row : Option Row) (rows : List Row) (d : Data) (before mid after : List Break) → AddsBreaks (option_to_list row) d before mid → AddsBreaks rows d mid after
    → AddsBreaks (cons_option row rows) d before after
adds_applicable None rows d before mid after first rest = adds_from rows d before mid after first rest
adds_applicable (Some row) rows d before mid after first rest =
    (first.0, first.1, adds_from rows d (with_break before first.0) mid after first.2 rest)

adds_append : (first rest : List Row) (d : Data) (before mid after : List Break) → AddsBreaks first d before mid → AddsBreaks rest d mid after → AddsBreaks (first ++ rest) d before after
adds_append [] rest d before mid after h k = adds_from rest d before mid after h k
adds_append (row ∷ rows) rest d before mid after h k = (h.0, h.1, adds_append rows rest d (with_break before h.0) mid after h.2 k)

told_first : (told : Option Break) (later : List Break) → option_to_list told ++ later ≡ cons_option told later
told_first None later = refl
told_first (Some found) later = refl

append_nil : (xs : List Break) → xs ++ [] ≡ xs
append_nil [] = refl
append_nil (x ∷ xs) = ap (λ ys. x ∷ ys) (append_nil xs)

-- what is added is told by the outcomes
pub record Told (rows : List Row) (d : Data) (before after : List Break) : Type 0 where
  pub outcomes : List (Option BreakAt)
  pub checked : ChecksRows rows d outcomes
  pub told : after ≡ before ++ filter_map (option_map break_of) outcomes

adds_told : (rows : List Row) (d : Data) (before after : List Break) → AddsBreaks rows d before after → Told rows d before after
adds_told [] d before after adds = record { outcomes = []; checked = tt; told = adds ∙ sym (append_nil before) }
adds_told (row ∷ rows) d before after adds =
    let outcome = adds.0 in
    let later = adds_told rows d (with_break before outcome) after adds.2 in
    let rest = filter_map (option_map break_of) later.outcomes in
    record {
      outcomes = outcome ∷ later.outcomes;
      checked = (adds.1, later.checked);
      told = later.told ∙ append_assoc before (option_to_list (option_map break_of outcome)) rest ∙ ap (λ ys. before ++ ys) (told_first (option_map break_of outcome) rest);
    }

same_rows : (g h : Group) (own other : List Row) (cs ds : List CommonRow) → g ≡ h → own ≡ other → cs ≡ ds
    → applicable_rows g own cs ++ own ≡ applicable_rows h other ds ++ other
same_rows g h own other cs ds group rows commons = cc

-- the common rows that stand, and then the own rows, are the rows of the type
pub breaks_by : (group : Group) (own : List Row) (commons : List CommonRow) (type : Option ObjectType) (d : Data) (mid after : List Break)
    → group ≡ group_in type → own ≡ own_rows type → commons ≡ common_rows
    → AddsBreaks (applicable_rows group own commons) d [] mid → AddsBreaks own d mid after → AreBreaksBy (rows_for type) d after
breaks_by group own commons type d mid after g o cs first rest =
    let both : AddsBreaks (applicable_rows group own commons ++ own) d [] after = adds_append (applicable_rows group own commons) own d [] mid after first rest in
    let all : AddsBreaks (rows_for type) d [] after = subst (λ (rows : List Row). AddsBreaks rows d [] after) (same_rows group (group_in type) own (own_rows type) commons common_rows g o cs) both in
    let told = adds_told (rows_for type) d [] after all in
    record { outcomes = told.outcomes; checked = told.checked; told = told.told }
