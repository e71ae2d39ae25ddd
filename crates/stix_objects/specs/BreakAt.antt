-- A violation found by a row: the rule, and where.
use Rattle.std.specs.Prelude.{ℕ, List, [], ◌∷◌}
use Rattle.stix_json.specs.Walk.{path_text}
use Rattle.stix_objects.specs.declared.rule.Rule.{Rule}
use Rattle.stix_objects.specs.declared.rule_break.Break.{Break}

-- a broken rule, and the parts of the path to what breaks it: property names and list indices
pub record BreakAt : Type 0 where
  pub rule : Rule
  pub parts : List (List ℕ)

-- the value itself breaks the rule
abbrev pub here : Rule → BreakAt
here rule = record { rule = rule; parts = [] }

-- the violation as seen from one part higher
abbrev pub break_under : List ℕ → BreakAt → BreakAt
break_under part found = record { rule = found.rule; parts = part ∷ found.parts }

-- the reported violation: its path is its parts, joined by dots
abbrev pub break_of : BreakAt → Break
break_of found = record { rule = found.rule; path = path_text found.parts }
