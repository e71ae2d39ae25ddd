-- For private clauses: a refusal in parts, borrowed.
use Rattle.std.specs.Prelude.{ℕ, List, [], ◌∷◌, ◌++◌, Option, Some, None, codes, decimal}
use Rattle.stix_objects.specs.RuleName.{rule_name}
use Rattle.match_input.specs.declared.reason.Reason.{Reason}
use Rattle.match_input.specs.declared.reason.Breaking.{Breaking}
use Rattle.match_input.specs.Texts.{text_at_path}

-- ` object N: RULE`, of the texts of a number and a rule
abbrev pub broken_words : List ℕ → List ℕ → List ℕ
broken_words number rule = codes " object " ++ (number ++ (codes ": " ++ rule))

abbrev pub broken_text : Option Breaking → List ℕ
broken_text None = []
broken_text (Some broken) = broken_words (decimal broken.object) (rule_name broken.rule)

abbrev pub line_reason_text : Reason → List ℕ
line_reason_text said = text_at_path (said.name.now ++ broken_text said.broken) said.path.now

-- ` at ` before a path, and nothing before an empty one
abbrev pub path_lead : List ℕ → List ℕ
path_lead [] = []
path_lead (c ∷ path) = codes " at "
