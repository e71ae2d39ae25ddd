-- The texts of refused lines of a feed.
use Rattle.std.specs.Prelude.{ℕ, List, [], ◌∷◌, ◌++◌, codes}
use Rattle.stix_objects.specs.RuleName.{rule_name}
use Rattle.stix_objects.specs.declared.rule_break.Break.{Break}
use Rattle.match_input.specs.Texts.{text_at_path, json_text, refused_line_text}
use Rattle.hunt_feed.specs.declared.rule.FeedRule.{FeedRule}
use Rattle.hunt_feed.specs.declared.rule.FeedRule.TheVariants.{LineTooLong, InputTooLong, Json, Breaks}

-- the first of some breaks: its rule, and the path of what breaks it
abbrev pub first_rule_break_text : List Break → List ℕ
first_rule_break_text [] = codes "Breaks"
first_rule_break_text (found ∷ more) = text_at_path (codes "Breaks " ++ rule_name found.rule) found.path

-- LineTooLong, Null at .., Breaks Missing at ..: the text of a rule
abbrev pub rule_text : FeedRule → List ℕ
rule_text LineTooLong = codes "LineTooLong"
rule_text InputTooLong = codes "InputTooLong"
rule_text (Json refusal) = json_text refusal
rule_text (Breaks breaks) = first_rule_break_text breaks

-- indicators line N refused: WHAT
abbrev pub feed_refusal_text : ℕ → FeedRule → List ℕ
feed_refusal_text line rule = codes "indicators " ++ refused_line_text line (rule_text rule)
