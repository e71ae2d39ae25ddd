-- The texts of refused lines.
use Rattle.std.specs.Prelude.{◌≡◌, ℕ, List, [], ◌∷◌, ◌++◌, codes, decimal}
use Rattle.stix_times.specs.Writing.{IsCanonicalTextOf}
use Rattle.stix_json.specs.declared.refusal.JsonRefusal.{JsonRefusal}
use Rattle.stix_json.specs.declared.refusal.JsonRefusal.TheVariants as json
use Rattle.stix_objects.specs.RuleName.{rule_name}
use Rattle.stix_bundles.specs.declared.object_break.ObjectBreak.{ObjectBreak}
use Rattle.stix_bundles.specs.declared.refusal.BundleRefusal.{BundleRefusal}
use Rattle.stix_bundles.specs.declared.refusal.BundleRefusal.TheVariants as bundle
use Rattle.match_input.specs.declared.rule.InputRule.{InputRule}
use Rattle.match_input.specs.declared.rule.InputRule.TheVariants.{LineTooLong, InputTooLong, Json, Bundle, Embedded, OutOfOrder}

-- a name, and the path in the value, unless that is empty
abbrev pub text_at_path : List ℕ → List ℕ → List ℕ
text_at_path name [] = name
text_at_path name (c ∷ path) = name ++ (codes " at " ++ c ∷ path)

abbrev pub json_text : JsonRefusal → List ℕ
json_text json.NotJson = codes "NotJson"
json_text (json.TooDeep path) = text_at_path (codes "TooDeep") path
json_text (json.NotWhole path) = text_at_path (codes "NotWhole") path
json_text (json.Null path) = text_at_path (codes "Null") path
json_text (json.OutOfRange path) = text_at_path (codes "OutOfRange") path
json_text json.NotList = codes "NotList"
json_text json.NoMemory = codes "out of memory"

-- a break of an object of a bundle
abbrev pub break_text : ObjectBreak → List ℕ
break_text broken = codes "object " ++ (decimal broken.object ++ (codes ": " ++ text_at_path (rule_name broken.found.rule) broken.found.path))

-- the first of some breaks
abbrev pub first_object_break_text : List ObjectBreak → List ℕ
first_object_break_text [] = []
first_object_break_text (broken ∷ more) = codes " " ++ break_text broken

abbrev pub bundle_text : BundleRefusal → List ℕ
bundle_text (bundle.NotBundle path) = text_at_path (codes "NotBundle") path
bundle_text (bundle.Breaks breaks) = codes "Breaks" ++ first_object_break_text breaks
bundle_text bundle.NoMemory = codes "out of memory"

-- LineTooLong, NotBundle at .., OutOfOrder last .. now ..: the text of a rule. Of an instant it is the canonical one
abbrev pub IsRuleText : InputRule → List ℕ → Type 0
IsRuleText LineTooLong text = text ≡ codes "LineTooLong"
IsRuleText InputTooLong text = text ≡ codes "InputTooLong"
IsRuleText (Json refusal) text = text ≡ json_text refusal
IsRuleText (Bundle refusal) text = text ≡ bundle_text refusal
IsRuleText (Embedded object) text = text ≡ codes "EmbeddedObjects object " ++ decimal object
IsRuleText (OutOfOrder last now) text = (before after : List ℕ) × IsCanonicalTextOf before last × IsCanonicalTextOf after now
    × (text ≡ codes "OutOfOrder last " ++ (before ++ (codes " now " ++ after)))

-- line N refused: WHAT, of the number's text
abbrev pub line_of_text : List ℕ → List ℕ → List ℕ
line_of_text number what = codes "line " ++ (number ++ (codes " refused: " ++ (what ++ codes "\n")))

abbrev pub refused_line_text : ℕ → List ℕ → List ℕ
refused_line_text line what = line_of_text (decimal line) what

-- the line of a rule
abbrev pub IsInputRefusalText : ℕ → InputRule → List ℕ → Type 0
IsInputRefusalText line rule text = (what : List ℕ) × IsRuleText rule what × (text ≡ refused_line_text line what)
