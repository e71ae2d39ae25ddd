-- For private clauses: parts joined by dots, of which the first may be an index too.
use Rattle.std.specs.Prelude.{◌≡◌, ◌≢◌, ℕ, List, [], map}
use Rattle.stix_json.specs.Walk.{path_text}
use Rattle.stix_versions.specs.Selector.{SelectorPart, AreSelectorParts, IsPart, selector_part_text}

-- the text is these parts, one or more
pub record IsSelectorPath (text : List ℕ) (parts : List SelectorPart) : Type 0 where
  pub are_parts : AreSelectorParts parts
  pub some : parts ≢ []
  pub spelled : text ≡ path_text (map selector_part_text parts)

-- the text is this part
pub record IsSelectorPartText (text : List ℕ) (part : SelectorPart) : Type 0 where
  pub is_part : IsPart part
  pub spelled : text ≡ selector_part_text part
